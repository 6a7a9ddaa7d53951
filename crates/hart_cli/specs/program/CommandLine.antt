-- What the words after the program's name ask for, as the library clap reads them (implementation choice).
use Rattle.std.specs.Prelude.{◌≡◌, ◌&&◌, if◌then◌else◌, [], ◌∷◌, ℕ, Bool, List, Option, None, Some, codes, false, length, nat_le, nat_lt}
use Rattle.std.specs.Prelude.{option_map, pos, true, unwrap_or}
use Rattle.std.specs.Option.{option_and_then}
use Rattle.std.specs.Str.{all_ascii_digits, bytes_eq}
use Rattle.std.specs.Str.Parse.{digits_value, without_leading_plus}
use Rattle.clap.specs.Words.{App, Row, Rule, Text, all_of, fault_of, first_of, new_app, new_rule, subcommand_of, with_rule, with_subcommand}
use Rattle.clap.specs.declared.builder.action.ArgAction.TheVariants.{Append, SetTrue}
use Rattle.clap.specs.declared.builder.value_parser.ValueParser.TheVariants.{Signed}
use Rattle.hart_station.specs.Encode.{MessageWords}
use Rattle.hart_cli.specs.master.MasterWords.{MasterWords}
use Rattle.hart_station.specs.Request.{RequestWords}
use Rattle.hart_cli.specs.declared.calls.program.command_line.Call.{Call}
use Rattle.hart_cli.specs.declared.calls.program.command_line.Call.TheVariants.{Answer, Dump, Encode, Explain, Master, Request}
use Rattle.hart_cli.specs.declared.calls.program.command_line.Call.TheVariants.{Serve, Sim}
use Rattle.hart_cli.specs.declared.calls.explain.printer.Style.TheVariants.{Objects, Words}

-- The rule of clap for a required word with this name.
abbrev pub required_rule : Text → Rule
required_rule id = record (new_rule id) { required = true }

-- The rule of clap for an option whose value is a number within bounds. If the option has a default value, `defaults` has this value.
abbrev pub number_rule : Text → (least most : ℕ) → List Text → Rule
number_rule name least most defaults = record (new_rule name) {
  long = Some name;
  value_names = 1;
  defaults = defaults;
  parser = Some (Signed (pos least) (pos most));
}

-- The option `--preambles` gives the number of preamble bytes, from 5 to 20. If the option is absent, the word `default` is used.
abbrev pub preambles_rule : Text → Rule
preambles_rule default = number_rule (codes "preambles") 5 20 (default ∷ [])

-- The option `--who` says which of the two masters the program is. If the option is absent, the program is the primary master.
abbrev pub who_rule : Rule
who_rule = record (new_rule (codes "who")) { long = Some (codes "who"); value_names = 1; defaults = codes "P" ∷ [] }

-- The option `--image` gives the image.
abbrev pub image_rule : Rule
image_rule = record (new_rule (codes "image")) { long = Some (codes "image"); value_names = 1 }

-- The rule of clap for a flag: a long option without a word.
abbrev pub flag_rule : Text → Rule
flag_rule name = record (new_rule name) { long = Some name; action = Some SetTrue }

-- The command `explain` takes the flags `--raw`, for a raw input, and `--json`, for JSON. It takes no words.
abbrev pub explain_app : App
explain_app = with_rule (with_rule (new_app (codes "explain")) (flag_rule (codes "raw"))) (flag_rule (codes "json"))

-- The commands `answer`, `serve` and `sim` take an image, and no words.
abbrev pub image_app : Text → App
image_app name = with_rule (new_app name) image_rule

-- A command with the three required words of `encode` and `request`, and with nothing else.
abbrev pub app_with_required_words : Text → App
app_with_required_words name =
    let who = with_rule (new_app name) (required_rule (codes "WHO")) in
    let address = with_rule who (required_rule (codes "ADDRESS")) in
    with_rule address (required_rule (codes "COMMAND"))

-- The command `encode` takes the three required words, an optional fourth word, and the number of preamble bytes.
abbrev pub encode_app : App
encode_app =
    let payload = with_rule (app_with_required_words (codes "encode")) (new_rule (codes "DATA")) in
    with_rule payload (preambles_rule (codes "5"))

-- The rule of clap for the words that give fields: any number of words, even none.
abbrev pub fields_rule : Rule
fields_rule = record (new_rule (codes "FIELD")) { action = Some Append }

-- The command `request` takes the three required words, the words of fields, and the number of preamble bytes.
abbrev pub request_app : App
request_app = with_rule (with_rule (app_with_required_words (codes "request")) fields_rule) (preambles_rule (codes "5"))

-- The command `master` takes the option `--who`, and three numbers. If `--retries` is absent, a request is sent again up to three times. If
-- `--preambles` is absent, a message has 20 preamble bytes.
abbrev pub master_app : App
master_app =
    let who = with_rule (new_app (codes "master")) who_rule in
    let retries = with_rule who (number_rule (codes "retries") 0 15 (codes "3" ∷ [])) in
    let limit = with_rule retries (number_rule (codes "limit") 1 255 []) in
    with_rule limit (preambles_rule (codes "20"))

-- The command `hart` before its subcommands are added. Its words do not include the program's name. It has a version, and one of its words
-- must name a subcommand. If there are no words at all, clap shows the help.
abbrev pub hart_alone : App
hart_alone =
    let plain = new_app (codes "hart") in
    let top = record plain.top {
      no_binary_name = true;
      has_version = true;
      subcommand_required = true;
      arg_required_else_help = true;
    } in
    record plain { top = top }

-- The command `hart` with the subcommands that read what was heard: `answer`, `dump` and `explain`. `dump` takes no words.
abbrev pub hearing_app : App
hearing_app =
    let answer = with_subcommand hart_alone (image_app (codes "answer")).top in
    let dump = with_subcommand answer (new_app (codes "dump")).top in
    with_subcommand dump explain_app.top

-- The command `hart` with all subcommands that read an input: `answer`, `dump`, `explain`, `serve`, `master` and `sim`.
abbrev pub reading_app : App
reading_app =
    let serve = with_subcommand hearing_app (image_app (codes "serve")).top in
    let master = with_subcommand serve master_app.top in
    with_subcommand master (image_app (codes "sim")).top

-- The command `hart` with the subcommand `request` and all subcommands that read an input.
abbrev pub asking_app : App
asking_app = with_subcommand reading_app request_app.top

-- The command `hart` with all of its eight subcommands: the subcommands of `asking_app`, and `encode`.
abbrev pub hart_app : App
hart_app = with_subcommand asking_app encode_app.top

-- The number that a word stands for, if the number lies within bounds. The word has decimal digits, perhaps after a plus sign.
abbrev pub number_of : (least most : ℕ) → Text → Option ℕ
number_of least most word =
    let digits = without_leading_plus word in
    let count = digits_value 10 digits in
    if all_ascii_digits digits && nat_lt 0 (length digits) && nat_le least count && nat_le count most then Some count else None

-- A number of preamble bytes lies between 5 and 20.
abbrev pub preambles_of : Text → Option ℕ
preambles_of = number_of 5 20

-- What `encode` is given: the number of preamble bytes, three words and the data. `None` if the number or one of the three words is
-- missing.
abbrev pub message_words : Option ℕ → Option Text → Option Text → Option Text → Text → Option MessageWords
message_words (Some preambles) (Some who) (Some address) (Some command) payload =
    Some (record { who = who; address = address; command = command; payload = payload; preambles = preambles })
message_words _ _ _ _ payload = None

-- The words of `encode`, taken from the matches of clap. If DATA is absent, the empty word stands for it.
abbrev pub words_of : List Row → Option MessageWords
words_of rows = message_words
    (option_and_then preambles_of (first_of (codes "preambles") rows))
    (first_of (codes "WHO") rows) (first_of (codes "ADDRESS") rows) (first_of (codes "COMMAND") rows)
    (unwrap_or (first_of (codes "DATA") rows) [])

-- Whether a flag is set: clap then gives the word `true` for it.
abbrev pub is_set : Option Text → Bool
is_set (Some word) = bytes_eq word (codes "true")
is_set None = false

-- The call of `explain` is for a raw input if the flag `--raw` is set, and it writes JSON if the flag `--json` is set.
abbrev pub explain_call : Option Text → Option Text → Call
explain_call raw json = Explain (if is_set json then Objects else Words) (is_set raw)

-- What `request` is given: the number of preamble bytes, three words and the fields. `None` if the number or a required word is missing.
abbrev pub request_words : Option ℕ → Option Text → Option Text → Option Text → List Text → Option RequestWords
request_words (Some preambles) (Some who) (Some address) (Some command) fields =
    Some (record { who = who; address = address; command = command; fields = fields; preambles = preambles })
request_words _ _ _ _ fields = None

-- The words of `request`, taken from the matches of clap.
abbrev pub request_words_of : List Row → Option RequestWords
request_words_of rows = request_words
    (option_and_then preambles_of (first_of (codes "preambles") rows))
    (first_of (codes "WHO") rows) (first_of (codes "ADDRESS") rows) (first_of (codes "COMMAND") rows)
    (unwrap_or (all_of (codes "FIELD") rows) [])

-- The number of an option, or `Some None` if the option is absent. `None` if the option's word is no number within the bounds.
abbrev pub optional_number : (least most : ℕ) → Option Text → Option (Option ℕ)
optional_number least most None = Some None
optional_number least most (Some word) = option_map Some (number_of least most word)

-- What `master` is given: which of the two masters the program is, and three numbers. `None` if one of the four is `None`.
abbrev pub master_words : Option Text → Option ℕ → Option (Option ℕ) → Option ℕ → Option MasterWords
master_words (Some who) (Some retries) (Some limit) (Some preambles) =
    Some (record { who = who; retries = retries; limit = limit; preambles = preambles })
master_words _ _ _ _ = None

-- The words of `master`, taken from the matches of clap.
abbrev pub master_words_of : List Row → Option MasterWords
master_words_of rows = master_words
    (first_of (codes "who") rows)
    (option_and_then (number_of 0 15) (first_of (codes "retries") rows))
    (optional_number 1 255 (first_of (codes "limit") rows))
    (option_and_then preambles_of (first_of (codes "preambles") rows))

-- The call of the subcommand with this name. `answer`, `serve` and `sim` take the word of the image, if it is given. `encode`, `request`
-- and `master` have a call only if the matches give their words. `dump` and `explain` always have a call. No other name has a call.
abbrev pub call_named : Text → List Row → Option Call
call_named name rows =
    if bytes_eq name (codes "answer") then Some (Answer (first_of (codes "image") rows))
    else if bytes_eq name (codes "dump") then Some Dump
    else if bytes_eq name (codes "explain") then Some (explain_call (first_of (codes "raw") rows) (first_of (codes "json") rows))
    else if bytes_eq name (codes "serve") then Some (Serve (first_of (codes "image") rows))
    else if bytes_eq name (codes "master") then option_map (λ words. Master words) (master_words_of rows)
    else if bytes_eq name (codes "sim") then Some (Sim (first_of (codes "image") rows))
    else if bytes_eq name (codes "encode") then option_map (λ words. Encode words) (words_of rows)
    else if bytes_eq name (codes "request") then option_map (λ words. Request words) (request_words_of rows)
    else None

-- The call of the subcommand that was found, by its name and its matches. If no subcommand was found, there is no call.
abbrev pub call_of : Option (Text × List Row) → Option Call
call_of met = option_and_then (λ (found : Text × List Row). call_named found.0 found.1) met

-- The words make this call if clap finds no fault in the words, and if the subcommand that the words name has this call.
pub record Calls (call : Call) (words : List Text) : Type 0 where
  pub no_fault : fault_of hart_app words ≡ []
  pub gives : call_of (subcommand_of hart_app words) ≡ Some call
