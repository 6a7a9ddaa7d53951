-- The numbers of a call are in range, if words make this call.
use Rattle.std.proofs.Common.{◌≡◌, ◌≤◌, ◌<◌, ℕ, arith, refl, List, [], None, Option, option_map, Bool, codes, Some, unwrap_or}
use Rattle.std.proofs.Common.{if◌then◌else◌}
use Rattle.std.proofs.lemmas.Bool.Decides.{nat_tests}
use Rattle.std.proofs.lemmas.Grind.{common_steps}
use Rattle.std.specs.Option.{option_and_then}
use Rattle.std.specs.Str.{bytes_eq}
use Rattle.clap.specs.Words.{Row, Text, all_of, first_of}
use Rattle.hart_frame.specs.wire.Message.{IsPreambleCount}
use Rattle.hart_cli.specs.declared.calls.program.command_line.Call.{Call}
use Rattle.hart_cli.specs.declared.calls.program.command_line.Call.TheVariants.{Answer, Dump, Encode, Master, Request}
use Rattle.hart_cli.specs.declared.calls.program.command_line.Call.TheVariants.{Serve, Sim}
use Rattle.hart_station.specs.Encode.{MessageWords}
use Rattle.hart_cli.specs.master.MasterWords.{AreInRange, MasterWords}
use Rattle.hart_station.specs.Request.{RequestWords}
use Rattle.hart_cli.specs.program.CommandLine.{call_of, explain_call, master_words, master_words_of, message_words, number_of}
use Rattle.hart_cli.specs.program.CommandLine.{optional_number, preambles_of, request_words, request_words_of, words_of}
use Rattle.hart_cli.specs.program.Program.{HasNumbersInRange}

-- the words of `encode` have 5 to 20 preamble bytes
words_counted : (word : Option Text) (who address command : Option Text) (payload : Text) (words : MessageWords)
    → message_words (option_and_then preambles_of word) who address command payload ≡ Some words → IsPreambleCount words.preambles
words_counted word who address command payload words h = grind (arith, common_steps, nat_tests)

-- the words of `request` have 5 to 20 preamble bytes
request_counted : (word : Option Text) (who address command : Option Text) (fields : List Text) (words : RequestWords)
    → request_words (option_and_then preambles_of word) who address command fields ≡ Some words → IsPreambleCount words.preambles
request_counted word who address command fields words h = grind (arith, common_steps, nat_tests)

-- a number that is read lies within its bounds
read_number : (least most : ℕ) (word : Text) (number : ℕ) → number_of least most word ≡ Some number → (least ≤ number) × (number ≤ most)
read_number least most word number h = grind (arith, common_steps, nat_tests)

-- an option with a number that is read gives the number of its word
read_word : (least most : ℕ) (word : Option Text) (number : ℕ) → option_and_then (number_of least most) word ≡ Some number
    → (least ≤ number) × (number ≤ most)
read_word least most None number h = absurd (grind arith)
read_word least most (Some word) number h = read_number least most word number h

-- an option that may be absent gives the number of its word
mapped : (found : Option ℕ) (number : ℕ) → option_map Some found ≡ Some (Some number) → found ≡ Some number
mapped None number h = absurd (grind arith)
mapped (Some found) number h = grind arith

read_limit : (word : Option Text) (number : ℕ) → optional_number 1 255 word ≡ Some (Some number) → 0 < number
read_limit None number h = absurd (grind arith)
read_limit (Some word) number h = omega (arith, (read_number 1 255 word number (mapped (number_of 1 255 word) number h)).0)

-- the words of a master are in range if their numbers are
numbers_counted : (who : Text) (retries : Option ℕ) (limit : Option (Option ℕ)) (preambles : Option ℕ) (words : MasterWords)
    → ((n : ℕ) → retries ≡ Some n → (0 ≤ n) × (n ≤ 15)) → ((n : ℕ) → limit ≡ Some (Some n) → 0 < n)
    → ((n : ℕ) → preambles ≡ Some n → IsPreambleCount n) → master_words (Some who) retries limit preambles ≡ Some words → AreInRange words
numbers_counted who None limit preambles words few some fits h = absurd (grind arith)
numbers_counted who (Some r) None preambles words few some fits h = absurd (grind arith)
numbers_counted who (Some r) (Some limit) None words few some fits h = absurd (grind arith)
numbers_counted who (Some r) (Some None) (Some p) words few some fits h =
    let made : record { who = who; retries = r; limit = None; preambles = p } ≡ words = grind arith in
    rw (← made) ((few r refl).1, tt, fits p refl)
numbers_counted who (Some r) (Some (Some n)) (Some p) words few some fits h =
    let made : record { who = who; retries = r; limit = Some n; preambles = p } ≡ words = grind arith in
    rw (← made) ((few r refl).1, some n refl, fits p refl)

-- the words of `master` have numbers in range
master_counted : (who retries limit preambles : Option Text) (words : MasterWords)
    → master_words who (option_and_then (number_of 0 15) retries) (optional_number 1 255 limit) (option_and_then preambles_of preambles)
    ≡ Some words → AreInRange words
master_counted None retries limit preambles words h = absurd (grind arith)
master_counted (Some who) retries limit preambles words h =
    numbers_counted who (option_and_then (number_of 0 15) retries) (optional_number 1 255 limit) (option_and_then preambles_of preambles)
    words (read_word 0 15 retries) (read_limit limit) (read_word 5 20 preambles) h

-- the call that the name of a subcommand chooses
abbrev chosen : (answer dump explain serve master sim encode request : Bool) → (image raw json : Option Text) → Option MessageWords
    → Option RequestWords → Option MasterWords → Option Call
chosen answer dump explain serve master sim encode request image raw json given named asker =
    if answer then Some (Answer image) else if dump then Some Dump else if explain then Some (explain_call raw json)
    else if serve then Some (Serve image)
    else if master then option_map (λ w. Master w) asker
    else if sim then Some (Sim image)
    else if encode then option_map (λ w. Encode w) given
    else if request then option_map (λ w. Request w) named else None

-- a call has the words that the matches of clap give
abbrev HasWords : Option MessageWords → Option RequestWords → Option MasterWords → Call → Type 0
HasWords given named asker (Encode words) = given ≡ Some words
HasWords given named asker (Request words) = named ≡ Some words
HasWords given named asker (Master words) = asker ≡ Some words
HasWords given named asker _ = Unit {0}

has_words : (answer dump explain serve master sim encode request : Bool) (image raw json : Option Text) (given : Option MessageWords)
    (named : Option RequestWords) (asker : Option MasterWords) (call : Call)
    → chosen answer dump explain serve master sim encode request image raw json given named asker ≡ Some call
    → HasWords given named asker call
has_words answer dump explain serve master sim encode request image raw json given named asker (Encode w) h = grind (arith, common_steps)
has_words answer dump explain serve master sim encode request image raw json given named asker (Request w) h = grind (arith, common_steps)
has_words answer dump explain serve master sim encode request image raw json given named asker (Master w) h = grind (arith, common_steps)
has_words answer dump explain serve master sim encode request image raw json given named asker _ h = tt

called : (found : Text × List Row) (call : Call) → call_of (Some found) ≡ Some call
    → HasWords (words_of found.1) (request_words_of found.1) (master_words_of found.1) call
called found =
    has_words
    (bytes_eq found.0 (codes "answer")) (bytes_eq found.0 (codes "dump")) (bytes_eq found.0 (codes "explain"))
    (bytes_eq found.0 (codes "serve")) (bytes_eq found.0 (codes "master")) (bytes_eq found.0 (codes "sim"))
    (bytes_eq found.0 (codes "encode")) (bytes_eq found.0 (codes "request"))
    (first_of (codes "image") found.1) (first_of (codes "raw") found.1) (first_of (codes "json") found.1) (words_of found.1)
    (request_words_of found.1) (master_words_of found.1)

-- a call of `encode` or `request` has 5 to 20 preamble bytes
pub call_counted : (met : Option (Text × List Row)) (call : Call) → call_of met ≡ Some call → HasNumbersInRange call
call_counted None call gives = cc
call_counted (Some found) (Encode words) gives =
    words_counted
    (first_of (codes "preambles") found.1) (first_of (codes "WHO") found.1) (first_of (codes "ADDRESS") found.1)
    (first_of (codes "COMMAND") found.1) (unwrap_or (first_of (codes "DATA") found.1) []) words (called found (Encode words) gives)
call_counted (Some found) (Request words) gives =
    request_counted
    (first_of (codes "preambles") found.1) (first_of (codes "WHO") found.1) (first_of (codes "ADDRESS") found.1)
    (first_of (codes "COMMAND") found.1) (unwrap_or (all_of (codes "FIELD") found.1) []) words (called found (Request words) gives)
call_counted (Some found) (Master words) gives =
    master_counted
    (first_of (codes "who") found.1) (first_of (codes "retries") found.1) (first_of (codes "limit") found.1)
    (first_of (codes "preambles") found.1) words (called found (Master words) gives)
call_counted (Some found) _ gives = tt
