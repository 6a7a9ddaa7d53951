-- Lines about sightings: no line feed stands in their words.
use Rattle.std.proofs.Common.{◌≡◌, ◌≢◌, ◌++◌, ℕ, zero, suc, Bool, true, false, List, [], ◌∷◌, Some, get_or, refl, arith, codes, rules}
use Rattle.std.proofs.lemmas.Bool.Decides.{nat_tests}
use Rattle.std.proofs.lemmas.Grind.{common_steps}
use Rattle.std.proofs.lemmas.List.Folds.{list_all-append, list_all_at}
use Rattle.std.proofs.lemmas.List.Sums.{AllPass-from_list_all}
use Rattle.std.specs.Fmt.{digit_glyph, digits, digits_onto}
use Rattle.std.specs.List.{list_all, AllByRecursion}
use Rattle.std.specs.Prelude.{◌/◌, ◌%◌, ◌==◌, All, decimal, not}
use Rattle.hex.specs.Hex.{encode_with, upper_digits}
use Rattle.hart_frame.specs.declared.heard.miss.Miss.{Miss}
use Rattle.hart_frame.specs.declared.heard.miss.Miss.TheVariants.{Burst}
use Rattle.hart_frame.specs.heard.Sighting.{Seen}
use Rattle.hart_frame.specs.wire.Header.{HeaderParts}
use Rattle.hart_explain.specs.Miss.{miss_line, miss_words, seems_line}
use Rattle.hart_explain.specs.Words.{hex_value, name_words}
use Rattle.hart_commands.specs.Commands.{Command, command_name, commands}
use Rattle.hart_commands.specs.Fields.{text}
use Rattle.hart_commands.proofs.lemmas.Rows.{of_known}
use Rattle.hart_frame.specs.declared.wire.kind.FrameKind.{FrameKind}
use Rattle.hart_frame.specs.declared.wire.kind.FrameKind.TheVariants.{Ack, Stx}
use Rattle.hart_values.specs.declared.address.Address.{Address}
use Rattle.hart_values.specs.declared.address.Address.TheVariants.{Polling, Unique}
use Rattle.hart_values.specs.declared.master_id.MasterId.{MasterId}
use Rattle.hart_values.specs.declared.master_id.MasterId.TheVariants.{Primary, Secondary}
use Rattle.hart_explain.specs.Header.{command_words, device_words, header_words, master_words, who_words}
use Rattle.json.specs.Print.{escape, escape_byte, quoted}
use Rattle.serde_json.specs.Data.{Data, Items, Members, Num, array, boolean, float, item, member, negative, no_items, no_members, null}
use Rattle.serde_json.specs.Data.{number, object, string, unsigned}
use Rattle.serde_json.specs.Written.{comma_if, compact_text, items_text, members_text, number_text}
use Rattle.hart_explain.specs.declared.before.Before.{Before}
use Rattle.hart_explain.specs.Sighting.{data_of, json_line}
use Rattle.hart_explain.specs.Text.{IsOneLine}

-- whether a code is not that of a line feed
abbrev no_line_feed : ℕ → Bool
no_line_feed code = not (code == 10)

unbroken-all : (text : List ℕ) → list_all no_line_feed text ≡ true → All (λ code. code ≢ 10) text
unbroken-all text test = grind (arith, common_steps, AllPass-from_list_all, nat_tests)

-- putting digits before a text adds no line feed
unbroken-onto : (k n : ℕ) (text : List ℕ) → list_all no_line_feed text ≡ true → list_all no_line_feed (digits_onto k 10 false n text) ≡ true
unbroken-onto zero n text test = test
unbroken-onto (suc k) n text test = grind (arith, nat_tests, unbroken-onto k (n / 10) (digit_glyph false (n % 10) ∷ text))

unbroken-decimal : (n : ℕ) → list_all no_line_feed (decimal n) ≡ true
unfolding digits
unbroken-decimal n = unbroken-onto 64 n [] refl

-- a hexadecimal digit is no line feed
unbroken-digit : (k : ℕ) → no_line_feed (get_or upper_digits k 0) ≡ true
unbroken-digit k = grind (arith, common_steps, list_all_at no_line_feed upper_digits)

-- the words of a miss have no line feed
unbroken-miss_words : (miss : Miss) → list_all no_line_feed (miss_words miss) ≡ true
unfolding encode_with hex_value
unbroken-miss_words Burst = refl
unbroken-miss_words _ = grind (arith, list_all-append, unbroken-decimal, unbroken-digit)

-- THE WORDS OF A HEADER
-- whether the name of a command has no line feed
name_is_unbroken : Command → Bool
name_is_unbroken command = list_all no_line_feed command.name

all_unbroken : AllByRecursion (λ row. name_is_unbroken row.command ≡ true) commands
unfolding name_is_unbroken text
all_unbroken = search rules

unbroken-name : (command : ℕ) → list_all no_line_feed (name_words (command_name command)) ≡ true
unfolding name_is_unbroken
unbroken-name command =
    grind (arith, common_steps, list_all-append, of_known (λ told. name_is_unbroken told ≡ true) command all_unbroken)

unbroken-command : (command : ℕ) → list_all no_line_feed (command_words command) ≡ true
unbroken-command command = simp (list_all-append, unbroken-decimal, unbroken-name) refl

unbroken-master : (master : MasterId) → list_all no_line_feed (master_words master) ≡ true
unbroken-master Primary = refl
unbroken-master Secondary = refl

unbroken-device : (broadcast : List ℕ) (address : Address) → list_all no_line_feed broadcast ≡ true
    → list_all no_line_feed (device_words broadcast address) ≡ true
unfolding encode_with
unbroken-device broadcast (Polling at) is = simp unbroken-decimal refl
unbroken-device broadcast (Unique numbers) is = grind (arith, nat_tests, list_all-append, unbroken-digit)

unbroken-who : (kind : FrameKind) (master : MasterId) (address : Address)
    → list_all no_line_feed (who_words kind master address) ≡ true
unbroken-who Stx master address = grind (arith, list_all-append, unbroken-master, unbroken-device)
unbroken-who Ack master address = grind (arith, list_all-append, unbroken-master, unbroken-device)

unbroken-header_words : (header : HeaderParts) → list_all no_line_feed (header_words header) ≡ true
unbroken-header_words header =
    simp (list_all-append, unbroken-who, unbroken-command) refl

-- THE TEXT OF A VALUE OF JSON
-- a byte of a string is written with no line feed
unbroken-byte : (byte : ℕ) → list_all no_line_feed (escape_byte byte) ≡ true
unfolding escape_byte
unbroken-byte byte = grind (arith, nat_tests)

unbroken-escape : (text : List ℕ) → list_all no_line_feed (escape text) ≡ true
unbroken-escape [] = refl
unbroken-escape (byte ∷ text) =
    grind (arith, list_all-append no_line_feed (escape_byte byte) (escape text), unbroken-byte byte, unbroken-escape text)

unbroken-quoted : (text : List ℕ) → list_all no_line_feed (quoted text) ≡ true
unbroken-quoted text = grind (arith, list_all-append no_line_feed (escape text) (34 ∷ []), unbroken-escape text)

unbroken-number : (n : Num) → list_all no_line_feed (number_text n) ≡ true
unbroken-number (unsigned n) = unbroken-decimal n
unbroken-number (negative z) = grind (arith, nat_tests, unbroken-decimal)
unbroken-number (float x) = refl

unbroken-comma : (later : Bool) → list_all no_line_feed (comma_if later) ≡ true
unbroken-comma later = grind arith

mutual
  unbroken-data : (d : Data) → list_all no_line_feed (compact_text d) ≡ true
  unbroken-data null = refl
  unbroken-data (boolean b) = grind arith
  unbroken-data (number n) = unbroken-number n
  unbroken-data (string text) = unbroken-quoted text
  unbroken-data (array items) = unbroken-items false items
  unbroken-data (object members) = unbroken-members false members

  unbroken-items : (later : Bool) (items : Items) → list_all no_line_feed (items_text later items) ≡ true
  unbroken-items later no_items = refl
  unbroken-items later (item first others) =
      grind (arith, list_all-append, unbroken-comma later, unbroken-data first, unbroken-items true others)

  unbroken-members : (later : Bool) (members : Members) → list_all no_line_feed (members_text later members) ≡ true
  unbroken-members later no_members = refl
  unbroken-members later (member name first others) =
      grind (arith, list_all-append, unbroken-comma later, unbroken-quoted name, unbroken-data first, unbroken-members true others)

-- THE LINES
pub json_objects_are_lines : (date : List ℕ) (before : Before) (seen : Seen) → IsOneLine (json_line date before seen)
unfolding json_line
json_objects_are_lines date before seen = record {
  words = compact_text (data_of date before seen);
  ended = refl;
  unbroken = unbroken-all _ (unbroken-data (data_of date before seen));
}

pub misses_are_lines-one : (place : ℕ) (miss : Miss) → IsOneLine (miss_line place miss)
misses_are_lines-one place miss = record {
  words = decimal place ++ codes ": no message: " ++ miss_words miss;
  ended = refl;
  unbroken = unbroken-all _ (simp (list_all-append, unbroken-decimal, unbroken-miss_words));
}

pub misses_are_lines-second : (header : HeaderParts) → IsOneLine (seems_line (Some header))
misses_are_lines-second header = record {
  words = codes "    seems: " ++ header_words header;
  ended = refl;
  unbroken = unbroken-all (codes "    seems: " ++ header_words header) (simp unbroken-header_words refl);
}
