-- A reading as members of an object of JSON (implementation choice).
use Prim.Native.String.{String}
use Rattle.std.specs.Prelude.{[], ◌∷◌, ◌++◌, ℕ, List, Option, None, Some, codes, map, slice_index, slice_range}
use Rattle.std.specs.List.{flat_map}
use Rattle.std.specs.Option.{option_map_or}
use Rattle.hex.specs.Hex.{encode_upper}
use Rattle.json.specs.Print.{quoted}
use Rattle.serde_json.specs.Data.{Data, Items, Members, array, item, member, no_items, no_members, null, number, object, string, unsigned}
use Rattle.serde_json.specs.Written.{compact_text}
use Rattle.hart_commands.specs.Fields.{Field}
use Rattle.hart_explain.specs.declared.reading.Problem.{Problem}
use Rattle.hart_explain.specs.declared.reading.Problem.TheVariants.{NoReply, NotRead, Refused, TooFew, UnknownCommand}
use Rattle.hart_explain.specs.Reading.{Reading}
use Rattle.hart_explain.specs.Values.{Value, Raw, Number, Unit, Text, Day, NotSet, NoDate, Variables, held_value}
use Rattle.hart_commands.specs.Codes.{code_name}

-- A member of an object: its name and its value.
pub record Named : Type 0 where
  pub name : List ℕ
  pub value : Data

-- A member with this name and this value. This short form gives each member of a list its own line here.
abbrev pub named : String → Data → Named
named name value = record { name = codes name; value = value }

-- Members in the form of the crate `serde_json`.
abbrev pub members_of : List Named → Members
members_of [] = no_members
members_of (first ∷ others) = member first.name first.value (members_of others)

-- The object with these members, in this order.
abbrev pub object_of : List Named → Data
object_of members = object (members_of members)

-- Values in the form of the crate `serde_json`.
abbrev pub items_of : List Data → Items
items_of [] = no_items
items_of (first ∷ others) = item first (items_of others)

-- The list of these values, in this order.
abbrev pub list_of : List Data → Data
list_of values = array (items_of values)

-- A natural number as a number of JSON.
abbrev pub count : ℕ → Data
count value = number (unsigned value)

-- A text as a string.
abbrev pub word : String → Data
word text = string (codes text)

-- Bytes as a string of two upper-case hex digits for each byte.
abbrev pub hex : List ℕ → Data
hex bytes = string (encode_upper bytes)

-- A name as a string. Without a name, the value is null.
abbrev pub name_or_null : Option (List ℕ) → Data
name_or_null None = null
name_or_null (Some name) = string name

-- A device variable of eight bytes as an object: code, classification and unit as numbers, value and status in hex.
abbrev pub variable_data : List ℕ → Data
variable_data bytes = object_of (
    named "code" (count (slice_index bytes 0))
    ∷ named "classification" (count (slice_index bytes 1))
    ∷ named "unit" (count (slice_index bytes 2))
    ∷ named "value" (hex (slice_range bytes 3 7))
    ∷ named "status" (hex (slice_index bytes 7 ∷ []))
    ∷ [])

-- The value of a field as a value of JSON.
abbrev pub value_data : Value → Data
value_data (Raw bytes) = hex bytes
value_data (Number value) = count value
value_data (Unit code) = count code
value_data (Text text) = string text
value_data (Day text) = string text
value_data NotSet = null
value_data (NoDate bytes) = hex bytes
value_data (Variables variables) = list_of (map variable_data variables)

-- The member of a field has the name of the field and its value.
abbrev pub field_member : Field → Named
field_member field = record { name = field.name; value = value_data (held_value field.kind field.bytes) }

-- A problem as an object: its reason, and details.
abbrev pub problem_of : String → List Named → Data
problem_of reason details = object_of (named "reason" (word reason) ∷ details)

-- A problem with the data of a command as an object. An unknown command is no problem of the data, so it gives null.
abbrev pub problem_data : ℕ → Problem → Data
problem_data command UnknownCommand = null
problem_data command (TooFew needed) = problem_of "too_few_data" (named "needed" (count needed) ∷ [])
problem_data command (Refused code) =
    problem_of "refused" (named "code" (count code) ∷ named "name" (name_or_null (code_name command code)) ∷ [])
problem_data command NoReply = problem_of "no_reply" []
problem_data command (NotRead code) = problem_of "not_read" (named "code" (count code) ∷ [])

-- The members of a reading of the data of a command: the data, the fields, what is ignored, and what is wrong.
abbrev pub reading_members : ℕ → List ℕ → Reading → List Named
reading_members command bytes reading =
    named "data" (hex bytes)
    ∷ named "fields" (object_of (map field_member reading.fields))
    ∷ named "ignored" (hex reading.ignored)
    ∷ named "problem" (option_map_or (problem_data command) reading.problem null)
    ∷ []

-- The text of a member: its name and its value, with a colon between them.
abbrev pub member_words : Named → List ℕ
member_words named = quoted named.name ++ 58 ∷ compact_text named.value

-- The text of a member that is not the first of its object: a comma, and then the member.
unfoldable pub further_member : Named → List ℕ
further_member named = 44 ∷ member_words named

-- The text of all members after the first.
abbrev pub further_members : List Named → List ℕ
further_members members = flat_map further_member members
