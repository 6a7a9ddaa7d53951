-- What the rows of the table of commands keep to (implementation choice).
use Rattle.std.specs.Prelude.{ℕ, ◌==◌, ◌&&◌, ◌||◌, nat_le, nat_lt, not, Bool, true, false, List, [], ◌∷◌, bytes_eq, length, map}
use Rattle.std.specs.List.{list_all}
use Rattle.hart_commands.specs.Fields.{Row, spaced}
use Rattle.hart_commands.specs.declared.fields.FieldKind.{FieldKind}
use Rattle.hart_commands.specs.declared.fields.FieldKind.TheVariants.{Bytes, Number, UnitCode, PackedText, LatinText, Date, Float}
use Rattle.hart_commands.specs.declared.fields.FieldKind.TheVariants.{Variables}
use Rattle.hart_commands.specs.declared.fields.FieldSize.{FieldSize}
use Rattle.hart_commands.specs.declared.fields.FieldSize.TheVariants.{Exactly, AllBut}

-- Whether a byte can be in the name of a field: a small letter, a digit or `_`.
abbrev pub is_name_byte : ℕ → Bool
is_name_byte code = (nat_le 97 code && nat_le code 122) || (nat_le 48 code && nat_le code 57) || (code == 95)

-- Whether a field of a kind can have this number of bytes. A number has 1 or 2 bytes, the code of a unit 1, a packed text 6, 12 or 24, a
-- text in ISO Latin-1 32, and a date 3. Any other kind can have any number.
abbrev pub suits : FieldKind → ℕ → Bool
suits Number size = (size == 1) || (size == 2)
suits UnitCode size = size == 1
suits PackedText size = (size == 6) || (size == 12) || (size == 24)
suits LatinText size = size == 32
suits Date size = size == 3
suits _ size = true

-- Whether a field of a kind can have every number of bytes that a size allows. An exact size is at most 32.
abbrev pub suits_size : FieldKind → FieldSize → Bool
suits_size kind (Exactly size) = suits kind size && nat_le size 32
suits_size Bytes (AllBut after) = true
suits_size Float (AllBut after) = true
suits_size Variables (AllBut after) = true
suits_size _ (AllBut after) = false

-- Whether the row of a field is well made: its name has 1 to 40 bytes that can be in a name, its words are this name with a space for each
-- `_`, and its size suits its kind.
abbrev pub is_well_made : Row → Bool
is_well_made row =
    list_all is_name_byte row.name && nat_lt 0 (length row.name) && nat_le (length row.name) 40
    && bytes_eq row.words (map spaced row.name) && suits_size row.kind row.size

-- Whether no two rows have the same name.
abbrev pub have_own_names : List Row → Bool
have_own_names [] = true
have_own_names (row ∷ others) = list_all (λ other. not (bytes_eq row.name other.name)) others && have_own_names others

-- Whether the rows of some data are well made: there are at most 16, each is well made, and no two have the same name.
abbrev pub are_well_made : List Row → Bool
are_well_made rows = nat_le (length rows) 16 && list_all is_well_made rows && have_own_names rows

-- Whether a row of this size can come before these rows in a request: it has an exact size, or it is the last row and takes all bytes left.
abbrev pub can_precede : FieldSize → List Row → Bool
can_precede (Exactly size) others = true
can_precede (AllBut after) [] = after == 0
can_precede (AllBut after) (row ∷ others) = false

-- Whether each row can come before those after it in a request.
abbrev pub leave_nothing : List Row → Bool
leave_nothing [] = true
leave_nothing (row ∷ others) = can_precede row.size others && leave_nothing others

-- Whether the rows of a request are well made: there are at most seven, and no byte follows their fields.
abbrev pub are_request_rows : List Row → Bool
are_request_rows rows = are_well_made rows && nat_le (length rows) 7 && leave_nothing rows

-- Whether a command can have this name: 1 to 64 printable characters of ASCII.
abbrev pub is_command_name : List ℕ → Bool
is_command_name name = nat_lt 0 (length name) && nat_le (length name) 64 && list_all (λ code. nat_le 32 code && nat_le code 126) name
