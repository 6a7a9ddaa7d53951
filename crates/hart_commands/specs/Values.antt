-- The bytes of a variable in a reply, and how parts are joined into data (HCF_SPEC-127).
use Rattle.std.specs.Prelude.{ℕ, ◌+◌, List, [], ◌∷◌, ◌++◌, slice_index, slice_range}
use Rattle.hart_values.specs.declared.bits32.Bits32.{Bits32}
use Rattle.hart_commands.specs.declared.value.UnitValue.{UnitValue}
use Rattle.hart_commands.specs.declared.value.VariableReading.{VariableReading}

-- A part that has a single byte.
abbrev pub one : ℕ → List ℕ
one byte = byte ∷ []

-- The bytes of all parts, one after another.
abbrev pub joined : List (List ℕ) → List ℕ
joined [] = []
joined (part ∷ []) = part
joined (part ∷ other ∷ others) = part ++ joined (other ∷ others)

-- The float in the four bytes from a place on.
abbrev pub float_at : List ℕ → ℕ → Bits32
float_at bytes place = record { 0 = slice_range bytes place (place + 4) }

-- The unit and the value in five bytes.
abbrev pub unit_value_of : List ℕ → UnitValue
unit_value_of bytes = record { unit = slice_index bytes 0; value = float_at bytes 1 }

-- The parts of a value: its unit, and the value itself.
abbrev pub unit_value_parts : UnitValue → List (List ℕ)
unit_value_parts v = one v.unit ∷ v.value.0 ∷ []

-- The five bytes of a unit and a value.
abbrev pub unit_value_bytes : UnitValue → List ℕ
unit_value_bytes v = joined (unit_value_parts v)

-- The variable in eight bytes: its code, its classification, its unit, its value and its status.
abbrev pub variable_of : List ℕ → VariableReading
variable_of bytes = record {
  code = slice_index bytes 0;
  classification = slice_index bytes 1;
  unit = slice_index bytes 2;
  value = float_at bytes 3;
  status = slice_index bytes 7;
}

-- The eight bytes of a variable.
abbrev pub variable_bytes : VariableReading → List ℕ
variable_bytes v = v.code ∷ v.classification ∷ v.unit ∷ (v.value.0 ++ v.status ∷ [])
