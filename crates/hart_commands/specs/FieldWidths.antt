-- How many bytes a field has, by its kind (HCF_SPEC-127).
use Rattle.std.specs.Prelude.{◌≡◌, ◌*◌, ◌<◌, ◌≤◌, ◌⊎◌, ℕ, length}
use Rattle.hart_commands.specs.Fields.{Field}
use Rattle.hart_commands.specs.declared.fields.FieldKind.{FieldKind}
use Rattle.hart_commands.specs.declared.fields.FieldKind.TheVariants.{Bytes, Number, UnitCode, PackedText, LatinText, Date, Float}
use Rattle.hart_commands.specs.declared.fields.FieldKind.TheVariants.{Variables}

-- A number has 1 or 2 bytes, a unit code 1, a date 3 and a float 4. A packed text of 8, 16 or 32 characters has 6, 12 or 24 bytes,
-- and a text in ISO Latin-1 has 32 bytes. There are 1 to 8 device variables of 8 bytes each. A field of plain bytes has at least 1 byte.
abbrev pub IsWidthOf : FieldKind → ℕ → Type 0
IsWidthOf Bytes width = 0 < width
IsWidthOf Number width = (width ≡ 1) ⊎ (width ≡ 2)
IsWidthOf UnitCode width = width ≡ 1
IsWidthOf PackedText width = (width ≡ 6) ⊎ (width ≡ 12) ⊎ (width ≡ 24)
IsWidthOf LatinText width = width ≡ 32
IsWidthOf Date width = width ≡ 3
IsWidthOf Float width = width ≡ 4
IsWidthOf Variables width = (count : ℕ) × (0 < count) × (count ≤ 8) × (width ≡ 8 * count)

-- Whether a field has a number of bytes that its kind allows.
abbrev pub HasWidthOfKind : Field → Type 0
HasWidthOfKind field = IsWidthOf field.kind (length field.bytes)
