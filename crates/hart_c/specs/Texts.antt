-- Packed text for a caller in C (implementation choice: a text is filled up with spaces).
use Rattle.std.specs.Prelude.{◌≡◌, ◌≤◌, ◌-◌, ◌*◌, ◌/◌, ◌++◌, ℕ, All, List, [], ◌∷◌, length, replicate}
use Rattle.hart_values.specs.packed_text.Packing.{IsCharacter, IsPacked, IsPackedSize}
use Rattle.hart_device.specs.declared.fault.DeviceFault.TheVariants.{BadLength}
use Rattle.hart_c.specs.Faults.{AllPass, Check, Outcome, needs, outcome_of, refused_if}
use Rattle.hart_c.specs.Messages.{HasNoRoom, IsWritten}
use Rattle.hart_c.specs.declared.fault.Fault.TheVariants.{BadCharacter, Device, NoRoom, TooLong}
use Rattle.hart_c.specs.declared.fault.HartOutcome.{HartOutcome}

-- A text, filled up with spaces to this number of characters.
abbrev pub padded : ℕ → List ℕ → List ℕ
padded count text = text ++ replicate (count - length text) 0x20

-- The checks of `hart_pack_text`, in this order: there are 6, 12 or 24 bytes for packed text; the text fits; each character of the text is
-- one that packed text can have.
abbrev pub pack_checks : List ℕ → ℕ → List Check
pack_checks text size =
    needs (IsPackedSize size) (Device BadLength) ∷ needs (length text ≤ 4 * size / 3) TooLong ∷ needs (All IsCharacter text) BadCharacter
    ∷ []

-- Either the text is filled up with spaces and packed into all bytes, and the call returns their number. Or the call returns a fault, and
-- the bytes are unchanged.
abbrev pub PackOutcome : List ℕ → List ℕ → List ℕ → HartOutcome → Type 0
PackOutcome text before after =
    Outcome (pack_checks text (length before))
    (λ len. AllPass (pack_checks text (length before)) × (len ≡ length before) × IsPacked (padded (4 * length before / 3) text) after)
    (after ≡ before) outcome_of

-- The checks of `hart_unpack_text`, in this order: there are 6, 12 or 24 bytes of packed text; its text fits into the output.
abbrev pub unpack_checks : List ℕ → ℕ → List Check
unpack_checks packed room =
    needs (IsPackedSize (length packed)) (Device BadLength) ∷ refused_if (HasNoRoom (λ text. IsPacked text packed) room) NoRoom ∷ []

-- Either the text of the packed bytes is written, and the call returns its length. Or the call returns a fault, and the output is
-- unchanged.
abbrev pub UnpackOutcome : List ℕ → List ℕ → List ℕ → HartOutcome → Type 0
UnpackOutcome packed before after =
    Outcome (unpack_checks packed (length before))
    (λ len. IsPackedSize (length packed) × IsWritten (λ text. IsPacked text packed) before after len) (after ≡ before) outcome_of
