-- The bits of the two status bytes of a reply, and their names (HCF_SPEC-099; implementation choice).
use Rattle.std.specs.Prelude.{◌==◌, find, [], ◌∷◌, ℕ, List, Option, codes}
use Rattle.std.specs.Option.{option_map}
use Rattle.hart_commands.specs.declared.status_bits.NamedBit.{NamedBit as NamedBitInCode}

-- A bit of a status byte has a value and a name.
pub record NamedBit : Type 0 where
  pub value : ℕ
  pub name : List ℕ

-- The bit with this value and this name. Each line of a table is one such bit.
abbrev pub bit : ℕ → List ℕ → NamedBit
bit value name = record { value = value; name = name }

-- The communication faults that have names.
abbrev pub comm_faults : List NamedBit
comm_faults =
    bit 0x40 (codes "vertical parity")
    ∷ bit 0x20 (codes "overrun")
    ∷ bit 0x10 (codes "framing")
    ∷ bit 0x08 (codes "longitudinal parity")
    ∷ bit 0x02 (codes "buffer overflow")
    ∷ []

-- The bits of the device status.
abbrev pub device_states : List NamedBit
device_states =
    bit 0x80 (codes "device malfunction")
    ∷ bit 0x40 (codes "configuration changed")
    ∷ bit 0x20 (codes "cold start")
    ∷ bit 0x10 (codes "more status available")
    ∷ bit 0x08 (codes "loop current fixed")
    ∷ bit 0x04 (codes "loop current saturated")
    ∷ bit 0x02 (codes "non-primary variable out of limits")
    ∷ bit 0x01 (codes "primary variable out of limits")
    ∷ []

-- The name of the bit with this value, if the table has such a bit.
abbrev pub name_of : List NamedBit → ℕ → Option (List ℕ)
name_of bits value = option_map (λ bit. bit.name) (find (λ bit. bit.value == value) bits)

-- The name of a bit of the device status, if the value is the value of a single bit.
abbrev pub device_state_name : ℕ → Option (List ℕ)
device_state_name value = name_of device_states value

-- The name of a communication fault, if the value is the value of a single bit, and this bit has a name.
abbrev pub comm_fault_name : ℕ → Option (List ℕ)
comm_fault_name value = name_of comm_faults value

-- A named bit in Rust, as a `NamedBit` of the definitions.
abbrev pub seen_bit : NamedBitInCode → NamedBit
seen_bit named = bit named.value named.name.now
