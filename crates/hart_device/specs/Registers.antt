-- The bytes of the values of the registers (HCF_SPEC-127). Where each register stands in the array of all registers (implementation
-- choice).
use Rattle.std.specs.Prelude.{[], ◌∷◌, ◌≢◌, ℕ, ◌+◌, List, slice_range}
use Rattle.hart_commands.specs.RequestData.{mode_byte}
use Rattle.hart_commands.specs.Registers.{Contents, IsValidIn, contents_by, size_of}
use Rattle.hart_device.specs.declared.registers.values.RegisterValues.{RegisterValues}
use Rattle.hart_commands.specs.declared.register.Register.{Register}
use Rattle.hart_commands.specs.declared.register.Register.TheVariants.{Polling, Mode, Message, Tag, Descriptor, Date, Assembly, LongTag}

-- Each register holds the bytes of its value; the polling address and the loop current mode have one byte each.
abbrev pub values_of : RegisterValues → Contents
values_of values = record {
  polling = values.polling ∷ [];
  mode = mode_byte values.mode ∷ [];
  message = values.message;
  tag = values.tag;
  descriptor = values.descriptor;
  date = values.date;
  assembly = values.assembly;
  long_tag = values.long_tag;
}

-- The byte of the array at which each register starts, counted from 0.
abbrev pub start_of : Register → ℕ
start_of Polling = 0
start_of Mode = 1
start_of Message = 2
start_of Tag = 26
start_of Descriptor = 32
start_of Date = 44
start_of Assembly = 47
start_of LongTag = 50

-- The end of a register is its start plus its size.
abbrev pub end_of : Register → ℕ
end_of register = start_of register + size_of register

-- The bytes of a register in an array.
abbrev pub standing_for : Register → List ℕ → List ℕ
standing_for register array = slice_range array (start_of register) (end_of register)

-- The contents of the registers in an array.
abbrev pub contents_in : List ℕ → Contents
contents_in array = contents_by (λ register. standing_for register array)

-- Whether an array holds invalid bytes for a register. Any bytes are valid in the long tag, so only the other registers matter.
abbrev pub HoldsInvalid : List ℕ → Type 0
HoldsInvalid array = (register : Register) × (register ≢ LongTag) × ¬ IsValidIn register (standing_for register array)
