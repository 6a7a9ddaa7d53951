-- The numbers that report why a value was refused (implementation choice).
use Rattle.std.specs.Prelude.{ℕ}
use Rattle.hart_values.specs.declared.fault.ValueFault.{ValueFault}
use Rattle.hart_values.specs.declared.fault.ValueFault.TheVariants.{WrongLength, BadCharacter, BadDate, OutOfRange}

-- The number of each fault.
abbrev pub value_fault_number : ValueFault → ℕ
value_fault_number WrongLength = 1
value_fault_number (BadCharacter _) = 2
value_fault_number BadDate = 3
value_fault_number OutOfRange = 4
