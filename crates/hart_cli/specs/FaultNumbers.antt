-- The numbers of the faults of a call (implementation choice).
use Rattle.std.specs.Prelude.{ℕ}
use Rattle.hart_cli.specs.declared.fault.CliFault.{CliFault}
use Rattle.hart_cli.specs.declared.fault.CliFault.TheVariants.{Read, Write, TooLong, BadHex, Line, Image, Memory, BadWord, BadField}

-- The number of each fault. `BadWord` and `BadField` have the same number, because both report a bad word.
abbrev pub cli_fault_number : CliFault → ℕ
cli_fault_number Read = 1
cli_fault_number Write = 2
cli_fault_number TooLong = 3
cli_fault_number (BadHex _) = 4
cli_fault_number (Line _) = 5
cli_fault_number (Image _) = 6
cli_fault_number (Memory _) = 7
cli_fault_number (BadWord _) = 8
cli_fault_number (BadField _) = 8
