-- The numbers and the texts of the faults of a script (implementation choice).
use Rattle.std.specs.Prelude.{ℕ, ◌++◌, List, [], Option, None, Some, codes, decimal}
use Rattle.hart_line.specs.Types.{LineFault, Undetected, Memory, BadLine, Leg}
use Rattle.hart_line.specs.declared.fault.Leg.TheVariants.{Up, Down, Noise}
use Rattle.hart_line.specs.declared.fault_text.FaultText.{FaultText}

-- The number of each fault.
abbrev pub line_fault_number : LineFault → ℕ
line_fault_number (Undetected event leg) = 1
line_fault_number (Memory none) = 2
line_fault_number (BadLine number) = 3

-- The word for each leg of an event. It is `up` for the leg from a master to the device, `down` for the leg from the device to the masters,
-- and `noise` for noise.
abbrev pub leg_word : Leg → List ℕ
leg_word Up = codes "up"
leg_word Down = codes "down"
leg_word Noise = codes "noise"

-- The text of a fault. It may contain a decimal number: the number of an event, counted from 0, or of a line, counted from 1.
abbrev pub line_fault_text : LineFault → List ℕ
line_fault_text (Undetected event leg) =
    codes "undetected damage at event " ++ decimal event ++ codes ", " ++ leg_word leg
line_fault_text (Memory none) = codes "out of memory"
line_fault_text (BadLine number) = codes "bad line " ++ decimal number

-- A number is written in decimal. If there is no number, nothing is written.
abbrev pub number_text : Option ℕ → List ℕ
number_text None = []
number_text (Some number) = decimal number

-- The text of a fault is its parts, joined in this order.
abbrev pub joined : FaultText → List ℕ
joined text = text.before.now ++ number_text text.number ++ text.comma.now ++ text.word.now
