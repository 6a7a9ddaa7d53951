-- The texts of faults (implementation choice).
use Rattle.std.specs.Prelude.{◌++◌, ◌∷◌, [], ℕ, List, codes}
use Rattle.hart_device.specs.FaultText.{device_fault_text}
use Rattle.hart_line.specs.FaultText.{line_fault_text}
use Rattle.hart_line.specs.declared.fault.LineFault.{LineFault}
use Rattle.hart_line.specs.declared.fault.LineFault.TheVariants as line_faults
use Rattle.hart_cli.specs.declared.fault.CliFault.{CliFault}
use Rattle.hart_cli.specs.declared.fault.CliFault.TheVariants.{Read, Write, TooLong, BadHex, Line, Image, Memory, BadWord, BadField}
use Rattle.hart_station.specs.FaultText as text_faults
use Rattle.hart_station.specs.declared.fault.TextFault.{TextFault}
use Rattle.hart_station.specs.declared.fault.TextFault.TheVariants as texts

-- The text of a fault, without the reason why a word of `hart request` is bad. The texts of bad hex and of bad words are
-- those that `hart_station` defines.
abbrev pub text_before_reason : CliFault → List ℕ
text_before_reason Read = codes "read fault"
text_before_reason Write = codes "write fault"
text_before_reason TooLong = codes "input too long"
text_before_reason (BadHex place) = text_faults.text_before_reason (texts.BadHex place)
text_before_reason (Line fault) = line_fault_text fault
text_before_reason (Image fault) = device_fault_text fault
text_before_reason (Memory none) = codes "out of memory"
text_before_reason (BadWord number) = text_faults.text_before_reason (texts.BadWord number)
text_before_reason (BadField bad) = text_faults.text_before_reason (texts.BadField bad)

-- The text of the reason of a `BadField`. For any other fault, the text is empty.
abbrev pub reason_of : CliFault → List ℕ
reason_of (BadField bad) = text_faults.reason_of (texts.BadField bad)
reason_of _ = []

-- The whole text of a fault, with the reason if there is one.
abbrev pub fault_text : CliFault → List ℕ
fault_text fault = text_before_reason fault ++ reason_of fault

-- The line of a fault is its text and a line feed.
abbrev pub fault_line : CliFault → List ℕ
fault_line fault = fault_text fault ++ 10 ∷ []

-- The fault that a call returns for a fault of its script: `Memory` for refused memory, and `Line` for undetected damage or a bad line.
abbrev pub call_fault : LineFault → CliFault
call_fault (line_faults.Memory none) = Memory none
call_fault (line_faults.Undetected event leg) = Line (line_faults.Undetected event leg)
call_fault (line_faults.BadLine number) = Line (line_faults.BadLine number)

-- The fault that a call returns for a text or a word that is bad.
abbrev pub of_text : TextFault → CliFault
of_text (texts.BadHex place) = BadHex place
of_text (texts.BadWord number) = BadWord number
of_text (texts.BadField bad) = BadField bad
