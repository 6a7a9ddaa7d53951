-- The texts of the faults of lines and words (implementation choice).
use Rattle.std.specs.Prelude.{◌++◌, [], ℕ, List, codes, decimal}
use Rattle.hart_request.specs.FaultText.{reason_text}
use Rattle.hart_station.specs.declared.fault.TextFault.{TextFault}
use Rattle.hart_station.specs.declared.fault.TextFault.TheVariants.{BadHex, BadWord, BadField}

-- The text of a fault, without the reason why a field is bad. The place of bad hex and the number of a bad word are in decimal.
abbrev pub text_before_reason : TextFault → List ℕ
text_before_reason (BadHex place) = codes "bad hex at " ++ decimal place
text_before_reason (BadWord number) = codes "bad word " ++ decimal number
text_before_reason (BadField bad) = codes "bad word " ++ decimal bad.number ++ codes ": "

-- The text of the reason of a `BadField`. For any other fault, the text is empty.
abbrev pub reason_of : TextFault → List ℕ
reason_of (BadField bad) = reason_text bad.fault
reason_of _ = []

-- The whole text of a fault, with the reason if there is one.
abbrev pub fault_text : TextFault → List ℕ
fault_text fault = text_before_reason fault ++ reason_of fault
