-- The texts of the reasons why a word of `hart request` is bad (implementation choice).
use Rattle.std.specs.Prelude.{◌++◌, ℕ, List, [], codes, decimal, slice_get}
use Rattle.std.specs.Option.{option_map_or}
use Rattle.hart_commands.specs.Commands.{request_rows}
use Rattle.hart_request.specs.declared.fault.FieldFault.{FieldFault}
use Rattle.hart_request.specs.declared.fault.FieldFault.TheVariants.{BadCharacter, GivenTwice, Missing, NoBytes, NoCodes, NoDate}
use Rattle.hart_request.specs.declared.fault.FieldFault.TheVariants.{NoNumber, NotNamed, Refused, TooLong, UnknownCommand}
use Rattle.hart_request.specs.declared.fault.FieldFault.TheVariants.{UnknownField}

-- The name in words of the field at a place in the requests of a command. Places count from 0.
abbrev pub name_at : ℕ → ℕ → List ℕ
name_at command field = option_map_or (λ row. row.words) (slice_get (request_rows command) field) []

-- The text of the reason why a word of `hart request` is bad. Numbers, such as the place of a character, are in decimal. Places count from
-- 0.
abbrev pub reason_text : FieldFault → List ℕ
reason_text UnknownCommand = codes "unknown command"
reason_text NotNamed = codes "no NAME=VALUE"
reason_text UnknownField = codes "unknown field"
reason_text GivenTwice = codes "given twice"
reason_text (Missing command field) = codes "missing field " ++ name_at command field
reason_text (BadCharacter place) = codes "bad character at " ++ decimal place
reason_text (TooLong most) = codes "too long: at most " ++ decimal most ++ codes " characters"
reason_text (NoNumber greatest) = codes "no number from 0 to " ++ decimal greatest
reason_text NoDate = codes "no date"
reason_text (NoBytes count) = codes "not 0x and " ++ decimal count ++ codes " bytes in hex"
reason_text NoCodes = codes "not 0x and 1 to 8 bytes in hex"
reason_text (Refused code) = codes "refused with code " ++ decimal code
