-- The text of `hart sim` (implementation choice).
use Rattle.std.specs.Prelude.{◌≡◌, ℕ, Any, List, [], ◌∷◌, ◌++◌, codes, decimal, length}
use Rattle.std.specs.List.{enumerate_from, flat_map}
use Rattle.hex.specs.Hex.{encode_upper}
use Rattle.hart_commands.specs.ReplyData.{content_bytes}
use Rattle.hart_device.specs.Device.{DeviceState}
use Rattle.hart_master.specs.FaultNumbers.{master_fault_number}
use Rattle.hart_line.specs.declared.line.report.Outcome.{Outcome}
use Rattle.hart_line.specs.declared.line.report.Outcome.TheVariants.{Answered, NoReply, Refused, Unfinished}
use Rattle.hart_line.specs.declared.line.report.Party.{Party}
use Rattle.hart_line.specs.declared.line.report.Party.TheVariants.{Device, Primary, Secondary}
use Rattle.hart_line.specs.declared.line.report.Spoken.{Spoken}
use Rattle.hart_station.specs.Lines.{bytes_word, counter_line, image_line, line_of}

-- The word of a party is P for the primary master, S for the secondary master and D for the device.
abbrev pub party_word : Party → List ℕ
party_word Primary = codes "P"
party_word Secondary = codes "S"
party_word Device = codes "D"

-- The line of a spoken frame has the word of its party, the decimal number of its preamble bytes, and its body in upper case hex.
abbrev pub spoken_line : Spoken → List ℕ
spoken_line spoken =
    line_of (party_word spoken.party ∷ decimal spoken.preambles ∷ encode_upper spoken.bytes ∷ [])

-- The words for the outcome of a submission. An answered submission has `answered`, the number of its sendings, and the response code, the
-- device status and the data of the reply in upper case hex. A submission without a reply has `noreply`, and an unfinished submission has
-- `unfinished`, each with the number of its sendings. A refused submission has `refused` and the number of the fault. Numbers are in
-- decimal.
abbrev pub outcome_words : Outcome → List (List ℕ)
outcome_words (Answered reply sendings) =
    codes "answered" ∷ decimal sendings ∷ encode_upper (reply.code ∷ []) ∷ encode_upper (reply.status.0 ∷ [])
    ∷ bytes_word (content_bytes reply.content) ∷ []
outcome_words (NoReply sendings) = codes "noreply" ∷ decimal sendings ∷ []
outcome_words (Unfinished sendings) = codes "unfinished" ∷ decimal sendings ∷ []
outcome_words (Refused fault) = codes "refused" ∷ decimal (master_fault_number fault) ∷ []

-- The line of a submission: its number in decimal, and the words of its outcome.
abbrev pub outcome_line : ℕ × Outcome → List ℕ
outcome_line numbered = line_of (decimal numbered.0 ∷ outcome_words numbered.1)

-- The text of `hart sim`: a line for each spoken frame, in order; a line for each submission, numbered from 1; the line of the counter; and
-- the line of the image.
abbrev pub sim_text : List Spoken → List Outcome → DeviceState → List ℕ
sim_text spoken outcomes device =
    flat_map spoken_line spoken ++ flat_map outcome_line (enumerate_from 1 outcomes) ++ counter_line device ++ image_line device

-- The line of a spoken frame needs memory for this number of bytes.
abbrev pub IsNeededByFrame : Spoken → ℕ → Type 0
IsNeededByFrame frame items = items ≡ length (spoken_line frame)

-- The line of one of these submissions needs memory for this number of bytes.
abbrev pub IsNeededByOutcomes : List Outcome → ℕ → Type 0
IsNeededByOutcomes outcomes items = Any (λ numbered. items ≡ length (outcome_line numbered)) (enumerate_from 1 outcomes)

-- The last two lines are appended together, and need memory for this number of bytes.
abbrev pub IsNeededByDevice : DeviceState → ℕ → Type 0
IsNeededByDevice device items = items ≡ length (counter_line device ++ image_line device)
