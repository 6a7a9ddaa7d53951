use Rattle.std.proofs.Common.{◌≡◌, ℕ, List, [], ◌∷◌, None, arith, drop, get_or, if◌then◌else◌, length, refl}
use Rattle.std.proofs.lemmas.Bool.Decides.{nat_tests}
use Rattle.std.proofs.lemmas.List.{take_rest}
use Rattle.std.specs.Prelude.{nat_lt}
use Rattle.hart_commands.specs.ReplyData.{reply_reading}
use Rattle.hart_explain.specs.Reading.{nothing_found, reading_of_reply, replied}
use Rattle.hart_explain.proofs.reading.read_payload.Goals as goal

-- the reading of a reply's payload, by cases of its length and its first byte
reading-is : (command : ℕ) (payload : List ℕ) → reading_of_reply command payload ≡ (if nat_lt (length payload) 2 then nothing_found None
    else if nat_lt 127 (get_or payload 0 0) then (record { fields = []; ignored = drop 2 payload; problem = None })
    else replied command (drop 2 payload) (reply_reading command payload))
unfolding reading_of_reply
reading-is command (first ∷ second ∷ bytes) = grind (arith, nat_tests)
reading-is command _ = refl

pub returns-in-Some : goal.returns-in-Some
returns-in-Some c = let read = rw take_rest at c.replied.ensures in grind (arith, nat_tests, reading-is)
