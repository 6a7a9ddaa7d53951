-- What is heard of a message: its frame alone, or what damage leaves of it. A body can stand only at the place of the delimiter.
use Rattle.hart_frame.proofs.Common.{◌≡◌, ◌≢◌, ℕ, zero, suc, ◌+◌, ◌<◌, ◌≤◌, ◌⊎◌, inl, inr, List, [], ◌∷◌, ◌++◌, length, drop, replicate}
use Rattle.hart_frame.proofs.Common.{refl, arith, append_assoc, length-append, common_steps, append-nil, drop-append-le, length-replicate}
use Rattle.hart_frame.proofs.Common.{Found, Character, faultless, IsHeardOrMarked, AreFrames, none, first, StandsIn, delimiter_of}
use Rattle.hart_frame.proofs.Common.{FrameParts, delimiter_in, AllZip-long, AllZip, subst, ◌-◌, map-append, length-map}
use Rattle.std.proofs.lemmas.List.{nil_from_length, replicate-append-replicate}
use Rattle.hart_frame.specs.heard.Damage.{HasNoTwoPreambles, IsCheckDamage, IsMarkedDamage}
use Rattle.hart_frame.proofs.lemmas.wire.Body.{head_of}
use Rattle.hart_frame.proofs.lemmas.heard.FramesFound.{AreFrames-found}
use Rattle.hart_frame.proofs.lemmas.heard.Place.{HasNoFrame-end}
use Rattle.hart_frame.proofs.lemmas.wire.Refusal.{says}
use Rattle.hart_frame.proofs.lemmas.wire.UnambiguousBodies.{BeginsWithBody-append, bodies_are_unambiguous-no_proper_prefix}
use Rattle.hart_frame.proofs.lemmas.wire.UnambiguousBodies.{bodies_are_unambiguous-one_frame}
use Rattle.hart_frame.specs.wire.Message.{IsMessage}

-- The character of a byte that is heard without faults.
abbrev pub clear : ℕ → Character
clear byte = record { byte = byte; faults = 0 }

-- CHARACTERS THAT ARE HEARD OR MARKED
-- Marked damage includes the case that all bytes are heard unchanged and without faults.
pub heard_faultless : (bytes : List ℕ) → AllZip IsHeardOrMarked bytes (faultless bytes)
heard_faultless [] = tt
heard_faultless (byte ∷ bytes) = (inl refl, heard_faultless bytes)

-- A byte that is heard without faults is the byte that was sent.
pub clear_is : (sent byte : ℕ) → IsHeardOrMarked sent (clear byte) → byte ≡ sent
clear_is sent byte is = grind arith

-- Bytes that are heard in a row without faults were sent at the same place.
sent_there : (sent bytes : List ℕ) (prefix rest : List Character) → AllZip IsHeardOrMarked sent (prefix ++ faultless bytes ++ rest)
    → (after : List ℕ) × (drop (length prefix) sent ≡ bytes ++ after)
sent_there sent [] [] rest heard = (sent, refl)
sent_there [] (byte ∷ bytes) [] rest heard = absurd heard
sent_there (one ∷ sent) (byte ∷ bytes) [] rest heard = grind (arith, clear_is, sent_there sent bytes [] rest heard.1)
sent_there [] bytes (character ∷ prefix) rest heard = absurd heard
sent_there (one ∷ sent) bytes (character ∷ prefix) rest heard = sent_there sent bytes prefix rest heard.1

-- WHERE A FRAME CAN STAND
-- If two FF stand before a byte other than FF, they are the last two bytes of the preamble, or begin after the delimiter.
two_there : (left place head : ℕ) (bytes rest : List ℕ) → delimiter_in bytes ≢ 255 → head ≢ 255
    → drop place (replicate left 255 ++ bytes) ≡ 255 ∷ 255 ∷ head ∷ rest
    → (left < place) ⊎ ((place + 2 ≡ left) × (bytes ≡ head ∷ rest))
two_there zero zero head bytes rest one other is = absurd (grind arith)
two_there (suc zero) zero head bytes rest one other is = absurd (grind arith)
two_there (suc (suc zero)) zero head bytes rest one other is = inr (refl, cc)
two_there (suc (suc (suc left))) zero head bytes rest one other is = absurd (other cc)
two_there zero (suc place) head bytes rest one other is = inl (omega arith)
two_there (suc left) (suc place) head bytes rest one other is = grind (arith, two_there left place head bytes rest one other is)

-- A frame that is heard either starts at the delimiter or stands after the delimiter. If it starts at the delimiter, its body is a prefix
-- of the body that was sent.
pub stood : (left : ℕ) (body : List ℕ) (chars : List Character) (found : Found) (from : ℕ) → delimiter_in body ≢ 255
    → AllZip IsHeardOrMarked (replicate left 255 ++ body) chars → (stands : StandsIn found chars from)
    → (rest : List ℕ) × ((left < length stands.prefix) ⊎ ((length stands.prefix + 2 ≡ left) × (body ≡ stands.body ++ rest)))
stood left body chars found from delimiter heard stands =
    let there = two_there left (length stands.prefix) (delimiter_of found.frame) body in
    let sent = sent_there (replicate left 255 ++ body) (255 ∷ 255 ∷ stands.body) stands.prefix stands.rest in
    grind (arith, there, sent, head_of)

-- If no two FF in a row are heard after the delimiter, a frame that is heard starts at the delimiter.
stands_there : (left : ℕ) (body : List ℕ) (chars : List Character) (found : Found) (from : ℕ) → delimiter_in body ≢ 255
    → AllZip IsHeardOrMarked (replicate left 255 ++ body) chars → HasNoTwoPreambles (drop (left + 1) chars)
    → (stands : StandsIn found chars from) → (rest : List ℕ) × (length stands.prefix + 2 ≡ left) × (body ≡ stands.body ++ rest)
stands_there left body chars found from delimiter heard no_two_preambles stands =
    let none = no_two_preambles (drop (left + 1) stands.prefix) (faultless stands.body ++ stands.rest) in
    let (rest, place) = stood left body chars found from delimiter heard stands in
    grind (arith, common_steps, stands.split, drop-append-le, append_assoc)

-- MARKED DAMAGE
-- The message's own frame, at its place.
abbrev own : FrameParts → ℕ → List Character → Found
own frame left chars = record { start = left; stop = length chars; frame = frame }

-- With marked damage, each frame that stands in what is heard is the message's own.
marked_own : (frame : FrameParts) (preambles : ℕ) (chars : List Character) (damage : IsMarkedDamage frame preambles chars)
    → (found : Found) (from : ℕ) → StandsIn found chars from → found ≡ own frame damage.left chars
marked_own frame preambles chars damage found from stands =
    let (rest, start, same) =
    stands_there damage.left damage.body chars found from (grind (arith, head_of frame)) damage.heard damage.no_two_preambles stands in
    let whole : rest ≡ [] = grind (arith, bodies_are_unambiguous-no_proper_prefix found.frame frame stands.body rest) in
    let long = AllZip-long IsHeardOrMarked (replicate damage.left 255 ++ damage.body) chars damage.heard in
    grind (arith, bodies_are_unambiguous-one_frame found.frame frame stands.body, append-nil, length-append, length-replicate)

-- If only one frame can stand in a list, and its stop is the end of the list, the list has no frame or just this frame.
none_or_own : (chars : List Character) (from : ℕ) (one : Found) → ((found : Found) → StandsIn found chars from → found ≡ one)
    → length chars ≤ one.stop → (frames : List Found) → AreFrames chars from frames
    → AreFrames chars from [] ⊎ AreFrames chars from (one ∷ [])
none_or_own chars from one alone end frames (none place empty) = inl (none place empty)
none_or_own chars from one alone end frames (first place found later is_first others) =
    inr (first place one [] (rw (alone found is_first.stands) at is_first) (none one.stop (HasNoFrame-end chars one.stop end)))

pub AreFrames-marked : (frame : FrameParts) (preambles : ℕ) (chars : List Character)
    (damage : IsMarkedDamage frame preambles chars)
    → AreFrames chars 0 [] ⊎ AreFrames chars 0 (own frame damage.left chars ∷ [])
AreFrames-marked frame preambles chars damage =
    let found = AreFrames-found chars 0 in
    none_or_own chars 0 (own frame damage.left chars)
    (λ other stands. marked_own frame preambles chars damage other 0 stands) (omega arith) found.0 found.1

-- CHECK DAMAGE
-- With check damage no frame is heard: its body would be all bytes from the delimiter on, and their parity is not even.
pub AreFrames-check : (frame : FrameParts) (preambles : ℕ) (chars : List Character) → IsCheckDamage frame preambles chars
    → AreFrames chars 0 []
AreFrames-check frame preambles chars damage =
    none 0 (λ found stands.
    let (bytes, replaces, all, odd) = damage.heard in
    let (rest, start, same) =
    stands_there damage.left bytes chars found 0 (grind (arith, head_of frame)) (grind (arith, heard_faultless))
    damage.no_two_preambles stands in
    let sent = says damage.body frame (length damage.body) in
    let said = says (stands.body ++ rest) found.frame (length stands.body)
    (BeginsWithBody-append found.frame stands.body rest stands.is_body) in
    grind (arith, append-nil, sent, BeginsWithBody-append frame damage.body [], nil_from_length rest, length-append stands.body rest))

-- NO DAMAGE
-- A message that is heard without faults has its frame alone.
-- The frame of a message, and where it stands in what is heard.
abbrev found_in : FrameParts → ℕ → List ℕ → Found
found_in f preambles bytes = record { start = preambles; stop = length bytes; frame = f }

pub AreFrames-message : (f : FrameParts) (preambles : ℕ) (bytes : List ℕ) → 2 ≤ preambles → IsMessage f preambles bytes
    → AreFrames (faultless bytes) 0 (found_in f preambles bytes ∷ [])
AreFrames-message f preambles bytes two message =
    AreFrames.first 0 (found_in f preambles bytes) [] (record {
      stands =
          let prefix : List ℕ = replicate (preambles - 2) 255 in
          let whole : bytes ≡ prefix ++ 255 ∷ 255 ∷ message.body =
          grind (arith, replicate-append-replicate {A = ℕ} (preambles - 2) 2 255, append_assoc prefix (255 ∷ 255 ∷ []) message.body) in
          grind (arith, length-map, length-replicate, length-append, map-append, append-nil);
      least = λ other stands.
          let (others, begins, low) = head_of f message.body message.is_body in
          let heard = subst (λ sent. AllZip IsHeardOrMarked sent (faultless bytes)) message.parts (heard_faultless bytes) in
          let after = stood preambles message.body (faultless bytes) other 0 (grind arith) heard stands in
          omega (arith, after, stands.start);
    }) (AreFrames.none (length bytes) (HasNoFrame-end (faultless bytes) (length bytes) (grind (arith, length-map))))

pub AreFrames-nothing : AreFrames [] 0 []
AreFrames-nothing = AreFrames.none 0 (HasNoFrame-end [] 0 (omega arith))

-- An attribute in code cannot name lemmas with a dash in their names, so it names this rule set.
pub ruleset messages_alone = (AreFrames-message, AreFrames-nothing)
