-- How a scanner hears a chunk, at once or in parts.
use Rattle.hart_frame.proofs.Common.{◌≡◌, ℕ, ◌+◌, ◌-◌, ◌<◌, ◌≤◌, ◌⊎◌, inl, inr, false, List, [], ◌∷◌, ◌++◌, length, take, Option, None, ap}
use Rattle.hart_frame.proofs.Common.{Some, drop, get_or, refl, subst, ◌∙◌, arith, append_assoc, length-drop, take-add, common_steps, Buffer}
use Rattle.hart_frame.proofs.Common.{length-take, append-nil, take-map, take-take, length-map, length-take-le, MatchOption, Drained, Layout}
use Rattle.hart_frame.proofs.Common.{Character, faultless, faultless_bytes, IsUndecided, IsSound, scan_of, Hears, Scan, GivesNothing}
use Rattle.hart_frame.proofs.Common.{MovesPast, hearing, HoldsWhole, length-append, take-append-add, map-append, SearchResult, IsWaiting}
use Rattle.hart_frame.proofs.Common.{held_bytes, IsSearched}
use Rattle.hart_frame.specs.private.Buffer.{HearsPart}
use Rattle.hart_frame.specs.scan.Chunk.{StopsAt}
use Rattle.hart_frame.proofs.lemmas.heard.Front.{front_heard}
use Rattle.hart_frame.proofs.lemmas.scan.Buffer.{drained_is, undecided_waiting, waits_drained, held_clear}
use Rattle.hart_frame.proofs.lemmas.scan.Decision.{holds_frame}
use Rattle.hart_frame.proofs.lemmas.scan.Scan.{moves_hearing, moves_then, moves_places}
use Rattle.hart_frame.proofs.lemmas.scan.Undecided.{undecided_before, waits_only}
use Rattle.hart_frame.specs.private.Buffer.{state_of}
use Rattle.hart_frame.specs.private.Search.{IsOpenFrom}
use Rattle.hart_frame.proofs.lemmas.scan.Candidate.{undecided_open}

-- A buffer has heard the first `taken` characters of a chunk. After fewer characters of the chunk nothing is decided.
pub record IsHearing (old now : Buffer) (chunk : List Character) (taken : ℕ) : Type 0 where
  pub going : old.finished ≡ false
  pub within : taken ≤ length chunk
  pub moves : MovesPast (hearing (scan_of old) (take taken chunk)) (scan_of now) []
  pub before : (fewer : ℕ) → fewer < taken → IsUndecided ((scan_of old).held ++ take fewer chunk)

-- If a buffer heard some characters of a chunk, and then a part of the rest, it has heard the chunk up to the end of this part.
pub hearing_on : (old now new : Buffer) (chunk rest : List Character) (n r : ℕ) → IsHearing old now chunk n → rest ≡ drop n chunk
    → HearsPart (scan_of now) (scan_of new) rest r → IsHearing old new chunk (n + r)
hearing_on old now new chunk rest n r so is whole =
    let part = rw is at whole in
    let held = (scan_of old).held in
    let xs = take n chunk in
    let on = λ (ys : List Character). moves_hearing (hearing (scan_of old) xs) (scan_of now) ys [] so.going so.moves in
    record {
      going = so.going;
      within = omega (arith, part.within, length-drop n chunk);
      moves = rw (take-add n r chunk, ← append_assoc held xs (take r (drop n chunk)))
          (moves_then _ (hearing (scan_of now) (take r (drop n chunk))) (scan_of new) [] [] (on (take r (drop n chunk))) part.moves);
      before = λ fewer below.
          let cases : (fewer < n) ⊎ (n ≤ fewer) = grind arith in
          elim cases [
            | inl early ↦ so.before fewer early
            | inr late ↦
                let k = fewer - n in
                let all : fewer ≡ n + k = omega arith in
                rw (all, take-add n k chunk, ← append_assoc held xs (take k (drop n chunk)))
                (undecided_before _ _ (on (take k (drop n chunk))) (part.before k (omega arith)))
          ];
    }

-- A buffer hears a chunk up to the character at which a frame is decided.
pub hears_until : (old now new : Buffer) (chunk rest : List Character) (n r : ℕ) → IsHearing old now chunk n → IsSound now
    → now.state ≡ Drained → (new.state ≡ Drained → ⊥) → rest ≡ drop n chunk → HearsPart (scan_of now) (scan_of new) rest r
    → Hears (scan_of old) (scan_of new) chunk (n + r)
hears_until old now new chunk rest n r so sound drained busy is part =
    let on = hearing_on old now new chunk rest n r so is part in grind (arith, common_steps, waits_drained, drained_is)

-- A buffer that is still drained after the last character of a chunk has heard the chunk to its end.
pub hears_all : (old now : Buffer) (chunk : List Character) (n : ℕ) → IsHearing old now chunk n → IsSound now → now.state ≡ Drained
    → length chunk ≤ n → Hears (scan_of old) (scan_of now) chunk n
hears_all old now chunk n hears sound drained ended = grind (arith, waits_drained, undecided_waiting)

-- A scanner that heard one character stops after it, whether a peek gave nothing or found a frame.
seen_one : (old : Scan) (mid new : Buffer) (character : Character) (seen : Option Layout) → old.finished ≡ false
    → scan_of mid ≡ hearing old (character ∷ []) → MatchOption seen (GivesNothing (scan_of mid) (scan_of new)) (HoldsWhole mid new)
    → MovesPast (hearing old (character ∷ [])) (scan_of new) [] × StopsAt (scan_of new) 1 1
seen_one old mid new character None going heard given = grind (arith, common_steps, waits_only)
seen_one old mid new character (Some layout) going heard given =
    let moves = subst (λ (s : Scan). MovesPast s (scan_of new) []) heard given.moves in
    (moves, inr (given.undrained, holds_frame new layout given.begins))

-- A drained scanner that hears the first character of a chunk hears a part of the chunk.
pub hears_first : (old mid new : Buffer) (chunk : List Character) (character : Character) (seen : Option Layout)
    → IsSound old → old.state ≡ Drained → 0 < length chunk → character ≡ get_or chunk 0 character
    → scan_of mid ≡ hearing (scan_of old) (character ∷ [])
    → MatchOption seen (GivesNothing (scan_of mid) (scan_of new)) (HoldsWhole mid new) → HearsPart (scan_of old) (scan_of new) chunk 1
hears_first old mid new chunk character seen sound drained some is heard given =
    let waiting = waits_drained old sound drained in
    let (moves, stops) = seen_one (scan_of old) mid new character seen waiting.going heard given in
    let before : (fewer : ℕ) → fewer < 1 → IsUndecided ((scan_of old).held ++ take fewer chunk) = λ fewer below.
    let none : fewer ≡ 0 = omega (arith, below) in rw (none, append-nil) (undecided_waiting old waiting) in
    grind arith

-- A scanner that hears some characters of a prefix of a chunk hears a part of the chunk.
part_heard : (old new : Scan) (chunk part : List Character) (count : ℕ) → part ≡ take (length part) chunk → 0 < length part
    → Hears old new part count → HearsPart old new chunk count
part_heard old new chunk part count is some hears =
    let first : (k : ℕ) → k ≤ length part → take k part ≡ take k chunk = λ k less. ap (take k) is ∙ take-take k (length part) chunk less in
    let before : (fewer : ℕ) → fewer < count → IsUndecided (old.held ++ take fewer chunk) =
    λ fewer below. rw (← first fewer (omega (arith, below, hears.within))) (hears.before fewer below) in
    grind (arith, common_steps, length-take)

-- A scanner that hears some of the first bytes of a chunk of bytes hears a part of the chunk.
pub bytes_heard : (old new : Scan) (chunk : List ℕ) (n count : ℕ) → n ≤ length chunk → 0 < n
    → Hears old new (faultless (take n chunk)) count → HearsPart old new (faultless chunk) count
bytes_heard old new chunk n count within some hears = search (arith, part_heard, take-map, length-map, length-take-le)

-- A scanner that hears some of the faultless bytes at the front of a chunk hears a part of the chunk.
pub stretch_heard : (old new : Scan) (chunk : List Character) (bytes : List ℕ) (most count : ℕ) → bytes ≡ take most (faultless_bytes chunk)
    → 0 < length bytes → Hears old new (faultless bytes) count → HearsPart old new chunk count
stretch_heard old new chunk bytes most count is some hears =
    part_heard old new chunk (faultless bytes) count (rw (length-map, is) (front_heard chunk most)) (rw length-map some) hears

-- A scanner that holds the bytes from a place on.
abbrev scan_at : List ℕ → ℕ → Scan
scan_at bytes place = record { first = place; held = faultless (drop place bytes); finished = false; drained = false }

-- Nothing is decided in bytes if no frame begins before some place and one may begin at that place.
undecided_from : (xs : List ℕ) → IsOpenFrom xs 0 → IsUndecided (faultless xs)
undecided_from xs ends =
    undecided_before (scan_at xs 0) (scan_at xs ends.place)
    (moves_places (scan_at xs 0) (scan_at xs ends.place) xs ends.place refl refl (omega arith) refl ends.within
    (λ place below more closed. ends.none place (omega arith) below more))
    (undecided_open (drop ends.place xs) ends.may)

-- A buffer searched the held bytes and a part after them, and kept the bytes from the found place up to the last one looked at.
pub record IsKept (old new : Buffer) (part : List ℕ) (found : SearchResult) : Type 0 where
  pub waiting : IsWaiting old
  pub searched : IsSearched (held_bytes old ++ part) 0 (length (held_bytes old) + 1) found
  pub held : held_bytes new ≡ drop found.place (take found.decided (held_bytes old ++ part))
  pub firsts : new.first ≡ old.first + found.place
  pub clear : new.damaged ≡ None
  pub finished : new.finished ≡ old.finished
  pub state : new.state ≡ state_of found.layout

module _ (old new : Buffer) (part : List ℕ) (found : SearchResult) (kept : IsKept old new part found) where
  -- The scanner heard the first `count` bytes of the part.
  pub hears_kept : (count : ℕ) → IsSound new → found.decided ≡ length (held_bytes old) + count
      → Hears (scan_of old) (scan_of new) (faultless part) count
  hears_kept count sound counts =
      let n = length (held_bytes old) in
      let total = held_bytes old ++ part in
      let is = kept.searched in
      let heard : (fewer : ℕ) → (scan_of old).held ++ take fewer (faultless part) ≡ faultless (take (n + fewer) total) =
      λ fewer. grind (arith, held_clear old kept.waiting.clear, take-map, map-append, take-append-add (held_bytes old) part fewer) in
      let before : (fewer : ℕ) → fewer < count → IsUndecided ((scan_of old).held ++ take fewer (faultless part)) =
      λ fewer below.
      let cases : (fewer ≡ 0) ⊎ (0 < fewer) = grind arith in
      elim cases [
        | inl none ↦ rw (none, append-nil) (undecided_waiting old kept.waiting)
        | inr some ↦ rw (heard fewer) (undecided_from (take (n + fewer) total) (is.before (n + fewer) (omega arith) (omega arith)))
      ] in
      let moves = moves_places (hearing (scan_of old) (take count (faultless part))) (scan_of new) (take found.decided total) found.place
      (grind (arith, heard count)) (grind (arith, held_clear new kept.clear)) kept.firsts kept.finished
      (omega (arith, length-take-le found.decided total is.within, is.order))
      (λ here below more _. is.none here (omega arith) below more) in
      let stops : StopsAt (scan_of new) count (length part) = grind (arith, length-append, holds_frame, undecided_waiting) in
      grind (arith, length-map, length-append)
