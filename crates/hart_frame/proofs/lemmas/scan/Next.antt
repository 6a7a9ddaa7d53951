-- The next frames of characters: from a place on, when more characters come, in the rest of a list, and in bytes.
use Rattle.hart_frame.proofs.Common.{◌≡◌, ◌≢◌, ℕ, ◌+◌, ◌-◌, ◌<◌, ◌≤◌, ◌⊎◌, inl, inr, Bool, false, true, IsTrue, List, [], ◌∷◌, ◌++◌, length}
use Rattle.hart_frame.proofs.Common.{map}
use Rattle.hart_frame.proofs.Common.{drop, append_assoc, arith, length-append, length-drop, refl, subst, sym, ap, ◌∙◌, append-nil, drop-map}
use Rattle.hart_frame.proofs.Common.{drop-append-le, drop-drop, length-map, length-take-le, map-append, take_at, All-append, All, Found}
use Rattle.hart_frame.proofs.Common.{slice_range, Layout, Character, faultless, AreFrames, moved, none, first, BeginWithNone, IsWhole}
use Rattle.hart_frame.proofs.Common.{common_steps, layout_length, AreNext, StandsIn, IsBody, FrameParts, All-cons, All-map}
use Rattle.std.proofs.lemmas.List.Elements.{All-nil, All-weaker}
use Rattle.hart_frame.specs.private.Search.{NoneBeginThen}
use Rattle.hart_frame.proofs.lemmas.heard.FramesFound.{AreFrames-earlier, AreFrames-found, head_first}
use Rattle.hart_frame.proofs.lemmas.heard.Place.{StandsIn-at, StandsIn-from, StandsIn-within, stands_at}
use Rattle.hart_frame.proofs.lemmas.heard.Rest.{frames_none, moved_twice, rest_all, rest_frames}

-- A frame stops at a place or before it.
abbrev pub StopsBy : ℕ → Found → Type 0
StopsBy place found = found.stop ≤ place

-- WHAT THE NEXT FRAMES ARE
-- From a place up to the same place there are no next frames.
pub next_nothing : (chars : List Character) (ended : Bool) (place : ℕ) → place ≤ length chars → AreNext chars ended place [] place
next_nothing chars ended place within = grind (arith, All-nil)

-- The next frames up to `mid`, and then those from `mid` up to `to`, are the next frames up to `to`.
pub next_then : (chars : List Character) (ended : Bool) (from mid to : ℕ) (xs ys : List Found) → AreNext chars ended from xs mid
    → AreNext chars ended mid ys to → AreNext chars ended from (xs ++ ys) to
next_then chars ended from mid to xs ys p q = record {
  onward = omega (arith, p.onward, q.onward);
  within = q.within;
  leads = λ more later closed frames. rw append_assoc (p.leads more (ys ++ later) closed (q.leads more later closed frames));
  stops = All-append (StopsBy to) xs ys (All-weaker (StopsBy mid) (StopsBy to) (λ found stops. omega (arith, stops, q.onward)) xs p.stops)
      q.stops;
}

-- Next frames stay the next ones when more characters come.
pub next_grown : (chars piece : List Character) (ended : Bool) (from to : ℕ) (given : List Found) → AreNext chars false from given to
    → AreNext (chars ++ piece) ended from given to
next_grown chars piece ended from to given next = grind (arith, append_assoc, length-append)

-- Next frames stay the next ones when the characters are known to have ended.
pub next_ended : (chars : List Character) (ended : Bool) (from to : ℕ) (given : List Found) (closed : Bool)
    → (IsTrue ended → IsTrue closed) → AreNext chars ended from given to → AreNext chars closed from given to
next_ended chars ended from to given closed says next = grind (arith)

-- The next frames of the rest of a list, moved by the place where the rest begins, are the next ones of the list from there on.
pub next_of_rest : (n : ℕ) (chars : List Character) (ended : Bool) (given : List Found) (to : ℕ) → n ≤ length chars
    → AreNext (drop n chars) ended 0 given to → AreNext chars ended n (map (moved n) given) (n + to)
next_of_rest n chars ended given to within next = record {
  onward = omega arith;
  within = omega (arith, next.within, length-drop n chars, within);
  leads = λ more later closed frames.
      let front : drop n (chars ++ more) ≡ drop n chars ++ more = drop-append-le n chars more within in
      let (own, are, same) = rest_all (n + to) (chars ++ more) later frames in
      let rest : AreFrames (drop n chars ++ more) to (map (moved to) own) = grind (arith, rest_frames, drop-drop) in
      let whole = rest_frames n (chars ++ more) (given ++ map (moved to) own)
      (rw front (next.leads more (map (moved to) own) closed rest)) in
      let all = rw (map-append, moved_twice) at whole in
      subst (λ (fs : List Found). AreFrames (chars ++ more) n (map (moved n) given ++ fs)) (sym same) all;
  stops = All-map (StopsBy (n + to)) (moved n) given
      (All-weaker (StopsBy to) (λ found. StopsBy (n + to) (moved n found)) (λ found stops. omega (arith, stops)) given next.stops);
}

-- The next frames up to `to`, and then the frames from `to` on, are the frames of the list from `from` on.
pub next_frames : (chars : List Character) (ended : Bool) (from to : ℕ) (given later : List Found) → AreNext chars ended from given to
    → AreFrames chars to later → AreFrames chars from (given ++ later)
next_frames chars ended from to given later next are = rw append-nil at (next.leads [] later (λ over. refl) (rw append-nil are))

-- Each frame of a list stops at or before the end of the list. So all frames of a list that has ended are its next ones up to that end.
all_stop : (chars : List Character) (from : ℕ) (frames : List Found) → AreFrames chars from frames → All (StopsBy (length chars)) frames
all_stop chars from frames (none place empty) = All-nil (StopsBy (length chars))
all_stop chars from frames (first place found later is others) =
    All-cons (StopsBy (length chars)) found later (StandsIn-within found chars from is.stands).within
    (all_stop chars found.stop later others)

pub next_whole : (chars : List Character) (given : List Found) → AreFrames chars 0 given → AreNext chars true 0 given (length chars)
next_whole chars given are = grind (arith, all_stop, append-nil, frames_none)

-- A next frame starts two places or more after `from`, has at least one byte, and stops by `to`.
pub next_some : (chars : List Character) (ended : Bool) (from to : ℕ) (found : Found) (more : List Found)
    → AreNext chars ended from (found ∷ more) to → from + 2 ≤ found.start × (found.start < found.stop) × (found.stop ≤ to)
next_some chars ended from to found more next =
    let (own, are) = AreFrames-found chars to in
    let stands = (head_first chars from found (more ++ own) (next_frames chars ended from to (found ∷ more) own next are)).stands in
    let lies = StandsIn-within found chars from stands in
    (lies.after, lies.some, next.stops 0 found (omega arith))

-- WHERE THE NEXT FRAMES STAND
-- There are no next frames up to a place if no frame begins before it, whatever follows.
pub next_none : (chars : List Character) (ended : Bool) (from to : ℕ) → from ≤ to → to ≤ length chars
    → ((place : ℕ) → from ≤ place → place < to → (more : List Character) → (IsTrue ended → more ≡ [])
    → BeginWithNone (drop place chars ++ more)) → AreNext chars ended from [] to
next_none chars ended from to order within never = record {
  onward = order;
  within = within;
  leads = λ more later closed. AreFrames-earlier (chars ++ more) from to later order (λ found stands.
      let lies = StandsIn-within found (chars ++ more) from stands in
      let cases : (found.start < to + 2) ⊎ (to + 2 ≤ found.start) = grind arith in
      elim cases [
        | inr late ↦ StandsIn-from found (chars ++ more) from to stands late
        | inl early ↦
            let place = found.start - 2 in
            let start : found.start ≡ place + 2 = omega (arith, lies.after) in
            absurd (never place (omega (arith, lies.after)) (omega (arith, early, start)) more closed found.frame stands.body stands.rest
            stands.is_body
            (sym (drop-append-le place chars more (omega (arith, early, start, within)))
            ∙ StandsIn-at (chars ++ more) place from found stands start))
      ]);
  stops = All-nil (StopsBy to);
}

-- A frame whose two preamble bytes and body begin at a place is the next one from there up to the end of the frame.
pub next_one : (chars : List Character) (ended : Bool) (place : ℕ) (f : FrameParts) (body : List ℕ) (rest : List Character)
    → place ≤ length chars → drop place chars ≡ faultless (255 ∷ 255 ∷ body) ++ rest → IsBody f body
    → AreNext chars ended place (record { start = place + 2; stop = place + 2 + length body; frame = f } ∷ []) (place + 2 + length body)
next_one chars ended place f body rest within parts is =
    let found : Found = record { start = place + 2; stop = place + 2 + length body; frame = f } in
    let long = length-take-le place chars within in record {
      onward = omega arith;
      within = grind (arith, length-append, length-map, length-drop place chars);
      leads = λ more later closed frames.
          let parts = drop-append-le place chars more within ∙ ap (λ (cs : List Character). cs ++ more) parts in
          let stands = stands_at (chars ++ more) place f body (rest ++ more) (omega (arith, within, length-append chars more))
          (rw append_assoc at parts) is in
          AreFrames.first place found later
          (record { stands = stands; least = λ other there. (StandsIn-within other (chars ++ more) place there).after }) frames;
      stops = All-cons (StopsBy (place + 2 + length body)) found [] (omega arith) (All-nil (StopsBy (place + 2 + length body)));
    }

-- THE NEXT FRAMES OF BYTES
-- Bytes have no next frames up to a place if no frame begins before it, whatever follows.
pub next_to : (bytes : List ℕ) (ended : Bool) (from to : ℕ) → from ≤ to → to ≤ length bytes → NoneBeginThen bytes ended from to
    → AreNext (faultless bytes) ended from [] to
next_to bytes ended from to order within never =
    next_none (faultless bytes) ended from to order (rw length-map within)
    (λ place since below more closed. rw drop-map (never place since below more (λ over. inl (closed over))))

-- If the bytes from a place on begin with a frame, the body of this frame comes right after two preamble bytes.
pub body_at_place : (bytes : List ℕ) (place len : ℕ) (layout : Layout) (whole : IsWhole layout (drop place bytes))
    → len ≡ layout_length layout → slice_range bytes (place + 2) (place + 2 + len) ≡ whole.body
body_at_place bytes place len layout whole same = grind (arith, drop-drop 2 place bytes, take_at)

-- If the bytes from a place on begin with a frame, this frame ends within these bytes.
pub ends_within : (bytes : List ℕ) (place : ℕ) (layout : Layout) → IsWhole layout (drop place bytes)
    → place + 2 + layout_length layout ≤ length bytes
ends_within bytes place layout whole =
    grind (arith, length-append, length-drop place bytes, whole.whole.exact)

-- A frame that stands at a place is the next one if no frame begins before it.
pub next_past : (bytes : List ℕ) (ended : Bool) (from place len : ℕ) (layout : Layout) (frame : FrameParts)
    → from ≤ place → place ≤ length bytes → NoneBeginThen bytes ended from place → IsWhole layout (drop place bytes)
    → len ≡ layout_length layout → IsBody frame (slice_range bytes (place + 2) (place + 2 + len))
    → AreNext (faultless bytes) ended from
    (record { start = place + 2; stop = place + 2 + len; frame = frame } ∷ []) (place + 2 + len)
next_past bytes ended from place len layout frame after within never whole same body =
    let long : len ≡ length whole.body = omega (arith, same, whole.whole.exact) in
    let parts : drop place (faultless bytes) ≡ faultless (255 ∷ 255 ∷ whole.body) ++ faultless whole.rest =
    grind (arith, drop-map, map-append) in
    let one = next_one (faultless bytes) ended place frame whole.body (faultless whole.rest) (rw length-map within) parts
    (rw (body_at_place bytes place len layout whole same) at body) in
    next_then (faultless bytes) ended from place (place + 2 + len) [] _ (next_to bytes ended from place after within never) (rw long one)

-- A CHARACTER WITH FAULT BITS
-- Faultless bytes that begin before a character with fault bits also end before it.
before_fault : (chars more rest : List Character) (c : Character) (bytes : List ℕ) → c.faults ≢ 0
    → chars ++ c ∷ more ≡ faultless bytes ++ rest → chars ≡ faultless bytes ++ drop (length bytes) chars
before_fault chars more rest c [] bad same = refl
before_fault [] more rest c (byte ∷ bytes) bad same = absurd (bad (grind (arith, common_steps)))
before_fault (x ∷ chars) more rest c (byte ∷ bytes) bad same = grind (arith, common_steps, before_fault chars more rest c bytes bad)

-- A frame that begins before a character with fault bits stands before it.
stands_before : (chars more rest : List Character) (c : Character) (place : ℕ) (frame : FrameParts) (body : List ℕ) → c.faults ≢ 0
    → place ≤ length chars → IsBody frame body → drop place (chars ++ c ∷ []) ++ more ≡ faultless (255 ∷ 255 ∷ body) ++ rest
    → StandsIn (record { start = place + 2; stop = place + 2 + length body; frame = frame }) chars place
stands_before chars more rest c place frame body bad within is same =
    let split : drop place chars ++ c ∷ more ≡ faultless (255 ∷ 255 ∷ body) ++ rest =
    rw (drop-append-le place chars (c ∷ []) within, append_assoc) at same in
    stands_at chars place frame body _ within (before_fault (drop place chars) more rest c (255 ∷ 255 ∷ body) bad split) is

-- Before a character with fault bits there are no next frames up to a place if no frame that stands before it begins before that place.
none_before : (chars : List Character) (c : Character) (from to : ℕ) → c.faults ≢ 0 → from ≤ to → to ≤ length chars + 1
    → ((found : Found) → StandsIn found chars from → found.start < to + 2 → ⊥) → AreNext (chars ++ c ∷ []) false from [] to
none_before chars c from to bad order within never =
    next_none (chars ++ c ∷ []) false from to order (omega (arith, within, length-append chars (c ∷ [])))
    (λ place since below more closed frame body rest is same.
    let stands = stands_before chars more rest c place frame body bad (omega (arith, below, within)) is same in
    never _ (StandsIn-from _ chars place from stands (omega (arith, since))) (omega (arith, below)))

-- Once a character with fault bits comes, the frames of the characters before it are the next ones.
pub next_at_fault : (chars : List Character) (c : Character) (from : ℕ) (frames : List Found) → c.faults ≢ 0 → from ≤ length chars
    → AreFrames chars from frames → AreNext (chars ++ c ∷ []) false from frames (length chars + 1)
next_at_fault chars c from _ bad within (none _ empty) =
    none_before chars c from (length chars + 1) bad (omega (arith, within)) (omega arith) (λ found stands early. empty found stands)
next_at_fault chars c from _ bad within (first _ found later is others) =
    let stands = is.stands in
    let lies = StandsIn-within found chars from stands in
    let place = found.start - 2 in
    let start : found.start ≡ place + 2 = omega (arith, lies.after) in
    let before = none_before chars c from place bad (omega (arith, lies.after)) (omega (arith, lies.some, lies.within))
    (λ other there early. omega (arith, is.least other there, early, start)) in
    let parts : drop place (chars ++ c ∷ []) ≡ faultless (255 ∷ 255 ∷ stands.body) ++ (stands.rest ++ c ∷ []) =
    drop-append-le place chars (c ∷ []) (omega (arith, lies.some, lies.within))
    ∙ (ap (λ (cs : List Character). cs ++ c ∷ []) (StandsIn-at chars place from found stands start)
    ∙ append_assoc (faultless (255 ∷ 255 ∷ stands.body)) stands.rest (c ∷ [])) in
    let one = next_one (chars ++ c ∷ []) false place found.frame stands.body (stands.rest ++ c ∷ [])
    (omega (arith, lies.some, lies.within, length-append chars (c ∷ []))) parts stands.is_body in
    let stop : found.stop ≡ place + 2 + length stands.body = omega (arith, stands.start, stands.stop, start) in
    let same : record { start = place + 2; stop = place + 2 + length stands.body; frame = found.frame } ≡ found =
    grind (arith, start, stop) in
    next_then (chars ++ c ∷ []) false from place (length chars + 1) [] (found ∷ later) before
    (next_then (chars ++ c ∷ []) false place found.stop (length chars + 1) (found ∷ []) later (rw (same, ← stop) at one)
    (next_at_fault chars c found.stop later bad lies.within others))
