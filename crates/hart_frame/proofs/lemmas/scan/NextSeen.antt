-- The message or miss that the search in bytes finds next is what is seen next, whatever follows the bytes.
use Rattle.hart_frame.proofs.Common.{◌≡◌, ℕ, ◌+◌, ◌-◌, ◌<◌, ◌≤◌, inl, inr, List, ◌∷◌, ◌++◌, drop, Some, ◌∙◌, refl, Miss, End, More, Seen}
use Rattle.hart_frame.proofs.Common.{true, drop_more, get_or-drop, length-map, slice_range, OnePreamble, heard_with, FollowsTwo, FrameParts}
use Rattle.hart_frame.proofs.Common.{[], length, get_or, IsTrue, After, Damaged, Message, Missed, IsAsked, parts_of, Layout, IsBody, SeesOn}
use Rattle.hart_frame.proofs.Common.{arith, Character, faultless, body_miss, StandsIn, header_at, MayFollow, Whatever, header_in, AreSilent}
use Rattle.hart_frame.proofs.Common.{append_assoc, length-append, length-drop, take-append-drop, length-take-le, stands_alone, IsStandingAt}
use Rattle.hart_frame.specs.heard.Sighting.{missed_at}
use Rattle.hart_frame.specs.scan.Sighting.{AfterIsValid, is_end}
use Rattle.hart_frame.specs.private.Sighting.{IsMessageAt, IsPassed}
use Rattle.hart_frame.specs.wire.View.{found_of}
use Rattle.hart_frame.specs.declared.scan.view.FoundView.{FoundView}
use Rattle.hart_frame.specs.declared.scan.sighting.Standing.TheVariants as standing
use Rattle.hart_frame.specs.declared.scan.sighting.Standing.TheVariants.{Nothing, Open}
use Rattle.hart_frame.proofs.lemmas.heard.Front.{regrouped}
use Rattle.hart_frame.proofs.lemmas.heard.Place.{StandsIn-from, stands_at}
use Rattle.hart_frame.proofs.lemmas.heard.Seen.{Passes, message_on, missed_none, passes_miss, passes_on}
use Rattle.std.proofs.Math.Nat.{eq-or-lt_of_le}
use Rattle.std.proofs.lemmas.Bool.{cases_lt, false_from_ne_true}
use Rattle.hart_frame.proofs.lemmas.heard.Sighting.{IsClean, after_one, after_two, follows_from}
use Rattle.hart_frame.proofs.lemmas.scan.BodyAt.{drop-heard}
use Rattle.hart_frame.proofs.lemmas.scan.Sighted.{SilentBefore, follows_in, known, late, none_seen, other_yes, passes_clean, preamble_no}
use Rattle.hart_frame.proofs.lemmas.scan.Sighted.{preamble_yes, two_in, two_out}
use Rattle.hart_frame.proofs.lemmas.wire.Truncated.{truncated_few}

-- Whatever is heard consists of these bytes, followed by characters that may come after them.
heard_is : (bytes : List ℕ) (after : After) (more : List Character) → AfterIsValid after → (IsTrue (is_end after) → more ≡ [])
    → (next : List Character) × MayFollow after next × (heard_with bytes after ++ more ≡ faultless bytes ++ next)
heard_is bytes More more valid closed = (more, tt, refl)
heard_is bytes (Damaged c) more valid closed = (c ∷ more, (valid, more, refl), append_assoc (faultless bytes) (c ∷ []) more)
heard_is bytes End more valid closed = (more, closed refl, refl)

-- If a list passes from `from` to `to` whatever follows, `given` is seen first, and then what is seen from `to` on.
pub sees : (bytes : List ℕ) (after : After) (from to : ℕ) (given : List Seen) → AfterIsValid after
    → Whatever bytes after (λ chars. Passes chars from to given) → SeesOn (heard_with bytes after) (is_end after) from given to
sees bytes after from to given valid passes more later closed are =
    let (next, may, same) = heard_is bytes after more valid closed in
    rw same (passes_on (faultless bytes ++ next) from to given later (passes next may) (rw same at are))

-- Where two FF stand right before a place, the bytes from the first FF on are FF, FF and the bytes from the place on.
pub two_parts : (bytes : List ℕ) (start : ℕ) → 2 ≤ start → start ≤ length bytes → get_or bytes (start - 2) 0 ≡ 255
    → get_or bytes (start - 1) 0 ≡ 255 → drop (start - 2) bytes ≡ 255 ∷ 255 ∷ drop start bytes
two_parts bytes start low within first second = grind (arith, drop_more bytes (start - 2) 0, drop_more bytes (start - 1) 0)

-- The place `start` is asked, and nothing is seen at the places asked before it.
module _ (bytes : List ℕ) (after : After) (next : List Character) (from start : ℕ) (may : MayFollow after next)
    (silent : SilentBefore bytes after from start) (is : IsAsked bytes after from start) where
  within : start ≤ length (heard_with bytes after)
  within = omega (arith, is.heard)

  inside : start < length (faultless bytes ++ next)
  inside = omega (arith, is.heard, (known bytes after next may).within)

  -- A miss that is seen at the asked place is what is seen next.
  seen_here : (miss : Miss) → missed_at (faultless bytes ++ next) from start
      ≡ Missed start miss (header_at (faultless bytes ++ next) start) ∷ []
      → Passes (faultless bytes ++ next) from (start + 1) (Missed start miss (header_at (faultless bytes ++ next) start) ∷ [])
  seen_here miss told =
      passes_miss (faultless bytes ++ next) from start miss (omega (arith, is.order)) inside
      (none_seen bytes after next from start may silent within) told (late bytes after next from start may silent within)
      (preamble_no bytes after next start may is.heard is.other)

  follows : follows_from (faultless bytes ++ next) from start ≡ true
  follows = follows_in bytes after next from start is

  pub miss_two : (miss : Miss) → FollowsTwo bytes from start → body_miss start (drop start (faultless bytes ++ next)) ≡ Some miss
      → Passes (faultless bytes ++ next) from (start + 1) (Missed start miss (header_at (faultless bytes ++ next) start) ∷ [])
  miss_two miss two wrong =
      seen_here miss (after_two (faultless bytes ++ next) from start (omega (arith, is.order)) follows
      (two_out bytes next from start is.within two) (other_yes bytes after next start may is.heard is.other) ∙ rw wrong refl)

  pub miss_one : (FollowsTwo bytes from start → ⊥) → stands_alone (faultless bytes ++ next) start ≡ true
      → Passes (faultless bytes ++ next) from (start + 1) (Missed start OnePreamble (header_at (faultless bytes ++ next) start) ∷ [])
  miss_one one alone =
      seen_here OnePreamble (after_one (faultless bytes ++ next) from start (omega (arith, is.order)) follows
      (false_from_ne_true _ (λ both. one (two_in bytes after next from start may is.within both))) ∙ rw alone refl)

  pub open_two : (used : ℕ) → used + 2 ≡ start → FollowsTwo bytes from start → Passes (faultless bytes ++ next) from used []
  open_two used at (order, first) =
      let place : start - 2 ≡ used = omega (arith, at) in
      let second : start - 1 ≡ used + 1 = omega (arith, at) in
      let one = preamble_yes bytes next used (omega (arith, at, is.within)) (rw place at first) in
      let two = preamble_yes bytes next (used + 1) (omega (arith, at, is.within)) (rw second at is.preamble) in
      passes_clean bytes after next from start may silent within used (omega (arith, order, at)) (omega (arith, at)) (inr (inl (one, two)))

  pub open_one : (used : ℕ) → used + 1 ≡ start → (FollowsTwo bytes from start → ⊥) → Passes (faultless bytes ++ next) from used []
  open_one used at one =
      passes_clean bytes after next from start may silent within used (omega (arith, is.order, at)) (omega (arith, at)) (inl (λ low.
      let place : start - 2 ≡ used - 1 = omega (arith, at) in
      preamble_no bytes after next (used - 1) may (omega (arith, at, within, low))
      (λ below same. one (omega (arith, at, low), rw place same))))

  -- If a body stands at the asked place after two preamble bytes, the frame of this body stands there.
  stands_there : (f : FrameParts) (stop : ℕ) → FollowsTwo bytes from start → start ≤ stop → stop ≤ length bytes
      → IsBody f (slice_range bytes start stop)
      → StandsIn (record { start = start; stop = stop; frame = f }) (faultless bytes ++ next) from
  stands_there f stop two order fits body =
      let xs : List ℕ = slice_range bytes start stop in
      let ys : List ℕ = drop (stop - start) (drop start bytes) in
      let rest = rw (take-append-drop (stop - start) (drop start bytes)) at (regrouped xs ys next) in
      let parts : drop (start - 2) (faultless bytes ++ next) ≡ faultless (255 ∷ 255 ∷ xs) ++ (faultless ys ++ next) =
      rw (
        drop-heard bytes next (start - 2) (omega (arith, is.within)),
        two_parts bytes start (omega (arith, two.0)) is.within two.1
            is.preamble,
      ) (cc (rest)) in
      let there = stands_at (faultless bytes ++ next) (start - 2) f xs (faultless ys ++ next) (omega (arith, inside)) parts body in
      let long : length xs ≡ stop - start = grind (arith, length-take-le, length-drop) in
      let at : start - 2 + 2 ≡ start = omega (arith, two.0) in
      let to : start + length xs ≡ stop = omega (arith, long, order) in
      StandsIn-from _ (faultless bytes ++ next) (start - 2) from (rw (at, to) at there) (omega (arith, two.0))

-- A place up to which bytes are used up lies within what is heard, and is clean.
used_clean : (bytes : List ℕ) (after : After) (next : List Character) (from used : ℕ) → MayFollow after next → from ≤ length bytes
    → IsPassed bytes after from used
    → (from ≤ used) × (used ≤ length (heard_with bytes after)) × IsClean (faultless bytes ++ next) from used
used_clean bytes after next from used may order is =
    grind (arith, length-append, length-map, preamble_no bytes after next (used - 1) may, preamble_yes bytes next)

pub passed_all : (bytes : List ℕ) (after : After) (from used : ℕ) → SilentBefore bytes after from (length (heard_with bytes after))
    → from ≤ length bytes → IsPassed bytes after from used → Whatever bytes after (λ chars. Passes chars from used [])
passed_all bytes after from used silent order is next may =
    let (low, within, clean) = used_clean bytes after next from used may order is in
    passes_clean bytes after next from (length (heard_with bytes after)) may silent (omega arith) used low within clean

-- If a place is asked from `from` on, it is also asked from any other place before it.
pub asked_after : (bytes : List ℕ) (after : After) (from place start : ℕ) → place < start → IsAsked bytes after from start
    → IsAsked bytes after place start
asked_after bytes after from place start order is = grind arith

-- If nothing is seen up to `place`, and no place after it but before `n` is asked, nothing is seen before `n`.
pub silent_before : (bytes : List ℕ) (after : After) (from place n : ℕ) → AreSilent bytes after from place
    → ((p : ℕ) → IsAsked bytes after place p → p < n → ⊥) → SilentBefore bytes after from n
silent_before bytes after from place n silent none p is below = elim (cases_lt place p) [
  | inl later ↦ absurd (none p (asked_after bytes after from place p later is) below)
  | inr early ↦ silent p is early
]

pub silent_on : (bytes : List ℕ) (after : After) (from start : ℕ) → SilentBefore bytes after from start
    → IsStandingAt bytes after from start Nothing → AreSilent bytes after from start
silent_on bytes after from start silent (inl (two, never)) p is order = absurd never
silent_on bytes after from start silent (inr (one, alone)) p is order =
    elim (eq-or-lt_of_le order) [ inl here ↦ rw here (one, alone) | inr early ↦ silent p is early ]

-- A message at the asked place is seen next, whatever follows.
pub message_seen : (bytes : List ℕ) (after : After) (from start used : ℕ) (view : FoundView) → AfterIsValid after
    → SilentBefore bytes after from start → IsAsked bytes after from start → FollowsTwo bytes from start
    → IsMessageAt bytes start used view → SeesOn (heard_with bytes after) (is_end after) from (Message (found_of view) ∷ []) used
message_seen bytes after from start used view valid silent is two at more later closed are =
    let (next, may, same) = heard_is bytes after more valid closed in
    let chars = faultless bytes ++ next in
    let heard : start ≤ length (heard_with bytes after) = omega (arith, is.heard) in
    let seen = missed_none chars from start (none_seen bytes after next from start may silent heard) in
    let stands = stands_there bytes after next from start may silent is (parts_of view.frame) used two (omega (arith, at.order)) at.within
    at.body in
    rw (same, at.start_is, at.stop_is) (message_on chars from _ later seen
    (record { stands = stands; least = late bytes after next from start may silent heard }) (rw same at are))

-- Whatever follows, nothing is seen up to the FF before an open place. Up to and including a missed place, only the miss of this place is
-- seen.
pub open_seen : (bytes : List ℕ) (after : After) (from start used : ℕ) → SilentBefore bytes after from start
    → IsAsked bytes after from start → IsStandingAt bytes after from start (Open used)
    → Whatever bytes after (λ chars. Passes chars from used [])
open_seen bytes after from start used silent is (inl (two, (more_is, at, truncated))) next may =
    open_two bytes after next from start may silent is used at two
open_seen bytes after from start used silent is (inr (one, (more_is, at, few, alone))) next may =
    open_one bytes after next from start may silent is used at one

pub missed_seen : (bytes : List ℕ) (after : After) (from start : ℕ) (miss : Miss) → SilentBefore bytes after from start
    → IsAsked bytes after from start → IsStandingAt bytes after from start (standing.Missed miss)
    → Whatever bytes after (λ chars. Passes chars from (start + 1) (Missed start miss (header_in (drop start bytes)) ∷ []))
missed_seen bytes after from start miss silent is (inl (two, (wrong, below, header))) next may =
    rw (header next may) at (miss_two bytes after next from start may silent is miss two (wrong next may))
missed_seen bytes after from start miss silent is (inr (one, (same, alone, header))) next may =
    rw same (rw (header next may) at (miss_one bytes after next from start may silent is one (alone next may)))

-- A message stands only after two preamble bytes.
pub message_two : (bytes : List ℕ) (after : After) (from start : ℕ) (layout : Layout)
    → IsStandingAt bytes after from start (standing.Message layout) → FollowsTwo bytes from start
message_two bytes after from start layout is = grind arith

-- If the place `start` is open, fewer than 269 characters are left from `used` on.
pub open_few : (bytes : List ℕ) (after : After) (place from start used : ℕ) → ((i : ℕ) → get_or bytes i 0 < 256)
    → IsAsked bytes after place start
    → IsStandingAt bytes after from start (Open used) → length (heard_with bytes after) < used + 269
open_few bytes after place from start used fits is stands =
    grind (arith, length-map, truncated_few (drop start bytes), get_or-drop, length-drop)
