use Rattle.std.proofs.Common.{◌≡◌, ◌+◌, ◌-◌, ◌<◌, ◌≤◌, ℕ, false, All, ◌⊎◌, ◌≢◌, List, Option, length, drop, Some, arith, refl}
use Rattle.std.proofs.Common.{◌++◌, ◌∷◌, [], length-drop}
use Rattle.std.proofs.lemmas.Grind.{common_steps}
use Rattle.std.proofs.lemmas.List.{drop-append-le, drop-drop, drop-set-add}
use Rattle.std.proofs.lemmas.List.Elements.{All-drop}
use Rattle.std.proofs.lemmas.Option.{slice_get_cases, slice_get_within}
use Rattle.std.specs.List.{Contains, slice_get}
use Rattle.hart_frame.specs.declared.heard.miss.Miss.{Miss}
use Rattle.hart_frame.specs.declared.heard.miss.Miss.TheVariants.{BadCheck, Faulty, Missing, OnePreamble}
use Rattle.hart_frame.specs.heard.Character.{Character, faultless}
use Rattle.hart_frame.specs.wire.Parity.{IsCheckByte}
use Rattle.hart_frame.specs.heard.InTheWay.{FollowsOnePreamble, HasBodyAt, IsInTheWay, bytes_from}
use Rattle.hart_frame.specs.heard.Place.{HasFrameUpTo}
use Rattle.hart_frame.specs.heard.Miss.{miss_of}
use Rattle.hart_frame.specs.heard.Place.{IsStart}
use Rattle.hart_frame.specs.heard.Sighting.{Missed, miss_in_whole, missed, seen_miss, two_begin_in_body}
use Rattle.hart_frame.specs.wire.Header.{HeaderParts}
use Rattle.hart_frame.proofs.lemmas.heard.Missed.{one_preamble-yes}
use Rattle.hart_listen.proofs.lemmas.Gaps.{missed_are, missed_header, missed_within, seen_is_miss, stands_in_rest}
use Rattle.hart_listen.proofs.lemmas.OnePreamble.{has_one_preamble}
use Rattle.hart_listen.proofs.lemmas.Seems.{header_of_all}
use Rattle.hart_listen.proofs.laws.hints_of_explanations_are_right.Goals as goal

-- a frame in the rest of a list of characters is a frame in the list
frame_up_to : (chars : List Character) (from start stop place end : ℕ) → HasFrameUpTo (drop from chars) start stop
    → place ≡ from + start → end ≡ from + stop → HasFrameUpTo chars place end
frame_up_to chars from start stop place end (found, stands, begins, ends) place_is end_is =
    grind (arith, common_steps, stands_in_rest chars from 0 found (omega arith) stands)

-- a character in the rest of a list of characters is a character of the list
char_in_rest : (chars : List Character) (from at : ℕ) (c : Character) → slice_get (drop from chars) at ≡ Some c
    → slice_get chars (from + at) ≡ Some c
char_in_rest chars from at c is = grind (arith, common_steps, slice_get_within, slice_get_cases)

-- the bytes from a place in the rest on are the bytes from the same place in the whole list on
bytes_in_rest : (chars : List Character) (from start place : ℕ) → place ≡ from + start
    → bytes_from (drop from chars) start ≡ bytes_from chars place
bytes_in_rest chars from start place is = grind (arith, common_steps, drop-drop)

-- what stands in the way in the rest of a list of characters also stands in the way in the list
way_in_rest : (chars : List Character) (from start place : ℕ) (miss : Miss) → place ≡ from + start → from ≤ length chars
    → IsInTheWay (drop from chars) start miss → IsInTheWay chars place (miss_in_whole from miss)
way_in_rest chars from start place miss is within way = grind (arith, bytes_in_rest chars from start place is, char_in_rest, length-drop)

-- if a body may start in the rest of a list of characters, that rest is not empty
rest_is : (chars : List Character) (from start : ℕ) → IsStart start (drop from chars) → from ≤ length chars
rest_is chars from start is = grind (arith, common_steps, length-drop from chars)

-- what a miss in the rest of a list says about the whole list
pub record Known (chars : List Character) (from place : ℕ) (miss : Miss) : Type 0 where
  pub small : All (λ character. character.byte < 256) (drop from chars)
  pub placed : place ≡ from + (place - from)
  pub own : Miss
  pub seen : seen_miss (drop from chars) (place - from) ≡ Some own
  pub is : miss_of (drop from chars) (place - from) ≡ Some own
  pub told : miss ≡ miss_in_whole from own

known : (chars : List Character) (from stop place : ℕ) (miss : Miss) (header : Option HeaderParts)
    → All (λ character. character.byte < 256) chars → Contains (missed chars from stop) (Missed place miss header)
    → Known chars from place miss
known chars from stop place miss header small has =
    let (after, own, seen, told) = missed_are chars from stop place miss header has in record {
      small = All-drop (λ (character : Character). character.byte < 256) from chars small;
      placed = omega (arith, after);
      own = own;
      seen = seen;
      is = seen_is_miss (drop from chars) (place - from) own seen;
      told = told;
    }

-- a miss that names a bad check byte in the whole list names it in the rest too
own_check : (from at byte fits : ℕ) (own : Miss) → BadCheck at byte fits ≡ miss_in_whole from own
    → (start : ℕ) × (own ≡ BadCheck start byte fits) × (at ≡ from + start)
own_check from at byte fits (BadCheck start b f) is = (start, grind arith, grind arith)
own_check from at byte fits _ is = absurd cc

-- if a miss, counted in the whole list, names a character with fault bits, it names that character in the rest too
own_fault : (from at faults : ℕ) (own : Miss) → Faulty at faults ≡ miss_in_whole from own
    → (start : ℕ) × (own ≡ Faulty start faults) × (at ≡ from + start)
own_fault from at faults (Faulty start f) is = (start, grind arith, grind arith)
own_fault from at faults _ is = absurd cc

-- a miss that names missing characters in the whole list names the same number in the rest
own_missing : (from count : ℕ) (own : Miss) → Missing count ≡ miss_in_whole from own → own ≡ Missing count
own_missing from count (Missing n) is = grind arith
own_missing from count _ is = absurd cc

-- a miss that is `OnePreamble` in the whole list is `OnePreamble` in the rest too
own_one : (from : ℕ) (own : Miss) → OnePreamble ≡ miss_in_whole from own → own ≡ OnePreamble
own_one from OnePreamble is = refl
own_one from _ is = absurd cc

-- if a body after a single preamble byte is seen as a miss, no two preamble bytes begin in it
alone_is : (chars : List Character) (place : ℕ) → seen_miss chars place ≡ Some OnePreamble → FollowsOnePreamble chars place
    → two_begin_in_body chars place ≡ false
alone_is chars place seen follows = let one = one_preamble-yes chars place follows in grind (arith, one)

-- if a place has any miss but `OnePreamble`, a body may start there
started : (start : ℕ) (chars : List Character) (miss : Miss) → IsStart start chars ⊎ (miss ≡ OnePreamble) → miss ≢ OnePreamble
    → IsStart start chars
started start chars miss either other = grind arith

-- if bytes complete a frame when they follow the rest of a list, they complete it when they follow the whole list
missing_in_rest : (chars : List Character) (from place count : ℕ) (bytes : List ℕ) → place ≡ from + (place - from)
    → from ≤ length chars
    → (last : ℕ) × IsCheckByte (bytes_from (drop from chars) (place - from) ++ bytes) last
    × HasFrameUpTo (drop from chars ++ faultless (bytes ++ last ∷ [])) (place - from) (length (drop from chars) + count)
    → (last : ℕ) × IsCheckByte (bytes_from chars place ++ bytes) last
    × HasFrameUpTo (chars ++ faultless (bytes ++ last ∷ [])) place (length chars + count)
missing_in_rest chars from place count bytes placed within (last, check, stands) = (
  last,
  rw (bytes_in_rest chars from (place - from) place placed) at check,
  frame_up_to _ from (place - from) (length (drop from chars) + count) place _ (rw drop-append-le stands) placed
      (omega (arith, length-drop from chars)),
)

-- a body in the rest of a list of characters is a body in the list
body_in_rest : (chars : List Character) (from start place : ℕ) → place ≡ from + start → HasBodyAt (drop from chars) start
    → HasBodyAt chars place
body_in_rest chars from start place is has = grind (arith, common_steps, drop-drop)

pub returns-clause-in_the_way : goal.returns-clause-in_the_way
returns-clause-in_the_way c chars from stop place miss header small has start =
    let k = known chars from stop place miss header small has in
    rw k.told (way_in_rest chars from (place - from) place k.own k.placed (rest_is chars from (place - from) start)
    ((c.misses_are_in_the_way.ensures.in_the_way (place - from) (drop from chars) k.own k.small start).0 k.is))

pub returns-clause-fits : goal.returns-clause-fits
returns-clause-fits c chars from stop place at byte fits header small has =
    let k = known chars from stop place (BadCheck at byte fits) header small has in
    let (start, own, at_is) = own_check from at byte fits k.own k.told in
    let stands = c.misses_say_what_is_wrong.ensures.bad_check (place - from) start byte fits (drop from chars) k.small (rw own at k.is) in
    rw at_is (frame_up_to _ from (place - from) (start + 1) place (from + start + 1) (rw drop-set-add stands) k.placed (omega arith))

pub returns-clause-faulty : goal.returns-clause-faulty
returns-clause-faulty c chars from stop place at faults header small has =
    let k = known chars from stop place (Faulty at faults) header small has in
    let (first, own, at_is) = own_fault from at faults k.own k.told in
    let is = rw own at k.is in
    let either = c.every_start_has_a_frame_or_a_miss.ensures.only_there (place - from) (drop from chars) (Faulty first faults) is in
    let start = started (place - from) (drop from chars) (Faulty first faults) either (λ same. absurd cc) in
    (returns-clause-in_the_way c chars from stop place (Faulty at faults) header small has start).2

pub returns-clause-missing : goal.returns-clause-missing
returns-clause-missing c chars from stop place count bytes header small fit has long =
    let k = known chars from stop place (Missing count) header small has in
    let is = rw (own_missing from count k.own k.told) at k.is in
    let either = c.every_start_has_a_frame_or_a_miss.ensures.only_there (place - from) (drop from chars) (Missing count) is in
    let within = rest_is chars from (place - from) (started (place - from) (drop from chars) (Missing count) either (λ same. absurd cc)) in
    missing_in_rest chars from place count bytes k.placed within
    (c.misses_say_what_is_wrong.ensures.missing (place - from) count (drop from chars) bytes k.small fit is long)

pub returns-clause-alone : goal.returns-clause-alone
returns-clause-alone c chars frames from stop place header small are gap has =
    let k = known chars from stop place OnePreamble header small has in
    let within = missed_within chars from stop place OnePreamble header has in
    let one = own_one from k.own k.told in
    let (alone, body) = (c.misses_are_in_the_way.ensures.one_alone (place - from) (drop from chars) k.small).0 (rw one at k.is) in (
      has_one_preamble chars frames from stop place are gap within.0 within.1 (one_preamble-yes (drop from chars) (place - from) alone),
      body_in_rest chars from (place - from) place k.placed body,
      rw (bytes_in_rest chars from (place - from) place k.placed) at
          (alone_is (drop from chars) (place - from) (rw one at k.seen) alone),
    )

pub returns-clause-seems : goal.returns-clause-seems
returns-clause-seems c chars others from stop place miss header has same body =
    header_of_all chars others place header (missed_header chars from stop place miss (Some header) has) same body
