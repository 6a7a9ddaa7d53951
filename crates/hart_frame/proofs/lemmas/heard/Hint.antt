-- Where a body may start, a frame stands or there is a miss. If what the miss names is put right, a frame stands there.
use Rattle.hart_frame.proofs.Common.{◌≡◌, ◌≢◌, ℕ, fold, bit_xor, ◌+◌, ◌-◌, ◌<◌, ◌⊎◌, List, [], ◌∷◌, ◌++◌, length, take, drop, get_or, true}
use Rattle.hart_frame.proofs.Common.{ap, inl, inr, sym, ◌∙◌, None, Option, Some, refl, arith, append_assoc, length-append, ◌↔◌, nat_tests}
use Rattle.hart_frame.proofs.Common.{common_steps, drop_all, length-drop, take_at, append-nil, drop_more, length-take-le, map-append, All}
use Rattle.hart_frame.proofs.Common.{take-append-drop, take_more, All-append, All-drop, All-take, MatchOption, is_some, Miss, Faulty}
use Rattle.hart_frame.proofs.Common.{OnePreamble, Character, faultless, faultless_bytes, bytes_from, HasBodyAt, HasFrameAt, miss_of}
use Rattle.hart_frame.proofs.Common.{body_miss, check_miss, IsStart, IsOfBytes, BeginsWithBody, body_length, IsCheckByte, HasCheckByte}
use Rattle.std.proofs.Common.{set}
use Rattle.std.proofs.lemmas.List.{length-set, get_or-set_same, set_at}
use Rattle.std.proofs.lemmas.Option.{get_or_from_slice_get, slice_get_within}
use Rattle.std.specs.List.{insert}
use Rattle.std.specs.Option.{IsSome}
use Rattle.hart_frame.specs.declared.heard.miss.Miss.TheVariants.{BadCheck, Missing}
use Rattle.hart_frame.specs.heard.InTheWay.{FollowsOnePreamble, HasFaultsAt, IsMiss}
use Rattle.hart_frame.specs.heard.Place.{HasFrameUpTo}
use Rattle.hart_frame.proofs.lemmas.heard.FramesFound.{body_at, body_frame, frame_up_to, starts}
use Rattle.hart_frame.proofs.lemmas.heard.Front.{faultless_fit, heard_parts, length-faultless_bytes, of_chars, take_heard}
use Rattle.hart_frame.proofs.lemmas.heard.InTheWay.{in_the_way, way_of}
use Rattle.hart_frame.proofs.lemmas.heard.Missed.{miss_of-some, miss_of-start, none_of, one_preamble-is, one_preamble-yes}
use Rattle.hart_frame.proofs.lemmas.heard.Place.{preamble}
use Rattle.hart_frame.proofs.lemmas.wire.Parity.{IsCheckByte-fold, fits-is, fits_at}
use Rattle.hart_frame.proofs.lemmas.wire.Refusal.{HasGoodByteCount-more, length_more}
use Rattle.hart_frame.proofs.lemmas.wire.Truncated.{completed, fitted}

-- At each place a whole body begins, or there is a reason why no body begins.
body_or_miss : (chars : List Character) (start : ℕ) → IsOfBytes (drop start chars)
    → HasBodyAt chars start ⊎ (is_some (body_miss start (drop start chars)) ≡ true)
body_or_miss chars start fit =
    let bytes = bytes_from chars start in
    let n = body_length bytes in
    let stands : HasCheckByte bytes → check_miss bytes start ≡ None → HasBodyAt chars start = λ has same.
    let (frame, body) = completed bytes fit has in
    let begins : BeginsWithBody bytes frame n = grind (arith, nat_tests, common_steps, take_more) in
    body_at chars start frame n begins in
    grind (arith, nat_tests)

pub frame_or_miss : (place : ℕ) (chars : List Character) → All (λ c. c.byte < 256) chars → IsStart place chars
    → HasFrameAt chars place ⊎ IsSome (miss_of chars place)
frame_or_miss place chars fit is =
    let either = body_or_miss chars place (of_chars chars place fit) in
    grind (arith, body_frame chars place is, miss_of-start chars (drop place chars) place refl is)

-- Where the miss is `OnePreamble`, a whole body stands after a single FF.
one_stands : (start : ℕ) (chars : List Character) → IsOfBytes (drop start chars) → miss_of chars start ≡ Some OnePreamble
    → FollowsOnePreamble chars start × HasBodyAt chars start
one_stands start chars fit is =
    let either = body_or_miss chars start fit in
    grind (arith, miss_of-some chars start OnePreamble is, in_the_way start chars OnePreamble fit, one_preamble-is)

one_told : (start : ℕ) (chars : List Character) → FollowsOnePreamble chars start → HasBodyAt chars start
    → miss_of chars start ≡ Some OnePreamble
one_told start chars one has = grind (arith, one_preamble-yes chars start one, none_of chars start has)

pub one_alone : (start : ℕ) (chars : List Character) → All (λ c. c.byte < 256) chars
    → (miss_of chars start ≡ Some OnePreamble) ↔ (FollowsOnePreamble chars start × HasBodyAt chars start)
one_alone start chars fit = (one_stands start chars (of_chars chars start fit), λ both. one_told start chars both.0 both.1)

-- A miss that `miss_of` finds is a miss of the place, and each miss of the place is found.
found_is : (start : ℕ) (chars : List Character) (miss : Miss) → IsOfBytes (drop start chars) → miss_of chars start ≡ Some miss
    → IsMiss chars start miss
found_is start chars miss fit told =
    grind (arith, miss_of-some chars start miss told, in_the_way start chars miss fit, one_stands start chars fit)

is_found : (start : ℕ) (chars : List Character) (miss : Miss) → (IsStart start chars → IsOfBytes (drop start chars))
    → IsMiss chars start miss → miss_of chars start ≡ Some miss
is_found start chars miss fit (inl way) = (in_the_way start chars miss (fit way.0) way.0).1 way.1
is_found start chars miss fit (inr lone) = one_told start chars lone.1 lone.2 ∙ ap Some (sym lone.0)

pub miss_is : (start : ℕ) (chars : List Character) (miss : Miss) → All (λ c. c.byte < 256) chars
    → (miss_of chars start ≡ Some miss) ↔ IsMiss chars start miss
miss_is start chars miss fit =
    (found_is start chars miss (of_chars chars start fit), is_found start chars miss (λ here. of_chars chars start fit))

-- A place has at most one miss.
pub one_miss : (start : ℕ) (chars : List Character) (miss other : Miss) → All (λ c. c.byte < 256) chars → IsMiss chars start miss
    → IsMiss chars start other → miss ≡ other
one_miss start chars miss other fit is again = grind (arith, miss_is start chars miss fit, miss_is start chars other fit)

-- If a miss is found, it is the miss of the place. If no miss is found, the place has no miss.
pub is_told : (chars : List Character) (start : ℕ) (found : Option Miss)
    → (IsStart start chars ⊎ IsSome found → IsOfBytes (drop start chars)) → found ≡ miss_of chars start
    → MatchOption found ((miss : Miss) → IsMiss chars start miss → ⊥) (IsMiss chars start)
is_told chars start None fit same = λ miss is.
    let found = same ∙ is_found start chars miss (λ here. fit (inl here)) is in cc
is_told chars start (Some miss) fit same = found_is start chars miss (fit (inr (grind arith))) (sym same)

-- Where the miss is `OnePreamble`, a frame stands once another FF is inserted.
pub one_preamble_fits : (start : ℕ) (chars : List Character) → All (λ c. c.byte < 256) chars → miss_of chars start ≡ Some OnePreamble
    → HasFrameAt (insert chars start preamble) (start + 1)
one_preamble_fits start chars fit is =
    let (one, has) = one_stands start chars (of_chars chars start fit) is in
    let split : insert chars start preamble ≡ one.prefix ++ faultless (255 ∷ 255 ∷ has.body) ++ has.rest =
    grind (arith, common_steps, preamble, append_assoc, take_at) in
    let found = frame_up_to (insert chars start preamble) one.prefix has.rest has.body has.frame (start + 1) _ has.is_body split
    (grind arith) refl in
    (found.0, found.1, found.2)

-- Where the check byte is wrong, a frame stands once the byte that fits replaces it.
pub bad_check_fits : (start place byte fits : ℕ) (chars : List Character) → All (λ c. c.byte < 256) chars
    → miss_of chars start ≡ Some (BadCheck place byte fits)
    → HasFrameUpTo (set chars place (record { byte = fits; faults = 0 })) start (place + 1)
bad_check_fits start place byte fits chars fit is =
    let (here, (has, at, there, check, differ)) =
    way_of start chars (BadCheck place byte fits) (λ place byte fits same. of_chars chars start fit) is (λ same. cc) in
    let begins = starts chars start here in
    let c : Character = record { byte = fits; faults = 0 } in
    let heard = drop start chars in
    let bytes = faultless_bytes heard in
    let n = body_length bytes - 1 in
    let checked : List ℕ = take n bytes in
    let others : List Character = drop (n + 1) heard in
    let long = length-take-le n bytes (omega (arith, has.1)) in
    let bytes_fit = faultless_fit heard (All-drop (λ (x : Character). x.byte < 256) start chars fit) in
    let parts : heard ≡ faultless checked ++ get_or heard n preamble ∷ others =
    grind (arith, take-append-drop n heard, take_heard heard n, drop_more heard n preamble, length-faultless_bytes) in
    let front : List Character = begins.prefix ++ (preamble ∷ preamble ∷ faultless checked) in
    let split : chars ≡ front ++ get_or heard n preamble ∷ others = grind (arith, common_steps, preamble, append_assoc) in
    let body = completed bytes (All-take (λ byte. byte < 256) (body_length bytes) bytes bytes_fit) has in
    let fits_is = fits-is checked fits (All-take (λ byte. byte < 256) n bytes bytes_fit) check in
    let last = fold bit_xor 0 checked in
    let changed : set chars place c ≡ begins.prefix ++ faultless (255 ∷ 255 ∷ (checked ++ last ∷ [])) ++ others =
    grind (arith, common_steps, set_at, append_assoc, map-append) in
    frame_up_to (set chars place c) begins.prefix others (checked ++ last ∷ []) body.0 start (place + 1) body.1 changed begins.at
    (omega (arith, at, long, length-append checked (last ∷ [])))

-- Once a faultless character replaces a faulty one, the miss of `start` no longer names the place of this character as faulty.
pub fault_is_gone : (start place faults byte others : ℕ) (chars : List Character) → miss_of chars start ≡ Some (Faulty place faults)
    → miss_of (set chars place (record { byte = byte; faults = 0 })) start ≢ Some (Faulty place others)
fault_is_gone start place faults byte others chars is again =
    let c : Character = record { byte = byte; faults = 0 } in
    let (here, (early, at, (some, byte, there))) =
    way_of start (set chars place c) (Faulty place others) (λ place byte fits same. absurd cc) again (λ same. cc) in
    grind (arith, slice_get_within, get_or_from_slice_get, get_or-set_same chars place c preamble, length-set chars place c)

-- The character that is named as faulty stands at its place, with the fault bits that are named.
pub fault_is_there : (start place faults : ℕ) (chars : List Character) → miss_of chars start ≡ Some (Faulty place faults)
    → HasFaultsAt chars place faults
fault_is_there start place faults chars is = grind (arith, way_of start chars (Faulty place faults))

-- Where `count` bytes are missing, a frame stands once `count` bytes are appended and the last appended byte is the check byte that fits.
pub missing_fits : (start count : ℕ) (chars : List Character) (bytes : List ℕ) → All (λ c. c.byte < 256) chars
    → All (λ byte. byte < 256) bytes → miss_of chars start ≡ Some (Missing count) → count ≡ length bytes + 1
    → (last : ℕ) × IsCheckByte (bytes_from chars start ++ bytes) last
    × HasFrameUpTo (chars ++ faultless (bytes ++ last ∷ [])) start (length chars + count)
missing_fits start count chars more fit more_fit is long =
    let (here, (good, some, whole, end)) = way_of start chars (Missing count) (λ place byte fits same. absurd cc) is (λ same. cc) in
    let at = starts chars start here in
    let heard = drop start chars in
    let bytes = faultless_bytes heard in
    let checked : List ℕ = bytes ++ more in
    let last = fold bit_xor 0 checked in
    let fits = faultless_fit heard (All-drop (λ (x : Character). x.byte < 256) start chars fit) in
    let checked_fit = All-append (λ byte. byte < 256) bytes more fits more_fit in
    let size = length-append bytes more in
    let body = fitted checked checked_fit (HasGoodByteCount-more bytes more good)
    (omega (arith, length_more bytes more good.0.1, size, whole, long)) in
    let all : heard ≡ faultless bytes = grind (arith, heard_parts heard, drop_all, append-nil, length-drop) in
    let split : chars ≡ at.prefix ++ (preamble ∷ preamble ∷ faultless bytes) = grind (arith, common_steps, preamble) in (
      last,
      IsCheckByte-fold checked last (fits_at checked checked_fit) refl,
      frame_up_to (chars ++ faultless (more ++ last ∷ [])) at.prefix [] (checked ++ last ∷ []) body.0 start (length chars + count)
          body.1 (grind (arith, common_steps, append_assoc, append-nil, map-append)) at.at
          (omega (arith, whole, end, length-append checked (last ∷ []), size, long)),
    )
