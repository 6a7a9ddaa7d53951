-- Where a body may start, the miss is what stands in the way. The bytes are refused with the fault that corresponds to this miss.
use Rattle.hart_frame.proofs.lemmas.wire.Parity.{fit_before, IsCheckByte-fold, fits-is, fits_at, odd}
use Rattle.hart_frame.proofs.Common.{◌≡◌, ◌≢◌, ℕ, ◌+◌, ◌-◌, ◌<◌, ◌⊎◌, List, fold, bit_xor, length, take, ◌↔◌, drop, get_or, None, Some, ◌∙◌}
use Rattle.hart_frame.proofs.Common.{refl, arith, Option, nat_tests, common_steps, get_or-drop, length-append, length-drop, All}
use Rattle.hart_frame.proofs.Common.{slice_get-get_or, slice_get_cases, slice_get, Miss, Faulty, OnePreamble, FrameFault, miss_in}
use Rattle.hart_frame.proofs.Common.{Character, faultless_bytes, bytes_from, body_miss, miss_of, IsStart, IsOfBytes, BeginsWithBody}
use Rattle.hart_frame.proofs.Common.{FrameParts, body_length, IsCheckByte, IsRefusedWith, faulty_or}
use Rattle.hart_frame.specs.declared.heard.miss.Miss.TheVariants.{BadCheck, EndsBeforeByteCount}
use Rattle.hart_frame.specs.heard.InTheWay.{ComeToTheEnd, HasFaultsAt, IsInTheWay, fault_of}
use Rattle.hart_frame.proofs.lemmas.heard.Front.{char_at, after_faultless, length-faultless_bytes}
use Rattle.hart_frame.proofs.lemmas.heard.Missed.{miss_of-some, miss_of-start}
use Rattle.hart_frame.proofs.lemmas.heard.Place.{preamble, rest_at}
use Rattle.hart_frame.proofs.lemmas.wire.Refusal.{not_refused}

-- Each byte before the first character with fault bits is heard at its place as a faultless character.
heard_at : (chars : List Character) (start i place : ℕ) → place ≡ start + i → i < length (bytes_from chars start)
    → slice_get chars place ≡ Some (record { byte = get_or (bytes_from chars start) i 0; faults = 0 })
heard_at chars start i place is below =
    let heard = drop start chars in
    grind (arith, slice_get-get_or chars place preamble, char_at heard i preamble below, length-faultless_bytes, length-drop, get_or-drop)

-- The faultless bytes stop at the end of the list or at a character with fault bits.
stops : (chars : List Character) (start : ℕ) (at_end : Miss) → IsStart start chars
    → (ComeToTheEnd chars start × (slice_get chars (start + length (bytes_from chars start)) ≡ None)
    × (faulty_or (slice_get (drop start chars) (length (bytes_from chars start))) (start + length (bytes_from chars start)) at_end
    ≡ at_end))
    ⊎ ((start + length (bytes_from chars start) < length chars)
    × (faults : ℕ) × HasFaultsAt chars (start + length (bytes_from chars start)) faults
    × (faulty_or (slice_get (drop start chars) (length (bytes_from chars start))) (start + length (bytes_from chars start)) at_end
    ≡ Faulty (start + length (bytes_from chars start)) faults))
stops chars start at_end is =
    grind (arith, slice_get_cases, slice_get-get_or, length-faultless_bytes, length-append, rest_at, after_faultless, length-drop)

-- The miss that is found stands in the way.
said : (chars : List Character) (start : ℕ) (miss : Miss)
    → ((place byte fits : ℕ) → miss ≡ BadCheck place byte fits → IsOfBytes (drop start chars))
    → IsStart start chars → body_miss start (drop start chars) ≡ Some miss → IsInTheWay chars start miss
said chars start miss fit is told =
    let bytes = bytes_from chars start in
    let n = body_length bytes - 1 in
    let same : (place byte fits : ℕ) → miss ≡ BadCheck place byte fits → IsCheckByte (take n bytes) (fold bit_xor 0 (take n bytes)) =
    λ place byte fits is.
    IsCheckByte-fold _ _ (fits_at (take n bytes) (fit_before bytes (body_length bytes) (fit place byte fits is))) refl in
    grind (arith, nat_tests, stops chars start EndsBeforeByteCount is, heard_at chars start n, same (start + n))

-- What stands in the way is the miss that is found.
only : (chars : List Character) (start : ℕ) (miss : Miss) → IsOfBytes (drop start chars) → IsStart start chars
    → IsInTheWay chars start miss → body_miss start (drop start chars) ≡ Some miss
only chars start (BadCheck place byte fits) fit is way =
    let bytes = bytes_from chars start in
    let n = body_length bytes - 1 in
    grind (arith, nat_tests, heard_at chars start n place, fits-is (take n bytes) fits (fit_before bytes (body_length bytes) fit))
only chars start miss fit is way =
    let bytes = bytes_from chars start in
    grind (arith, nat_tests, stops chars start EndsBeforeByteCount is)

pub in_the_way : (start : ℕ) (chars : List Character) (miss : Miss) → IsOfBytes (drop start chars) → IsStart start chars
    → (miss_of chars start ≡ Some miss) ↔ IsInTheWay chars start miss
in_the_way start chars miss fit is = grind (arith, common_steps, nat_tests, miss_of-start, said, only)

-- A miss other than `OnePreamble` belongs to a place where a body may start, and stands in the way there.
pub way_of : (start : ℕ) (chars : List Character) (miss : Miss)
    → ((place byte fits : ℕ) → miss ≡ BadCheck place byte fits → IsOfBytes (drop start chars)) → miss_of chars start ≡ Some miss
    → miss ≢ OnePreamble → IsStart start chars × IsInTheWay chars start miss
way_of start chars miss fit is two = grind (arith, miss_of-some chars start miss is, said chars start miss fit)

-- Each miss other than `OnePreamble` has a fault, with which the bytes are refused.
has_fault : (miss : Miss) → miss ≢ OnePreamble → (fault : FrameFault) × (fault_of miss ≡ Some fault)
has_fault miss two = grind arith

refused_so : (bytes : List ℕ) (faulty : Option Character) (end start : ℕ) (miss : Miss)
    → All (λ byte. byte < 256) (take (body_length bytes) bytes) → miss_in bytes faulty end start ≡ Some miss → (fault : FrameFault)
    → fault_of miss ≡ Some fault → IsRefusedWith bytes fault
refused_so bytes faulty end start miss fit told fault is = grind (arith, nat_tests, odd bytes (body_length bytes) fit)

pub miss_is_fault : (start : ℕ) (chars : List Character) (miss : Miss) → IsOfBytes (drop start chars) → IsStart start chars
    → miss_of chars start ≡ Some miss
    → (fault : FrameFault) × (fault_of miss ≡ Some fault) × IsRefusedWith (faultless_bytes (drop start chars)) fault
miss_is_fault start chars miss fit is miss_is =
    let heard = drop start chars in
    let way = (in_the_way start chars miss fit is).0 miss_is in
    let (fault, same) = has_fault miss (λ same. rw same at way) in
    (fault, same, refused_so (faultless_bytes heard) _ _ start miss fit (miss_of-start chars heard start refl is ∙ miss_is) fault same)

-- A miss corresponds to no fault if a body begins at its place.
pub whole_is_no_fault : (start : ℕ) (chars : List Character) (miss : Miss) (f : FrameParts) (len : ℕ) → IsOfBytes (drop start chars)
    → miss_of chars start ≡ Some miss → BeginsWithBody (faultless_bytes (drop start chars)) f len → fault_of miss ≡ None
whole_is_no_fault start chars OnePreamble f len fit told begins = refl
whole_is_no_fault start chars miss f len fit told begins =
    let (is, way) = way_of start chars miss (λ place byte fits same. fit) told (λ same. cc) in
    let (fault, same, refused) = miss_is_fault start chars miss fit is told in
    absurd (not_refused (faultless_bytes (drop start chars)) f len fault begins refused)

-- An attribute in code cannot name lemmas with a dash in their names, so it names this rule set.
pub ruleset character_at = (slice_get-get_or)
