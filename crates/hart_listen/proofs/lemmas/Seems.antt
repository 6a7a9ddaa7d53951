-- The header that is heard at a place belongs to every body there whose characters are the same up to the command.
use Rattle.std.proofs.Common.{◌≡◌, ◌+◌, ◌<◌, ◌∙◌, ℕ, zero, suc, List, [], ◌∷◌, None, Option, Some, arith, drop, length}
use Rattle.std.proofs.Common.{refl, sym, take, ◌==◌}
use Rattle.std.proofs.lemmas.Bool.Decides.{nat_tests}
use Rattle.std.proofs.lemmas.Grind.{common_steps}
use Rattle.std.proofs.lemmas.List.{get_or-take, length-take-le, take-append-drop}
use Rattle.std.proofs.lemmas.List.Sums.{take_while-cons}
use Rattle.std.specs.Prelude.{IsSome}
use Rattle.hart_frame.specs.heard.Character.{Character, faultless_bytes}
use Rattle.hart_frame.specs.heard.InTheWay.{HasBodyAt, bytes_from}
use Rattle.hart_frame.specs.heard.Sighting.{header_at}
use Rattle.hart_frame.specs.wire.Header.{HeaderParts, header_in, header_of}
use Rattle.hart_frame.specs.wire.Layout.{command_place, delimiter_in}
use Rattle.hart_frame.specs.wire.Refusal.{HasDelimiter}
use Rattle.hart_frame.proofs.lemmas.heard.FramesFound.{begins_at}
use Rattle.hart_frame.proofs.lemmas.Laws.{headers_are_those_of_frames-body, headers_are_those_of_frames-exactly}
use Rattle.hart_frame.proofs.lemmas.Laws.{headers_are_those_of_frames-stays}

-- the bytes of the first characters are the first bytes
first_bytes : (chars : List Character) (k : ℕ) → take k (faultless_bytes chars) ≡ faultless_bytes (take k chars)
first_bytes chars zero = refl
first_bytes [] (suc k) = refl
first_bytes (c ∷ chars) (suc k) =
    grind (
      arith,
      nat_tests,
      common_steps,
      take_while-cons (λ (c : Character). c.faults == 0) c chars,
      take_while-cons (λ (c : Character). c.faults == 0) c (take k chars),
      first_bytes chars k,
    )

-- if a header was found, `found` holds it
some_is : (found : Option HeaderParts) → IsSome found → (header : HeaderParts) × (found ≡ Some header)
some_is None has = absurd (grind arith)
some_is (Some header) has = (header, refl)

-- the bytes up to the command have the same header as all the bytes
header_front : (bytes : List ℕ) (header : HeaderParts) → header_in bytes ≡ Some header
    → header_in (take (command_place bytes + 1) bytes) ≡ Some header
header_front bytes header is =
    let k = command_place bytes + 1 in
    let front = take k bytes in
    let (delimiter, reach) = (headers_are_those_of_frames-exactly bytes).0 (rw is (grind arith)) in
    let long : length front ≡ k = length-take-le k bytes (omega (arith, reach)) in
    let first : delimiter_in front ≡ delimiter_in bytes = get_or-take k bytes 0 0 (omega arith) in
    let within : HasDelimiter front × (command_place front < length front) = grind (arith, long) in
    let (own, has) = some_is (header_in front) ((headers_are_those_of_frames-exactly front).1 within) in
    let whole = headers_are_those_of_frames-stays front (drop k bytes) own has in
    has ∙ (sym (rw (take-append-drop k bytes) at whole) ∙ is)

-- bytes that are equal to others up to the command have the same header
same_header : (bytes others : List ℕ) (header : HeaderParts) → header_in bytes ≡ Some header
    → take (command_place bytes + 1) others ≡ take (command_place bytes + 1) bytes → header_in others ≡ Some header
same_header bytes others header is same =
    let k = command_place bytes + 1 in
    let front : header_in (take k others) ≡ Some header = rw same (header_front bytes header is) in
    rw (take-append-drop k others) at (headers_are_those_of_frames-stays (take k others) (drop k others) header front)

pub header_of_all : (chars others : List Character) (place : ℕ) (header : HeaderParts) → header_at chars place ≡ Some header
    → take (command_place (bytes_from chars place) + 1) (drop place others)
    ≡ take (command_place (bytes_from chars place) + 1) (drop place chars)
    → (body : HasBodyAt others place) → header ≡ header_of body.frame
header_of_all chars others place header is same body =
    let k = command_place (bytes_from chars place) + 1 in
    let front : take k (bytes_from others place) ≡ take k (bytes_from chars place) =
    rw (first_bytes (drop place others) k, first_bytes (drop place chars) k, same) refl in
    let whole = same_header (bytes_from chars place) (bytes_from others place) header is front in
    let own = headers_are_those_of_frames-body
    (bytes_from others place) body.frame (length body.body) (begins_at others place body) in
    cc (whole, own)
