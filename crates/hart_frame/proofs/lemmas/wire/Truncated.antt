-- Bytes end too early for a body exactly if they can become a body and begin with no body yet.
use Rattle.hart_frame.proofs.Common.{subst, ◌≡◌, ℕ, fold, bit_xor, ◌+◌, ◌-◌, ◌<◌, ◌≤◌, List, [], ◌∷◌, ◌++◌, length, take, drop, get_or}
use Rattle.hart_frame.proofs.Common.{replicate, refl, arith, length-append, take-append_seam, get_or_append_left, get_or-take}
use Rattle.hart_frame.proofs.Common.{length-replicate, All, length-take-le, take_all, take_at, take-append-drop, take-append-le, take-take}
use Rattle.hart_frame.proofs.Common.{All-append, All-take, IsBody, BeginsWithBody, FrameParts, byte_count_place, body_length, HasCheckByte}
use Rattle.hart_frame.proofs.Common.{IsTruncated, All-push, All-replicate, HasDelimiter, HasGoodByteCount}
use Rattle.hart_frame.proofs.lemmas.wire.Parity.{fit_before, IsCheckByte-fold, fits_at}
use Rattle.std.proofs.lemmas.List.{get_or-append_right, get_or-replicate}
use Rattle.hart_frame.specs.wire.Body.{HasNoBody, CanBecomeBody}
use Rattle.hart_frame.proofs.lemmas.wire.BodiesFound.{held_frame}
use Rattle.hart_frame.proofs.lemmas.wire.Body.{IsBody-push}
use Rattle.hart_frame.proofs.lemmas.wire.Refusal.{HasGoodByteCount-more, length_more, has_check, says}

-- Bytes become a body once their exclusive or is appended.
abbrev pub Fitted : List ℕ → Type 0
Fitted bytes = (frame : FrameParts) × IsBody frame (bytes ++ fold bit_xor 0 bytes ∷ [])

-- The bytes before a check byte are a body once the check byte that fits is appended.
pub completed : (whole : List ℕ) → All (λ byte. byte < 256) (take (body_length whole) whole) → HasCheckByte whole
    → Fitted (take (body_length whole - 1) whole)
completed whole fit has =
    let held = held_frame whole (λ k below. grind (arith, fits_at (take (body_length whole) whole) fit k, get_or-take)) has in
    let fits = fit_before whole (body_length whole) fit in
    (held.frame, IsBody-push held.frame _ _ held.part fits (IsCheckByte-fold _ _ (fits_at _ fits) refl))

pub fitted : (bytes : List ℕ) → All (λ byte. byte < 256) bytes → HasGoodByteCount bytes → body_length bytes ≡ length bytes + 1
    → Fitted bytes
fitted bytes fit good last =
    let whole : List ℕ = bytes ++ 0 ∷ [] in
    let fits = All-take (λ byte. byte < 256) (body_length whole) whole (All-push (λ byte. byte < 256) bytes 0 fit (omega arith)) in
    let len = length_more bytes (0 ∷ []) good.0.1 in
    subst Fitted (grind (arith, take_at)) (completed whole fits (grind (arith, HasGoodByteCount-more bytes (0 ∷ []) good, length-append)))

-- Bytes that end too early reach a check byte if 300 bytes with the value 2 follow. The value 2 is the delimiter of an STX, and also a good
-- byte count.
pub filled : (bytes : List ℕ) (more : ℕ) → All (λ byte. byte < 256) bytes → IsTruncated bytes → 300 ≤ more
    → HasCheckByte (bytes ++ replicate more 2) × (length bytes < body_length (bytes ++ replicate more 2))
filled bytes more fit truncated enough =
    grind (arith, fits_at, get_or_append_left, get_or-append_right, get_or-replicate, length-append, length-replicate)

-- Bytes that end too early can become a body.
pub CanBecomeBody-truncated : (bytes : List ℕ) → All (λ byte. byte < 256) bytes → IsTruncated bytes → CanBecomeBody bytes
CanBecomeBody-truncated bytes fit truncated =
    let twos : List ℕ = replicate 300 2 in
    let whole : List ℕ = bytes ++ twos in
    let filled = filled bytes 300 fit truncated (omega arith) in
    let fits = All-append (λ byte. byte < 256) bytes twos fit (All-replicate (λ byte. byte < 256) 300 2 (omega arith)) in
    let prefix = take (body_length whole - 1) whole in
    let (frame, is) = completed whole (All-take (λ byte. byte < 256) (body_length whole) whole fits) filled.0 in
    let body = prefix ++ fold bit_xor 0 prefix ∷ [] in
    let begins : take (length bytes) body ≡ bytes = grind (arith, take-append-le, length-take-le, take-take, take-append_seam) in
    let begun : BeginsWithBody (bytes ++ drop (length bytes) body) frame (length body) = grind (arith, take-append-drop, take_all) in
    record { rest = drop (length bytes) body; frame = frame; count = length body; begins = begun }

-- A prefix that ends before the byte count ends too early, if the delimiter is good.
pub truncated_count : (xs : List ℕ) (fewer : ℕ) → HasDelimiter xs → fewer ≤ byte_count_place xs → fewer ≤ length xs
    → IsTruncated (take fewer xs)
truncated_count xs fewer has before within = grind (arith, length-take-le, get_or-take)

-- A prefix that ends before the check byte ends too early, if the byte count is good.
pub truncated_check : (xs : List ℕ) (fewer : ℕ) → HasGoodByteCount xs → fewer < body_length xs → fewer ≤ length xs
    → IsTruncated (take fewer xs)
truncated_check xs fewer has before within = grind (arith, length-take-le, truncated_count, get_or-take)

-- Bytes that can become a body, and begin with no body yet, end too early.
pub IsTruncated-only : (bytes : List ℕ) → CanBecomeBody bytes → HasNoBody bytes → IsTruncated bytes
IsTruncated-only bytes can none =
    let said = says (bytes ++ can.rest) can.frame can.count can.begins in
    let has = has_check (bytes ++ can.rest) can.frame can.count can.begins in
    grind (arith, length-append bytes can.rest, get_or_append_left, take-append-le can.count bytes can.rest, none can.frame can.count)

-- Bytes that end too early are fewer than 267.
pub truncated_few : (xs : List ℕ) → ((i : ℕ) → get_or xs i 0 < 256) → IsTruncated xs → length xs < 267
truncated_few xs fits truncated = grind (arith, fits 0, fits (byte_count_place xs))
