-- What bytes say about a body does not change when more bytes follow. Bytes that begin with a body are not refused, and that body is
-- decoded.
use Rattle.hart_frame.proofs.Common.{◌≡◌, ◌≢◌, ℕ, ◌<◌, ◌≤◌, List, ◌++◌, length, take, arith, length-append, get_or_append_left, get_or-take}
use Rattle.hart_frame.proofs.Common.{length-take-le, take-append-le, FrameFault, Truncated, Layout, Describes, byte_count_place}
use Rattle.hart_frame.proofs.Common.{body_length, IsRefusedWith, HasCheckByte, HasGoodByteCount, ◌+◌, ◌*◌, [], ◌∷◌, drop, sym, ◌∙◌}
use Rattle.hart_frame.proofs.Common.{get_or_at, FrameParts, take-append-drop, BeginsWithBody, common_steps, delimiter_of, address_type}
use Rattle.hart_frame.proofs.Common.{delimiter_in, byte_count_in}
use Rattle.std.proofs.Common.{Result, Ok, Err}
use Rattle.std.specs.Result.{IfOk, IfErr}
use Rattle.hart_frame.proofs.lemmas.wire.UnambiguousBodies.{address_type-lt, bodies_are_unambiguous-one_prefix, kind_code-is}
use Rattle.hart_frame.proofs.lemmas.wire.UnambiguousBodies.{length-address, spread}

pub length_more : (xs ys : List ℕ) → byte_count_place xs < length xs → body_length (xs ++ ys) ≡ body_length xs
length_more xs ys within = grind (arith, get_or_append_left)

pub HasGoodByteCount-more : (xs ys : List ℕ) → HasGoodByteCount xs → HasGoodByteCount (xs ++ ys)
HasGoodByteCount-more xs ys has = grind (arith, length-append, get_or_append_left)

-- Bytes that are refused with a fault other than `Truncated` are refused with the same fault, whatever follows.
pub refused_more : (xs ys : List ℕ) (fault : FrameFault) → fault ≢ Truncated → IsRefusedWith xs fault → IsRefusedWith (xs ++ ys) fault
refused_more xs ys fault decided refused = grind (arith, length-append, get_or_append_left, length_more, take-append-le)

-- If bytes have a check byte, a prefix that reaches it has it too, and gives the same length of the body.
pub HasCheckByte-prefix : (xs ys : List ℕ) → HasCheckByte (xs ++ ys) → body_length (xs ++ ys) ≤ length xs
    → HasCheckByte xs × (body_length (xs ++ ys) ≡ body_length xs)
HasCheckByte-prefix xs ys has long = grind (arith, get_or_append_left)

pub Describes-prefix : (layout : Layout) (xs ys : List ℕ) → Describes layout (xs ++ ys) → byte_count_place xs < length xs
    → Describes layout xs
Describes-prefix layout xs ys is within = grind (arith, get_or_append_left)

-- A prefix that reaches a good byte count has the same byte count, and so the same length of the body.
pub good_prefix : (bytes : List ℕ) (n : ℕ) → HasCheckByte bytes → byte_count_place bytes < n → n ≤ length bytes
    → HasGoodByteCount (take n bytes) × (body_length (take n bytes) ≡ body_length bytes)
good_prefix bytes n has after within = grind (arith, get_or-take, length-take-le)

-- A list that begins with a frame's body has the delimiter, the byte count and the length that the frame implies.
pub record Says (bytes : List ℕ) (f : FrameParts) (len : ℕ) : Type 0 where
  pub delimiter : delimiter_in bytes ≡ delimiter_of f
  pub place : byte_count_place bytes ≡ 3 + 4 * address_type f.address + length f.expansion
  pub count : byte_count_in bytes ≡ length f.payload
  pub whole : len ≡ body_length bytes
  pub within : len ≤ length bytes

pub says : (bytes : List ℕ) (f : FrameParts) (len : ℕ) → BeginsWithBody bytes f len → Says bytes f len
says bytes f len begins =
    let whole = sym (take-append-drop len bytes) ∙ spread f (take len bytes) (drop len bytes) begins.body in
    let prefix : List ℕ = delimiter_of f ∷ begins.body.checked_part.address ++ f.expansion ++ f.command ∷ [] in
    let place : length prefix ≡ byte_count_place bytes = grind (arith, length-append, address_type-lt, kind_code-is, length-address) in
    search (arith, common_steps, get_or_at, length-take-le, length-append, length-address, address_type-lt)

-- A list that begins with a body reaches its check byte.
pub has_check : (bytes : List ℕ) (f : FrameParts) (len : ℕ) → BeginsWithBody bytes f len → HasCheckByte bytes
has_check bytes f len begins = grind (arith, says bytes f len begins, kind_code-is, address_type-lt f.address)

-- A list that begins with a body is refused with no fault.
pub not_refused : (bytes : List ℕ) (f : FrameParts) (len : ℕ) (fault : FrameFault)
    → BeginsWithBody bytes f len → IsRefusedWith bytes fault → ⊥
not_refused bytes f len fault begins refused = grind (arith, says bytes f len begins, has_check bytes f len begins)

-- The body with which the bytes begin is what is decoded.
pub only : (bytes : List ℕ) (result : Result (FrameParts × ℕ) FrameFault)
    → IfOk result (λ found. BeginsWithBody bytes found.0 found.1) → IfErr result (IsRefusedWith bytes)
    → (f : FrameParts) (len : ℕ) → BeginsWithBody bytes f len → result ≡ Ok (f, len)
only bytes (Ok found) accepts refused f len begins = grind (arith, bodies_are_unambiguous-one_prefix found.0 f bytes found.1 len)
only bytes (Err fault) accepts refused f len begins = absurd (not_refused bytes f len fault begins refused)
