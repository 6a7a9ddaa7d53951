-- A list of bytes begins with at most one body, and that body has at most one frame.
use Rattle.hart_frame.proofs.Common.{◌≡◌, ℕ, ◌+◌, ◌*◌, ◌<◌, Bool, List, [], ◌∷◌, ◌++◌, fold, bit_xor, length, take, drop, refl, arith}
use Rattle.hart_frame.proofs.Common.{append_assoc, length-append, take-append_seam, append-nil, length-take-le, take_at, take-append-drop}
use Rattle.hart_frame.proofs.Common.{get_or_append_left, get_or_at, get_or_past, IsAddressBytes, Address, MasterId, IsBody, BeginsWithBody}
use Rattle.hart_frame.proofs.Common.{delimiter_of, kind_code, address_type, FrameParts, FrameKind}
use Rattle.std.proofs.Math.Seq.{drop-append_seam}
use Rattle.hart_values.proofs.lemmas.Laws.{address_bytes_are_unambiguous-one_list}
use Rattle.hart_frame.specs.declared.wire.kind.FrameKind.TheVariants.{Stx, Ack}
use Rattle.hart_frame.proofs.lemmas.wire.Parity.{even-is, fits_at}

-- Prefixes of the same length split equal lists into equal parts.
same_parts : (prefix other back rest : List ℕ) → length prefix ≡ length other → prefix ++ back ≡ other ++ rest
    → (prefix ≡ other) × (back ≡ rest)
same_parts prefix other back rest lengths whole =
    grind (arith, take-append_seam prefix back, take-append_seam other rest, drop-append_seam prefix back, drop-append_seam other rest)

-- The code of a kind is 2 or 6.
pub kind_code-is : (k : FrameKind) → (c : ℕ) × (c < 2) × (kind_code k ≡ 4 * c + 2)
kind_code-is Stx = (0, omega arith, refl)
kind_code-is Ack = (1, omega arith, refl)

pub address_type-lt : (a : Address) → address_type a < 2
address_type-lt a = grind arith

-- The address type determines the number of address bytes.
pub length-address : (m : MasterId) (b : Bool) (a : Address) (bytes : List ℕ) → IsAddressBytes m b a bytes
    → length bytes ≡ 1 + 4 * address_type a
length-address m b a bytes is = grind arith

-- A body and what follows it are these parts, one after another.
pub spread : (f : FrameParts) (body rest : List ℕ) (is : IsBody f body)
    → body ++ rest
    ≡ delimiter_of f ∷ (is.checked_part.address ++ (f.expansion ++ (f.command ∷ length f.payload ∷ (f.payload ++ (is.check ∷ rest)))))
spread f body rest is = rw (is.parts, is.checked_part.parts) (simp append_assoc)

-- If a body and a rest are the same list as another body and its rest, then the frames, the bodies and the rests are equal.
same_bodies : (f g : FrameParts) (body other rest more : List ℕ) → IsBody f body → IsBody g other → body ++ rest ≡ other ++ more
    → (f ≡ g) × (body ≡ other) × (rest ≡ more)
same_bodies f g body other rest more p q whole = grind (arith, spread f body rest p, spread g other more q, same_parts)

pub bodies_are_unambiguous-one_frame : (f g : FrameParts) (bytes : List ℕ) → IsBody f bytes → IsBody g bytes → f ≡ g
bodies_are_unambiguous-one_frame f g bytes p q = (same_bodies f g bytes bytes [] [] p q refl).0

pub bodies_are_unambiguous-no_proper_prefix : (f g : FrameParts) (bytes rest : List ℕ)
    → IsBody f bytes → IsBody g (bytes ++ rest) → rest ≡ []
bodies_are_unambiguous-no_proper_prefix f g bytes rest p q = grind (arith, append-nil, same_bodies f g bytes (bytes ++ rest) rest [])

pub bodies_are_unambiguous-one_prefix : (f g : FrameParts) (bytes : List ℕ) (m n : ℕ)
    → BeginsWithBody bytes f m → BeginsWithBody bytes g n → (f ≡ g) × (m ≡ n)
bodies_are_unambiguous-one_prefix f g bytes m n p q =
    let same = same_bodies f g (take m bytes) (take n bytes) (drop m bytes) (drop n bytes) in
    grind (arith, same, take-append-drop, length-take-le m bytes, length-take-le n bytes)

-- The check byte of a body is the exclusive or of the bytes before it.
check_is : (f : FrameParts) (body : List ℕ) (is : IsBody f body) → is.check ≡ fold bit_xor 0 is.checked
check_is f body is =
    let fits = fits_at (is.checked ++ is.check ∷ []) (rw is.parts at is.bytes_fit) in
    grind (arith, even-is, fits, fits (length is.checked), get_or_append_left, get_or_past, get_or_at)

pub bodies_are_unambiguous-one_body : (f : FrameParts) (bytes others : List ℕ) → IsBody f bytes → IsBody f others → bytes ≡ others
bodies_are_unambiguous-one_body f bytes others p q =
    grind (arith, check_is f bytes p, check_is f others q, address_bytes_are_unambiguous-one_list f.master f.burst f.address)

-- A list that consists of a body and a rest begins with that body.
pub BeginsWithBody-append : (f : FrameParts) (body rest : List ℕ) → IsBody f body → BeginsWithBody (body ++ rest) f (length body)
BeginsWithBody-append f body rest is = grind (arith, length-append, take_at)
