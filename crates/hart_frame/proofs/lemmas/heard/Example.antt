-- The request that serves as the example of damage.
use Rattle.hart_frame.proofs.Common.{◌⊎◌, ◌≡◌, ℕ, ◌<◌, inl, List, [], ◌∷◌, ◌++◌, length, drop, replicate, refl, ap, arith, length-append}
use Rattle.hart_frame.proofs.Common.{drop_at, length-replicate, bit_at, Character, faultless, IsBody, AllZip-long}
use Rattle.std.proofs.lemmas.List.Elements.{All-from_recursion}
use Rattle.std.specs.List.{AllByRecursion}
use Rattle.hart_frame.specs.heard.Character.{IsFaultBit}
use Rattle.hart_frame.specs.heard.Damage.{HasNoTwoPreambles, IsCheckDamage, IsMarkedDamage}
use Rattle.hart_frame.specs.heard.Damage.{faulty_address, identity_request, other_address, other_request, preamble_in_body}
use Rattle.hart_frame.proofs.lemmas.heard.Front.{faultless-one}
use Rattle.hart_frame.proofs.lemmas.heard.Place.{preamble}
use Rattle.hart_frame.proofs.lemmas.wire.Body.{IsBody-push}
use Rattle.hart_frame.proofs.lemmas.wire.UnambiguousBodies.{bodies_are_unambiguous-one_body}
use Rattle.hart_frame.proofs.lemmas.wire.Parity.{IsCheckByte-fold, even-check, fits_at}

-- The body that is sent.
abbrev request_body : List ℕ
request_body = 2 ∷ 128 ∷ 0 ∷ 0 ∷ 130 ∷ []

abbrev IsByte : ℕ → Type 0
IsByte byte = byte < 256

request_is : IsBody identity_request request_body
request_is =
    let checked : List ℕ = 2 ∷ 128 ∷ 0 ∷ 0 ∷ [] in
    let fits = All-from_recursion IsByte checked (grind arith) in
    IsBody-push identity_request checked 130
    (record { address = 128 ∷ []; address_bytes = (omega arith, refl); parts = refl; expansion_fits = omega arith; payload_fits = tt })
    fits (IsCheckByte-fold checked 130 (fits_at checked fits) refl)

-- A character whose byte is below FF; a list of such characters has no two FF in a row.
abbrev IsOther : Character → Type 0
IsOther character = character.byte < 255

none_in_row : (chars : List Character) → AllByRecursion IsOther chars → HasNoTwoPreambles chars
none_in_row chars others [] rest same = grind (arith, preamble)
none_in_row [] others (character ∷ prefix) rest same = cc
none_in_row (character ∷ chars) others (other ∷ prefix) rest same = none_in_row chars others.1 prefix rest (ap (drop 1) same)

-- The only bit set in 64 is a fault bit, that of vertical parity.
parity_bit : (bit : ℕ) → bit < 8 → bit_at 64 bit ≡ 1 → IsFaultBit bit
parity_bit bit below set =
    let cases : (bit ≡ 0) ⊎ (bit ≡ 1) ⊎ (bit ≡ 2) ⊎ (bit ≡ 3) ⊎ (bit ≡ 4) ⊎ (bit ≡ 5) ⊎ (bit ≡ 6) ⊎ (bit ≡ 7) = grind arith in
    grind arith

pub faulty_is_marked : IsMarkedDamage identity_request 5 faulty_address
faulty_is_marked = record {
  left = 2;
  left_within = omega arith;
  body = request_body;
  is_body = request_is;
  heard = (inl refl, (inl refl, (inl refl, (grind (arith, parity_bit), (inl refl, (inl refl, (inl refl, tt)))))));
  no_two_preambles = none_in_row _ (grind arith);
}

-- The bytes of the body with another address and with this check byte.
abbrev other_bytes : ℕ → List ℕ
other_bytes check = 2 ∷ 129 ∷ 0 ∷ 0 ∷ check ∷ []

pub other_is_check : IsCheckDamage identity_request 5 other_address
other_is_check = record {
  left = 2;
  left_within = omega arith;
  body = request_body;
  is_body = request_is;
  heard =
      (other_bytes 130, grind arith, refl, λ even. omega (arith, even.even 0 (omega arith)));
  no_two_preambles = none_in_row _ (grind arith);
}

pub other_is_not_marked : IsMarkedDamage identity_request 5 other_address → ⊥
other_is_not_marked damage = grind (arith, AllZip-long, length-append, length-replicate)

-- If 7 bytes are heard, two preamble bytes are left, and then come the bytes that replace the body.
after_two : (row : List ℕ) → length row ≡ 7 → (damage : IsCheckDamage identity_request 5 (faultless row))
    → (damage.left ≡ 2) × (drop 2 row ≡ damage.heard.0)
after_two row seven damage =
    let (bytes, replaces, all, odd) = damage.heard in
    let prefix : List ℕ = replicate damage.left 255 in
    let same : row ≡ prefix ++ bytes = faultless-one row (prefix ++ bytes) all in
    grind (arith, bodies_are_unambiguous-one_body, length-replicate, request_is, length-append, drop_at)

pub request_is_not_check : IsCheckDamage identity_request 5 other_request → ⊥
request_is_not_check damage =
    let fits = fits_at (other_bytes 131) (All-from_recursion IsByte (other_bytes 131) (grind arith)) in
    let check = IsCheckByte-fold (other_bytes 131) 0 fits refl in
    grind (arith, after_two (255 ∷ 255 ∷ other_bytes 131) refl damage, even-check (other_bytes 131) check)

pub preamble_is_not_check : IsCheckDamage identity_request 5 preamble_in_body → ⊥
preamble_is_not_check damage =
    let row : List ℕ = 255 ∷ 255 ∷ 2 ∷ 255 ∷ 255 ∷ 0 ∷ 130 ∷ [] in
    let two = (after_two row refl damage).0 in
    damage.no_two_preambles [] (faultless (0 ∷ 130 ∷ [])) (rw two refl)
