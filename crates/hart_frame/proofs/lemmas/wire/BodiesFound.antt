-- Each list of bytes begins with a body, or begins with no body.
use Rattle.hart_frame.proofs.Common.{◌≡◌, ℕ, fold, bit_xor, ◌+◌, ◌-◌, ◌*◌, ◌/◌, ◌%◌, ◌<◌, ◌≤◌, ◌⊎◌, inl, inr, Bool, List, [], ◌∷◌, length}
use Rattle.hart_frame.proofs.Common.{take, get_or, ltb, ◌∙◌, arith, nat_tests, get_or-take, length-take-le, take-take, All, slice_range}
use Rattle.hart_frame.proofs.Common.{IsAddressBytes, Address, MasterId, Layout, IsCheckedPart, BeginsWithBody, kind_code, FrameParts}
use Rattle.hart_frame.proofs.Common.{delimiter_in, command_place, body_length, HasEvenParity, HasCheckByte, get_or_after_one, All-get_or}
use Rattle.hart_frame.proofs.Common.{prefix_len, first_byte, FrameKind, address_end, byte_count_in}
use Rattle.std.proofs.lemmas.List.Sums.{prefix_len_passes, prefix_len_stops}
use Rattle.hart_values.specs.declared.address.Address.TheVariants.{Polling, Unique}
use Rattle.hart_frame.specs.wire.Body.{HasNoBody}
use Rattle.hart_frame.specs.wire.FrameParts.{IsLongEnough}
use Rattle.hart_frame.proofs.lemmas.wire.Body.{IsBody-whole, IsCheckedPart-in, length-slice_range}
use Rattle.hart_frame.proofs.lemmas.wire.Parity.{IsCheckByte-fold, check-even, even-check, fits_at}
use Rattle.hart_frame.proofs.lemmas.wire.Refusal.{has_check, says}

-- The first `n` bytes of a list are below 256.
abbrev pub Fit : List ℕ → ℕ → Type 0
Fit bytes n = (k : ℕ) → k < n → get_or bytes k 0 < 256

-- Each byte is the first byte of an address, with some master, some burst bit and its six low bits.
first_byte_read : (byte : ℕ) → byte < 256 → (master : MasterId) × (burst : Bool) × (byte ≡ first_byte master burst (byte % 64))
first_byte_read byte below =
    let bits : (byte / 64 ≡ 0) ⊎ (byte / 64 ≡ 1) ⊎ (byte / 64 ≡ 2) ⊎ (byte / 64 ≡ 3) = grind arith in grind arith

-- Bytes are the address bytes of some master, burst bit and address.
abbrev HeldAddress : List ℕ → Type 0
HeldAddress bytes = (master : MasterId) × (burst : Bool) × (address : Address) × IsAddressBytes master burst address bytes

held_address : (bytes : List ℕ) (form : ℕ) → Fit bytes (length bytes) → form < 2 → length bytes ≡ 1 + 4 * form → HeldAddress bytes
held_address (a ∷ []) form fit either long =
    let (master, burst, is) = first_byte_read a (fit 0 (omega arith)) in (master, burst, Polling (a % 64), grind arith)
held_address (a ∷ b ∷ c ∷ d ∷ e ∷ []) _ fit _ _ =
    let (master, burst, is) = first_byte_read a (fit 0 (omega arith)) in
    let address = Unique (record { expanded_type = 256 * (a % 64) + b; device_id = 65536 * c + 256 * d + e }) in
    (master, burst, address, grind (arith, fit 1, fit 2, fit 3, fit 4))
held_address bytes form fit either long = absurd (omega (arith, either, long))

-- A payload is long enough for its kind of frame if its byte count says its length, which for a reply is at least 2.
pub long_enough : (kind : FrameKind) (payload : List ℕ) (byte count : ℕ) → kind_code kind ≡ byte % 8 → length payload ≡ count
    → (byte % 8 ≡ 2) ⊎ (2 ≤ count) → IsLongEnough kind payload
long_enough kind payload byte count is long good = grind arith

-- The bytes before the check byte are the checked part of a frame.
pub record HeldFrame (bytes : List ℕ) : Type 0 where
  pub frame : FrameParts
  pub part : IsCheckedPart frame (take (body_length bytes - 1) bytes)

pub held_frame : (bytes : List ℕ) → Fit bytes (body_length bytes) → HasCheckByte bytes → HeldFrame bytes
held_frame bytes fits whole =
    let code : (kind : FrameKind) × (kind_code kind ≡ delimiter_in bytes % 8) = grind arith in
    let i = address_end bytes in
    let j = command_place bytes in
    let n = byte_count_in bytes in
    let long = length-slice_range bytes 1 i (omega arith) (omega (arith, whole.0.0.1)) in
    let (master, burst, address, is) = held_address (slice_range bytes 1 i) (delimiter_in bytes / 128)
    (λ k below. grind (arith, get_or-take, get_or_after_one bytes k 0)) (omega arith) (long ∙ omega arith) in
    let layout : Layout = record { kind = code.0; address_end = i; command_place = j; byte_count = n } in
    let frame : FrameParts = record {
      kind = code.0;
      master = master;
      burst = burst;
      address = address;
      expansion = slice_range bytes i j;
      command = get_or bytes j 0;
      payload = slice_range bytes (j + 2) (j + 2 + n);
    } in
    record { frame = frame; part = grind (arith, long_enough, length-slice_range bytes (j + 2), IsCheckedPart-in bytes layout frame) }

-- Bytes begin with the body of some frame.
abbrev pub BodyAhead : List ℕ → Type 0
BodyAhead bytes = (frame : FrameParts) × (len : ℕ) × BeginsWithBody bytes frame len

-- Bytes that reach their check byte and have even parity up to it begin with a body.
whole_body : (bytes : List ℕ) → HasCheckByte bytes → All (λ byte. byte < 256) (take (body_length bytes) bytes)
    → HasEvenParity (take (body_length bytes) bytes) → BodyAhead bytes
whole_body bytes whole fit even = grind (arith, held_frame bytes, All-get_or, get_or-take, length-take-le, IsBody-whole, take-take)

-- All bytes are below 256, or not all of them are.
fit_decided : (bytes : List ℕ) → All (λ byte. byte < 256) bytes ⊎ (All (λ byte. byte < 256) bytes → ⊥)
fit_decided bytes =
    let run = prefix_len (λ byte. ltb byte 256) bytes in
    let cases : (run < length bytes) ⊎ (length bytes ≤ run) = grind arith in
    grind (arith, nat_tests, prefix_len_passes (λ byte. ltb byte 256) bytes, prefix_len_stops (λ byte. ltb byte 256) bytes 0)

-- Bytes begin with a body, or they begin with no body.
pub body_decided : (bytes : List ℕ) → BodyAhead bytes ⊎ HasNoBody bytes
body_decided bytes =
    let prefix = take (body_length bytes) bytes in
    let check = fold bit_xor 0 prefix in
    let is = IsCheckByte-fold prefix check in
    let cases : BodyAhead bytes ⊎ (HasCheckByte bytes → All (λ byte. byte < 256) prefix → HasEvenParity prefix → ⊥) =
    grind (arith, fit_decided prefix, fits_at prefix, even-check prefix, check-even prefix check, whole_body bytes) in
    elim cases [
      | inl ahead ↦ inl ahead
      | inr none ↦ inr (λ f len begins. grind (arith, says bytes f len begins, has_check bytes f len begins))
    ]
