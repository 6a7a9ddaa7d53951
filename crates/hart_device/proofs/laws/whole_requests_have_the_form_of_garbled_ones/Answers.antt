use Rattle.std.proofs.Common.{◌≡◌, ℕ, ◌<◌, false, List, [], ◌∷◌, ◌++◌, length, refl, arith, ap, sym, ◌∙◌, append_assoc, append-nil}
use Rattle.std.proofs.lemmas.Bool.Decides.{nat_tests}
use Rattle.std.proofs.lemmas.Grind.{common_steps}
use Rattle.std.proofs.lemmas.List.{length-map, length-append, map-append}
use Rattle.std.proofs.lemmas.Nat.Bits.{bit_at-zero}
use Rattle.hart_frame.specs.heard.Character.{faultless}
use Rattle.hart_frame.specs.wire.Parity.{HasEvenParity}
use Rattle.hart_device.specs.answer.Garbled.{communication_faults, has_fault, is_odd}
use Rattle.hart_device.proofs.lemmas.answer.Garbled.{bytes_of}
use Rattle.hart_device.proofs.laws.whole_requests_have_the_form_of_garbled_ones.Goals as goal

-- bytes without faults have no fault bit
no_fault : (bit : ℕ) (bytes : List ℕ) → has_fault bit (faultless bytes) ≡ false
no_fault bit [] = refl
no_fault bit (byte ∷ bytes) = grind (arith, nat_tests, bit_at-zero, no_fault bit bytes)

-- faultless characters have the bytes that they were made of
bytes_of_faultless : (bytes : List ℕ) → bytes_of (faultless bytes) ≡ bytes
bytes_of_faultless [] = refl
bytes_of_faultless (byte ∷ bytes) = ap (λ bs. byte ∷ bs) (bytes_of_faultless bytes)

-- each bit is set in an even number of the characters of a whole body
none_odd : (bit : ℕ) (bytes : List ℕ) → bit < 8 → HasEvenParity bytes → is_odd (faultless bytes) bit ≡ false
none_odd bit bytes small parity = grind (arith, nat_tests, bytes_of_faultless bytes, parity.even bit small)

-- a whole body has no communication faults
no_communication_faults : (bytes : List ℕ) → HasEvenParity bytes → communication_faults (faultless bytes) ≡ 0
no_communication_faults bytes parity = simp (no_fault, none_odd, arith)

-- a request has the form of a garbled one, byte by byte
pub returns : goal.returns
returns c identity master command payload body is =
    let address = is.checked_part.address in
    let five = is.checked_part.address_bytes.five in
    let whole : faultless body ≡ faultless (0x82 ∷ address)
    ++ record { byte = command; faults = 0 } ∷ record { byte = length payload; faults = 0 } ∷ faultless (payload ++ is.check ∷ []) =
    rw (is.parts, is.checked_part.parts) (grind (arith, common_steps, map-append, append_assoc)) in
    record {
      head = faultless (0x82 ∷ address);
      command = record { byte = command; faults = 0 };
      byte_count = record { byte = length payload; faults = 0 };
      after = faultless (payload ++ is.check ∷ []);
      rest = [];
      asking = record { burst = false; address = address; own = is.checked_part.address_bytes; head_is = refl };
      parts = rw (whole, append-nil) refl;
      long = simp (length-map, length-append);
      command_is = refl;
      faults_are = sym (no_communication_faults body is.parity) ∙ ap communication_faults whole;
    }
