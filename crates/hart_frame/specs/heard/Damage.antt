-- Damage to a message that a receiver can detect (HCF_SPEC-081; implementation choice).
use Rattle.std.specs.Prelude.{◌≡◌, ◌≢◌, ◌<◌, ◌≤◌, ◌+◌, ◌⊎◌, ℕ, List, [], ◌∷◌, ◌++◌, length, drop, replicate}
use Rattle.std.specs.List.{All, AllZip}
use Rattle.hart_frame.specs.wire.Body.{IsBody}
use Rattle.hart_frame.specs.heard.Character.{AreFaultBits, Character, faultless}
use Rattle.hart_frame.specs.wire.FrameParts.{FrameParts, request_parts}
use Rattle.hart_frame.specs.wire.Layout.{byte_count_in, delimiter_in}
use Rattle.hart_frame.specs.wire.Parity.{HasEvenParity}
use Rattle.hart_values.specs.declared.master_id.MasterId.TheVariants.{Primary}
use Rattle.hart_values.specs.declared.address.Address.TheVariants.{Polling}

-- A list of characters has no two faultless preamble bytes FF in a row.
abbrev pub HasNoTwoPreambles : List Character → Type 0
HasNoTwoPreambles chars = (prefix rest : List Character) → chars ≡ prefix ++ faultless (255 ∷ 255 ∷ []) ++ rest → ⊥

-- A character is marked if it has a fault bit. Its byte may have any value.
pub record IsMarked (character : Character) : Type 0 where
  pub byte : character.byte < 256
  pub fault_bits : AreFaultBits character.faults
  pub some : character.faults ≢ 0

-- A byte that was sent is heard either unchanged and without faults, or as any marked character.
abbrev pub IsHeardOrMarked : ℕ → Character → Type 0
IsHeardOrMarked byte character = (character ≡ record { byte = byte; faults = 0 }) ⊎ IsMarked character

-- Damage to a message of `preambles` preamble bytes and a body. The last `left` preamble bytes are heard, and the earlier preamble bytes
-- are missing. `AreHeard` says how these `left` bytes and the body are heard. After the delimiter, no two faultless FF in a row are heard,
-- because another frame could begin there.
pub record IsDamage (frame : FrameParts) (preambles : ℕ) (chars : List Character) (AreHeard : ℕ → List ℕ → Type 0) : Type 0 where
  pub left : ℕ
  pub left_within : left ≤ preambles
  pub body : List ℕ
  pub is_body : IsBody frame body
  pub heard : AreHeard left body
  pub no_two_preambles : HasNoTwoPreambles (drop (left + 1) chars)

-- Marked damage: the last `left` preamble bytes and the body are heard, each byte either unchanged and without faults, or as any marked
-- character.
abbrev pub IsMarkedDamage : FrameParts → ℕ → List Character → Type 0
IsMarkedDamage frame preambles chars =
    IsDamage frame preambles chars (λ left body. AllZip IsHeardOrMarked (replicate left 255 ++ body) chars)

-- Bytes can replace a body if they have the length, the delimiter and the byte count of the body. The other bytes may have any value.
pub record Replaces (bytes body : List ℕ) : Type 0 where
  pub same_length : length bytes ≡ length body
  pub same_delimiter : delimiter_in bytes ≡ delimiter_in body
  pub same_byte_count : byte_count_in bytes ≡ byte_count_in body
  pub bytes_fit : All (λ byte. byte < 256) bytes

-- Check damage: other bytes are heard in place of the body, and every character is heard without faults. These bytes can replace the body.
-- Their parity is not even, so their exclusive or is not zero.
abbrev pub IsCheckDamage : FrameParts → ℕ → List Character → Type 0
IsCheckDamage frame preambles chars = IsDamage frame preambles chars (λ left body. (bytes : List ℕ) × Replaces bytes body
    × (chars ≡ faultless (replicate left 255 ++ bytes)) × (HasEvenParity bytes → ⊥))

-- Examples: a request as it is heard with marked damage, with check damage, and with damage of neither kind.
-- The primary master sends Command 0 to polling address 0: after the preamble come 02 80 00 00 82.
abbrev pub identity_request : FrameParts
identity_request = request_parts Primary (Polling 0) 0 []

-- FF FF 02 81 00 00 82: two preamble bytes are heard, and the address byte is heard as 81 with a vertical parity fault.
abbrev pub faulty_address : List Character
faulty_address = faultless (255 ∷ 255 ∷ 2 ∷ []) ++ record { byte = 129; faults = 64 } ∷ faultless (0 ∷ 0 ∷ 130 ∷ [])

-- FF FF 02 81 00 00 82: the bytes of `faulty_address`, all heard without faults. The parity is not even.
abbrev pub other_address : List Character
other_address = faultless (255 ∷ 255 ∷ 2 ∷ 129 ∷ 0 ∷ 0 ∷ 130 ∷ [])

-- FF FF 02 81 00 00 83: like `other_address`, but with a check byte that fits. So this is the message of another request.
abbrev pub other_request : List Character
other_request = faultless (255 ∷ 255 ∷ 2 ∷ 129 ∷ 0 ∷ 0 ∷ 131 ∷ [])

-- FF FF 02 FF FF 00 82: the parity is not even. Yet this is neither marked damage nor check damage, because two FF in a row are heard after
-- the delimiter.
abbrev pub preamble_in_body : List Character
preamble_in_body = faultless (255 ∷ 255 ∷ 2 ∷ 255 ∷ 255 ∷ 0 ∷ 130 ∷ [])
