-- Requests that a device heard with faults, and its replies to them (HCF_SPEC-081, HCF_SPEC-099). Implementation choice: which of these
-- requests a device answers.
use Rattle.std.specs.Prelude.{◌≡◌, ◌+◌, ◌%◌, ◌==◌, ℕ, Bool, false, List, [], ◌∷◌, ◌++◌, length, map, drop}
use Rattle.std.specs.Int.{bit_at}
use Rattle.std.specs.List.{list_any}
use Rattle.hart_values.specs.address.AddressBytes.{IsAddressBytes}
use Rattle.hart_values.specs.declared.address.Address.TheVariants.{Unique}
use Rattle.hart_values.specs.declared.master_id.MasterId.{MasterId}
use Rattle.hart_frame.specs.heard.Character.{Character, faultless}
use Rattle.hart_frame.specs.wire.FrameParts.{FrameParts}
use Rattle.hart_frame.specs.heard.Place.{IsFirstStart}
use Rattle.hart_frame.specs.wire.Parity.{bit_count}
use Rattle.hart_frame.specs.declared.wire.kind.FrameKind.TheVariants.{Ack}
use Rattle.hart_device.specs.declared.answer.garbled.GarbledRequest.{GarbledRequest}
use Rattle.hart_device.specs.declared.identity_parts.IdentityParts.{IdentityParts}
use Rattle.hart_device.specs.Identity.{own_numbers}
use Rattle.hart_device.specs.Bits.{bit_if}

-- Whether any of the characters has this fault bit.
abbrev pub has_fault : ℕ → List Character → Bool
has_fault bit chars = list_any (λ character. bit_at character.faults bit == 1) chars

-- Whether this bit is set in an odd number of the characters' bytes.
abbrev pub is_odd : List Character → ℕ → Bool
is_odd chars bit = bit_count bit (map (λ character. character.byte) chars) % 2 == 1

-- Whether the exclusive or of the bytes is not zero: at least one of the eight bits is set in an odd number of the bytes.
abbrev pub has_odd_bit : List Character → Bool
has_odd_bit chars = list_any (is_odd chars) (0 ∷ 1 ∷ 2 ∷ 3 ∷ 4 ∷ 5 ∷ 6 ∷ 7 ∷ [])

-- The communication faults of characters. The bits hex 40 (vertical parity), 20 (overrun), 10 (framing) and 02 (buffer overflow) are each
-- set if at least one character has this fault bit. The bit 08 (longitudinal parity) is set if the exclusive or of the bytes is not zero.
abbrev pub communication_faults : List Character → ℕ
communication_faults chars =
    bit_if (has_fault 6 chars) 0x40
    + bit_if (has_fault 5 chars) 0x20
    + bit_if (has_fault 4 chars) 0x10
    + bit_if (has_odd_bit chars) 0x08
    + bit_if (has_fault 1 chars) 0x02

-- Characters are the head of a garbled request if they have no faults, and are the delimiter hex 82 of a request to a unique address and
-- then the device's own address. This address names the master that asks, and has a burst bit of either value.
pub record IsAsking (identity : IdentityParts) (head : List Character) (master : MasterId) : Type 0 where
  pub burst : Bool
  pub address : List ℕ
  pub own : IsAddressBytes master burst (Unique (own_numbers identity)) address
  pub head_is : head ≡ faultless (0x82 ∷ address)

-- Characters begin with a garbled request if they begin with a head, a command, a byte count, the number of payload characters that the
-- byte count gives, and a check byte. Each character after the head may have any faults. The request has the command as it was heard, and
-- the communication faults of all its characters, from the delimiter to the check byte. A request without any fault has this form too. But
-- a delivery with such a request has a frame, and so brings no garbled request.
pub record BeginsWithGarbled (identity : IdentityParts) (chars : List Character) (request : GarbledRequest) : Type 0 where
  pub head : List Character
  pub command : Character
  pub byte_count : Character
  pub after : List Character
  pub rest : List Character
  pub asking : IsAsking identity head request.master
  pub parts : chars ≡ head ++ command ∷ byte_count ∷ after ++ rest
  pub long : length after ≡ byte_count.byte + 1
  pub command_is : request.command ≡ command.byte
  pub faults_are : request.faults ≡ communication_faults (head ++ command ∷ byte_count ∷ after)

-- A list of characters has a garbled request if a garbled request begins at the first place where a body may start. No later place is
-- looked at.
pub record HasGarbled (identity : IdentityParts) (chars : List Character) (request : GarbledRequest) : Type 0 where
  pub start : ℕ
  pub first_start : IsFirstStart start chars
  pub begins : BeginsWithGarbled identity (drop start chars) request

-- The communication-fault reply to a garbled request: an ACK to the master that asks, with the device's own address and the command that
-- was heard. Its payload has two bytes: the communication faults with the bit hex 80, and then 00.
abbrev pub garbled_reply : IdentityParts → GarbledRequest → FrameParts
garbled_reply identity request = record {
  kind = Ack;
  master = request.master;
  burst = false;
  address = Unique (own_numbers identity);
  expansion = [];
  command = request.command;
  payload = (0x80 + request.faults) ∷ 0 ∷ [];
}
