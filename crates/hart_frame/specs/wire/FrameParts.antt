-- A frame, as contracts describe it (HCF_SPEC-081).
use Rattle.std.specs.Prelude.{ℕ, ◌≤◌, Bool, false, List, [], length}
use Rattle.hart_values.specs.declared.master_id.MasterId.{MasterId}
use Rattle.hart_values.specs.declared.address.Address.{Address}
use Rattle.hart_frame.specs.declared.wire.kind.FrameKind.{FrameKind}
use Rattle.hart_frame.specs.declared.wire.kind.FrameKind.TheVariants.{Stx, Ack}

-- The parts of a frame, whatever bytes carry them.
pub record FrameParts : Type 0 where
  pub kind : FrameKind
  pub master : MasterId
  pub burst : Bool
  pub address : Address
  pub expansion : List ℕ
  pub command : ℕ
  pub payload : List ℕ

-- Implementation choice: an ACK's payload has at least its two status bytes, and an STX's payload may have any length.
abbrev pub IsLongEnough : FrameKind → List ℕ → Type 0
IsLongEnough Stx payload = Unit {0}
IsLongEnough Ack payload = 2 ≤ length payload

-- A request is an STX from a master to an address, with the burst bit clear and no expansion bytes.
abbrev pub request_parts : MasterId → Address → ℕ → List ℕ → FrameParts
request_parts master address command payload = record {
  kind = Stx;
  master = master;
  burst = false;
  address = address;
  expansion = [];
  command = command;
  payload = payload;
}

-- A reply to a frame is an ACK with the frame's master bit, address and command, with the burst bit clear and no expansion bytes.
abbrev pub reply_parts : FrameParts → List ℕ → FrameParts
reply_parts frame payload = record (request_parts frame.master frame.address frame.command payload) { kind = Ack }
