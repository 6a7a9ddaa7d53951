-- What a view of a frame says, and its address, as plain numbers (HCF_SPEC-081; implementation choice).
use Rattle.hart_values.specs.declared.address.Address.{Address}
use Rattle.hart_values.specs.declared.address.Address.TheVariants.{Polling as PollingAddress, Unique as UniqueAddress}
use Rattle.hart_frame.specs.declared.wire.plain_address.PlainAddress.{PlainAddress}
use Rattle.hart_frame.specs.declared.wire.plain_address.PlainAddress.TheVariants.{Polling, Unique}
use Rattle.hart_frame.specs.wire.FrameParts.{FrameParts}
use Rattle.hart_frame.specs.declared.wire.view.FrameView.{FrameView}
use Rattle.hart_frame.specs.declared.heard.found.Found.{Found}
use Rattle.hart_frame.specs.declared.scan.view.FoundView.{FoundView}

-- The address that has these numbers.
abbrev pub address_of : PlainAddress → Address
address_of (Polling number) = PollingAddress number
address_of (Unique expanded_type device_id) =
    UniqueAddress (record { expanded_type = expanded_type; device_id = device_id })

-- The parts of the frame that a view shows.
abbrev pub parts_of : FrameView → FrameParts
parts_of view = record {
  kind = view.kind;
  master = view.master;
  burst = view.burst;
  address = address_of view.address;
  expansion = view.expansion.now;
  command = view.command;
  payload = view.payload.now;
}

-- The frame of a view, and where it stands in what was heard.
abbrev pub found_of : FoundView → Found
found_of view = record { start = view.start; stop = view.stop; frame = parts_of view.frame }
