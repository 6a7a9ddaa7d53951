-- The header of a frame, and the header at the front of bytes (HCF_SPEC-081).
use Rattle.std.specs.Prelude.{◌+◌, ◌*◌, ◌/◌, ◌%◌, ◌==◌, ◌&&◌, nat_lt, if◌then◌else◌, ℕ, List, Option, None, Some, length, slice_index}
use Rattle.hart_values.specs.declared.address.Address.{Address}
use Rattle.hart_values.specs.declared.address.Address.TheVariants.{Polling, Unique}
use Rattle.hart_values.specs.declared.master_id.MasterId.{MasterId}
use Rattle.hart_values.specs.declared.master_id.MasterId.TheVariants.{Primary, Secondary}
use Rattle.hart_frame.specs.declared.wire.kind.FrameKind.{FrameKind}
use Rattle.hart_frame.specs.declared.wire.kind.FrameKind.TheVariants.{Stx, Ack}
use Rattle.hart_frame.specs.wire.View.{address_of}
use Rattle.hart_frame.specs.declared.wire.header.Header.{Header}
use Rattle.hart_frame.specs.wire.Delimiter.{is_delimiter}
use Rattle.hart_frame.specs.wire.FrameParts.{FrameParts}
use Rattle.hart_frame.specs.wire.Layout.{command_place, delimiter_in}

-- The header of a frame: its kind, master, address and command.
pub record HeaderParts : Type 0 where
  pub kind : FrameKind
  pub master : MasterId
  pub address : Address
  pub command : ℕ

-- The header of a frame.
abbrev pub header_of : FrameParts → HeaderParts
header_of frame = record { kind = frame.kind; master = frame.master; address = frame.address; command = frame.command }

-- The kind of a frame is ACK if bits 2 to 0 of its delimiter are 6, and STX otherwise.
abbrev pub kind_in : List ℕ → FrameKind
kind_in bytes = if delimiter_in bytes % 8 == 6 then Ack else Stx

-- The top bit of the first address byte is 1 for the primary master and 0 for the secondary.
abbrev pub master_in : List ℕ → MasterId
master_in bytes = if slice_index bytes 1 / 128 == 1 then Primary else Secondary

-- A polling address is the lower six bits of its byte. A unique address has five bytes. The lower six bits of the first byte and the second
-- byte are the expanded device type, and the other three bytes are the device id. Bit 7 of the delimiter says which kind of address it is.
abbrev pub address_in : List ℕ → Address
address_in bytes =
    if delimiter_in bytes / 128 == 1
    then Unique (record {
      expanded_type = 256 * (slice_index bytes 1 % 64) + slice_index bytes 2;
      device_id = 65536 * slice_index bytes 3 + 256 * slice_index bytes 4 + slice_index bytes 5;
    })
    else Polling (slice_index bytes 1 % 64)

-- The header at the front of bytes. Bytes have a header exactly if they begin with an STX or ACK delimiter and reach the command.
unfoldable pub header_in : List ℕ → Option HeaderParts
header_in bytes =
    if is_delimiter (delimiter_in bytes) && nat_lt (command_place bytes) (length bytes)
    then Some (record {
      kind = kind_in bytes;
      master = master_in bytes;
      address = address_in bytes;
      command = slice_index bytes (command_place bytes);
    })
    else None

-- The header parts of a value of the code's type `Header`.
abbrev pub header_parts : Header → HeaderParts
header_parts header = record {
  kind = header.kind;
  master = header.master;
  address = address_of header.address;
  command = header.command;
}
