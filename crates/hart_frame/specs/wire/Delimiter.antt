-- The first byte of a body (HCF_SPEC-081).
use Rattle.std.specs.Prelude.{ℕ, ◌+◌, ◌*◌, ◌/◌, ◌%◌, ◌==◌, ◌&&◌, ◌||◌, Bool, IsTrue, length}
use Rattle.hart_values.specs.declared.address.Address.{Address}
use Rattle.hart_values.specs.declared.address.Address.TheVariants.{Polling, Unique}
use Rattle.hart_frame.specs.declared.wire.kind.FrameKind.{FrameKind}
use Rattle.hart_frame.specs.declared.wire.kind.FrameKind.TheVariants.{Stx, Ack}
use Rattle.hart_frame.specs.wire.FrameParts.{FrameParts}

-- The number of the kind of frame is 2 for STX and 6 for ACK.
abbrev pub kind_code : FrameKind → ℕ
kind_code Stx = 2
kind_code Ack = 6

-- The address type is 1 for the five bytes of a unique address, and 0 for the one byte of a polling address.
abbrev pub address_type : Address → ℕ
address_type (Polling number) = 0
address_type (Unique numbers) = 1

-- Bit 7 of a delimiter is the address type, and bits 6 and 5 are the number of expansion bytes. Bits 4 and 3 are the physical layer, which
-- is always 0. Bits 2 to 0 are the kind of frame.
abbrev pub delimiter_of : FrameParts → ℕ
delimiter_of frame = 128 * address_type frame.address + 32 * length frame.expansion + kind_code frame.kind

-- Whether a byte is the delimiter of an STX or an ACK: bits 4 and 3 are zero, and bits 2 to 0 are the kind.
abbrev pub is_delimiter : ℕ → Bool
is_delimiter byte = (byte / 8 % 4 == 0) && ((byte % 8 == 2) || (byte % 8 == 6))

-- A byte is the delimiter of an STX or an ACK.
abbrev pub IsDelimiter : ℕ → Type 0
IsDelimiter byte = IsTrue (is_delimiter byte)

-- Whether a byte is the delimiter of a burst message: bits 4 and 3 are zero, and bits 2 to 0 are 1.
abbrev pub is_burst_delimiter : ℕ → Bool
is_burst_delimiter byte = (byte / 8 % 4 == 0) && (byte % 8 == 1)

-- A byte is the delimiter of a burst message.
abbrev pub IsBurstDelimiter : ℕ → Type 0
IsBurstDelimiter byte = IsTrue (is_burst_delimiter byte)
