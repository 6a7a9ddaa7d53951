-- The header of a message, in words and as members of an object of JSON (implementation choice).
use Rattle.std.specs.Prelude.{◌/◌, ◌%◌, if◌then◌else◌, ◌++◌, [], ◌∷◌, ℕ, List, Option, codes, decimal}
use Rattle.hex.specs.Hex.{encode_upper}
use Rattle.serde_json.specs.Data.{Data, string}
use Rattle.hart_values.specs.address.AddressBytes.{is_broadcast}
use Rattle.hart_values.specs.address.DeviceNumbers.{DeviceNumbers}
use Rattle.hart_values.specs.declared.address.Address.{Address}
use Rattle.hart_values.specs.declared.address.Address.TheVariants.{Polling, Unique}
use Rattle.hart_values.specs.declared.master_id.MasterId.{MasterId}
use Rattle.hart_values.specs.declared.master_id.MasterId.TheVariants.{Primary, Secondary}
use Rattle.hart_commands.specs.Commands.{command_name}
use Rattle.hart_frame.specs.declared.wire.kind.FrameKind.{FrameKind}
use Rattle.hart_frame.specs.declared.wire.kind.FrameKind.TheVariants.{Stx, Ack}
use Rattle.hart_frame.specs.wire.Header.{HeaderParts}
use Rattle.hart_explain.specs.Json.{Named, count, name_or_null, named, object_of}
use Rattle.hart_explain.specs.Words.{name_words}

-- The ten hex digits of a device: four for its expanded type, whose upper two bits are zero, and six for its id.
abbrev pub device_digits : DeviceNumbers → List ℕ
device_digits numbers = encode_upper (
    numbers.expanded_type / 256 ∷ numbers.expanded_type % 256
    ∷ numbers.device_id / 65536 ∷ numbers.device_id / 256 % 256 ∷ numbers.device_id % 256 ∷ []
    )

-- The word of an address. A polling address is `@` and its number in decimal. A unique address is the ten digits of the device, and the
-- broadcast address is `all`.
abbrev pub address_word : Address → List ℕ
address_word (Polling number) = 64 ∷ decimal number
address_word (Unique numbers) =
    if is_broadcast (Unique numbers) then codes "all" else device_digits numbers

-- A number in decimal, and its name after it, if it has one.
abbrev pub named_number : ℕ → Option (List ℕ) → List ℕ
named_number number name = decimal number ++ name_words name

-- The words of a master.
abbrev pub master_words : MasterId → List ℕ
master_words Primary = codes "the primary master"
master_words Secondary = codes "the secondary master"

-- The words of an address: the device at a polling address in decimal, or a device by its ten digits. For the broadcast address they are
-- the argument `broadcast`.
abbrev pub device_words : List ℕ → Address → List ℕ
device_words broadcast (Polling number) = codes "the device at polling address " ++ decimal number
device_words broadcast (Unique numbers) =
    if is_broadcast (Unique numbers) then broadcast else codes "device " ++ device_digits numbers

-- The words that say who speaks to whom. An STX is a request of its master to the device at its address, or to all devices. An ACK is a
-- reply to its master from the device at its address, or from one of all devices.
abbrev pub who_words : FrameKind → MasterId → Address → List ℕ
who_words Stx master address = codes "request of " ++ master_words master ++ codes " to " ++ device_words (codes "all devices") address
who_words Ack master address = codes "reply of " ++ device_words (codes "one of all devices") address ++ codes " to " ++ master_words master

-- The words of a command: its number in decimal, and its name if it is known.
abbrev pub command_words : ℕ → List ℕ
command_words command = codes "Command " ++ named_number command (command_name command)

-- The words of a header say who speaks to whom, and the command.
abbrev pub header_words : HeaderParts → List ℕ
header_words header = who_words header.kind header.master header.address ++ codes ", " ++ command_words header.command

-- The name of a kind of frame: an STX is a request, and an ACK is a reply.
abbrev pub kind_name : FrameKind → List ℕ
kind_name Stx = codes "request"
kind_name Ack = codes "reply"

-- The name of a master.
abbrev pub master_name : MasterId → List ℕ
master_name Primary = codes "primary"
master_name Secondary = codes "secondary"

-- The members for the master that sends or receives a frame, and for the frame's address, which is written as in `hart dump`.
abbrev pub ends_members : MasterId → Address → List Named
ends_members master address =
    named "master" (string (master_name master)) ∷ named "address" (string (address_word address)) ∷ []

-- The members of a header that say who speaks to whom: the kind of the frame, its master and its address.
abbrev pub speaker_members : HeaderParts → List Named
speaker_members header = named "kind" (string (kind_name header.kind)) ∷ ends_members header.master header.address

-- The number of a command, and its name if the command is known.
abbrev pub command_members : ℕ → List Named
command_members command = named "command" (count command) ∷ named "command_name" (name_or_null (command_name command)) ∷ []

-- A header as an object of JSON.
abbrev pub header_value : HeaderParts → Data
header_value header = object_of (speaker_members header ++ command_members header.command)
