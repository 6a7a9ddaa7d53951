-- Which requests may be sent to which addresses (implementation choice).
use Rattle.std.specs.Prelude.{◌==◌, ◌||◌, not, ℕ, Bool, is_some}
use Rattle.hart_values.specs.address.AddressBytes.{is_broadcast}
use Rattle.hart_values.specs.declared.address.Address.{Address}
use Rattle.hart_values.specs.declared.address.Address.TheVariants.{Polling, Unique}
use Rattle.hart_frame.specs.wire.FrameParts.{FrameParts}
use Rattle.hart_commands.specs.Commands.{command_name, may_be_broadcast}
use Rattle.hart_commands.specs.RequestData.{command_of}
use Rattle.hart_commands.specs.declared.request.Request.{Request}

-- Whether a command may go to an address. Only Command 0 may go to a polling address, and only Commands 11 and 21 may go to the broadcast
-- address. Every command may go to any other unique address.
abbrev pub may_go_to : Address → ℕ → Bool
may_go_to (Polling polling) number = number == 0
may_go_to (Unique numbers) number = not (is_broadcast (Unique numbers)) || may_be_broadcast number

-- Whether a request may be sent to an address: the command of the request may go to this address.
abbrev pub may_ask : Address → Request → Bool
may_ask address request = may_go_to address (command_of request)

-- Whether a frame may be sent: its command is unknown, or may go to its address.
abbrev pub may_send : FrameParts → Bool
may_send frame = not (is_some (command_name frame.command)) || may_go_to frame.address frame.command
