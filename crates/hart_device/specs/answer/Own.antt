-- The commands that a device's maker adds to the known commands, and how a device answers them (HCF_SPEC-099).
-- Implementation choice: which requests are handed to the maker.
use Rattle.std.specs.Prelude.{ℕ, ◌&&◌, Bool, true, false, not, is_some, List, ◌∷◌, if◌then◌else◌}
use Rattle.hart_frame.specs.wire.FrameParts.{FrameParts, reply_parts}
use Rattle.hart_commands.specs.Commands.{command_name}
use Rattle.hart_device.specs.declared.process.Process.{Process}
use Rattle.hart_device.specs.Device.{DeviceState, counted}
use Rattle.hart_device.specs.answer.Answer.{is_addressed}
use Rattle.hart_device.specs.answer.Status.{device_status}

-- Whether a frame asks for one of the maker's own commands: the frame is for the device, and its command is not known. So the frame's
-- address is the unique address of the device.
abbrev pub asks_own : DeviceState → FrameParts → Bool
asks_own state frame = is_addressed state frame && not (is_some (command_name frame.command))

-- The state after one of the maker's own commands. If `is_write` is true, the command counts as a configuration write that sets no
-- register. Otherwise it changes nothing.
abbrev pub after_own : Bool → DeviceState → DeviceState
after_own is_write state = if is_write then counted state else state

-- The reply to a frame, from a device in this state: the code, the device status for the frame's master, and the data.
abbrev pub own_reply : DeviceState → Process → FrameParts → ℕ → List ℕ → FrameParts
own_reply state process frame code bytes = reply_parts frame (code ∷ device_status state process frame.master ∷ bytes)
