-- The device status, the second status byte of a reply (HCF_SPEC-099; implementation choice: the meaning of hex 10).
use Rattle.std.specs.Prelude.{ℕ, Bool, ◌==◌, bit_and, bit_or, slice_index}
use Rattle.hart_values.specs.declared.master_id.MasterId.{MasterId}
use Rattle.hart_values.specs.EachMaster.{of_master}
use Rattle.hart_device.specs.declared.process.Process.{Process}
use Rattle.hart_device.specs.Bits.{bit_if}
use Rattle.hart_device.specs.Device.{DeviceState}
use Rattle.hart_device.specs.Process.{has_more_status}

-- The bits of the device status that the process sets: hex 80 (device malfunction), 04 (loop current saturated), 02 (non-primary variable
-- out of limits) and 01 (primary variable out of limits). Other bits of the process status are ignored.
abbrev pub process_bits : ℕ
process_bits = 0x87

-- The loop current is fixed if the loop current mode is 0.
abbrev pub is_loop_current_fixed : DeviceState → Bool
is_loop_current_fixed state = slice_index state.contents.mode 0 == 0

-- The device status for a master. It has the bits of the process. It also has hex 40 if this master's configuration-changed bit is set, and
-- 20 if this master's cold start bit is set. It has 10 if more status is available, and 08 if the loop current is fixed.
abbrev pub device_status : DeviceState → Process → MasterId → ℕ
device_status state process master =
    bit_or (bit_or (bit_or (bit_or (bit_and process.status process_bits)
    (bit_if (of_master master state.changed) 0x40))
    (bit_if (of_master master state.cold_start) 0x20))
    (bit_if (has_more_status process) 0x10))
    (bit_if (is_loop_current_fixed state) 0x08)
