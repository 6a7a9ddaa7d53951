-- The numbers and the texts of the faults of a device (implementation choice).
use Rattle.std.specs.Prelude.{ℕ, List, codes}
use Rattle.hart_device.specs.declared.fault.DeviceFault.{DeviceFault}
use Rattle.hart_device.specs.declared.fault.DeviceFault.TheVariants.{BroadcastAddress, OutOfRange, BadVersion, BadLength, BadField}

-- The number of each fault.
abbrev pub device_fault_number : DeviceFault → ℕ
device_fault_number BroadcastAddress = 1
device_fault_number OutOfRange = 2
device_fault_number BadVersion = 3
device_fault_number BadLength = 4
device_fault_number BadField = 5

-- The text of each fault of a device.
abbrev pub device_fault_text : DeviceFault → List ℕ
device_fault_text BroadcastAddress = codes "broadcast address"
device_fault_text OutOfRange = codes "out of range"
device_fault_text BadVersion = codes "bad image: version"
device_fault_text BadLength = codes "bad image: length"
device_fault_text BadField = codes "bad image: field"
