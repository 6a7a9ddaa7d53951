-- The ranges of the numbers of an address that is viewed in place (HCF_SPEC-081).
use Rattle.std.specs.Prelude.{ℕ, ◌<◌, ◌^◌}
use Rattle.hart_frame.specs.declared.wire.plain_address.PlainAddress.{PlainAddress}
use Rattle.hart_frame.specs.declared.wire.plain_address.PlainAddress.TheVariants.{Polling, Unique}

-- The number of a polling address, or 0 for a unique address.
abbrev pub polling_number : PlainAddress → ℕ
polling_number (Polling number) = number
polling_number (Unique expanded_type device_id) = 0

-- The expanded device type of a unique address, or 0 for a polling address.
abbrev pub type_number : PlainAddress → ℕ
type_number (Polling number) = 0
type_number (Unique expanded_type device_id) = expanded_type

-- The device id of a unique address, or 0 for a polling address.
abbrev pub id_number : PlainAddress → ℕ
id_number (Polling number) = 0
id_number (Unique expanded_type device_id) = device_id

-- Each number of an address is in its range.
abbrev pub IsInRange : PlainAddress → Type 0
IsInRange address =
    (polling_number address < 64) × (type_number address < 2 ^ 14) × (id_number address < 2 ^ 24)
