-- How contracts describe a unique address (HCF_SPEC-081).
use Rattle.std.specs.Prelude.{ℕ}

-- The numbers of a unique address: the lower 14 bits of the expanded device type, and the device id of 24 bits.
pub record DeviceNumbers : Type 0 where
  pub expanded_type : ℕ
  pub device_id : ℕ
