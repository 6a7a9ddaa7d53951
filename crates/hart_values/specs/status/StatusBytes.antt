-- The two status bytes of a reply (HCF_SPEC-099).
use Rattle.std.specs.Prelude.{◌≡◌, ℕ, ◌+◌, ◌<◌, List, length, slice_index}
use Rattle.hart_values.specs.declared.status.Status.{Status}
use Rattle.hart_values.specs.declared.status.Status.TheVariants.{Code, Faulty}

-- If bit 7 of the first byte is clear, the first byte is the response code, and the second byte is the device status. If bit 7 is set, the
-- lower seven bits of the first byte are communication faults. The second byte then has no meaning and may have any value.
abbrev pub IsStatusBytes : Status → List ℕ → Type 0
IsStatusBytes (Code code device) bytes = (length bytes ≡ 2) × (code < 128) × (slice_index bytes 0 ≡ code) × (slice_index bytes 1 ≡ device.0)
IsStatusBytes (Faulty faults) bytes = (length bytes ≡ 2) × (faults < 128) × (slice_index bytes 0 ≡ 128 + faults)
