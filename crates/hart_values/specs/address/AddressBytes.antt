-- The bytes of an address in a message (HCF_SPEC-081).
use Rattle.std.specs.Prelude.{◌≡◌, ℕ, ◌+◌, ◌*◌, ◌<◌, ◌==◌, ◌&&◌, Bool, true, false, List, [], ◌∷◌}
use Rattle.hart_values.specs.declared.master_id.MasterId.{MasterId}
use Rattle.hart_values.specs.declared.master_id.MasterId.TheVariants.{Primary, Secondary}
use Rattle.hart_values.specs.declared.address.Address.{Address}
use Rattle.hart_values.specs.declared.address.Address.TheVariants.{Polling, Unique}
use Rattle.hart_values.specs.address.DeviceNumbers.{DeviceNumbers}

-- The master bit as a number: 1 for the primary master and 0 for the secondary.
abbrev pub master_bit : MasterId → ℕ
master_bit Primary = 1
master_bit Secondary = 0

-- The burst bit as a number: 1 if the bit is set, and 0 if it is clear.
abbrev pub burst_bit : Bool → ℕ
burst_bit true = 1
burst_bit false = 0

-- The first byte of an address has the master bit as bit 7, the burst bit as bit 6, and six bits of the address below them.
abbrev pub first_byte : MasterId → Bool → ℕ → ℕ
first_byte master burst six_bits = 128 * master_bit master + 64 * burst_bit burst + six_bits

-- The five bytes of a unique address. The first byte has the master bit, the burst bit and bits 13 to 8 of the expanded device type. The
-- second byte has bits 7 to 0 of this type. The other three bytes have the device id, the most significant byte first.
pub record IsUniqueBytes (master : MasterId) (burst : Bool) (numbers : DeviceNumbers) (bytes : List ℕ) : Type 0 where
  pub type_high : ℕ
  pub type_low : ℕ
  pub id_high : ℕ
  pub id_middle : ℕ
  pub id_low : ℕ
  pub five : bytes ≡ first_byte master burst type_high ∷ type_low ∷ id_high ∷ id_middle ∷ id_low ∷ []
  pub ranges : (type_high < 64) × (type_low < 256) × (id_high < 256) × (id_middle < 256) × (id_low < 256)
  pub expanded_type : 256 * type_high + type_low ≡ numbers.expanded_type
  pub device_id : 65536 * id_high + 256 * id_middle + id_low ≡ numbers.device_id

-- The bytes of an address. A polling address is below 64, and is the lower six bits of one byte. A unique address has five bytes.
abbrev pub IsAddressBytes : MasterId → Bool → Address → List ℕ → Type 0
IsAddressBytes master burst (Polling number) bytes = (number < 64) × (bytes ≡ first_byte master burst number ∷ [])
IsAddressBytes master burst (Unique numbers) bytes = IsUniqueBytes master burst numbers bytes

-- The broadcast address is the unique address whose type and device id are 0.
abbrev pub broadcast : Address
broadcast = Unique (record { expanded_type = 0; device_id = 0 })

-- Whether an address is the broadcast address.
abbrev pub is_broadcast : Address → Bool
is_broadcast (Polling number) = false
is_broadcast (Unique numbers) = (numbers.expanded_type == 0) && (numbers.device_id == 0)
