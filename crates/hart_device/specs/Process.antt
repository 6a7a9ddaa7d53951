-- The process values that are passed to a device with each request (HCF_SPEC-127; implementation choice: how these values are passed).
use Rattle.std.specs.Prelude.{◌≡◌, ◌≤◌, ℕ, Bool, ◌||◌, not, ◌==◌, All, List, ◌∷◌, length, take, drop, slice_index}
use Rattle.std.specs.List.{list_any}
use Rattle.hart_values.specs.declared.bits32.Bits32.{Bits32}
use Rattle.hart_device.specs.declared.process.Process.{Process}
use Rattle.hart_device.specs.declared.process.ProcessVariable.{ProcessVariable}

-- The dynamic variables of a process, one to four. The primary variable is the first.
abbrev pub dynamic_variables : Process → List ProcessVariable
dynamic_variables process = process.first ∷ process.others

-- The extended device status is byte 6, counted from 0, of the additional status bytes.
abbrev pub extended_device_status : Process → ℕ
extended_device_status process = slice_index process.additional_status 6

-- Whether any byte of a list is not zero.
abbrev pub is_any_set : List ℕ → Bool
is_any_set bytes = list_any (λ byte. not (byte == 0)) bytes

-- Whether more status is available: an additional status byte other than byte 6 is not zero.
abbrev pub has_more_status : Process → Bool
has_more_status process = is_any_set (take 6 process.additional_status) || is_any_set (drop 7 process.additional_status)

-- A float is four bytes.
abbrev pub IsFloat : Bits32 → Type 0
IsFloat float = length float.0 ≡ 4

-- A process is well made if it has at most three dynamic variables beside the first, four bytes in each float and in the time stamp,
-- 25 bytes of additional status, and three bytes in the serial number of the sensor.
pub record IsProcess (process : Process) : Type 0 where
  pub loop_current : IsFloat process.loop_current
  pub percent_of_range : IsFloat process.percent_of_range
  pub first : IsFloat process.first.value
  pub few : length process.others ≤ 3
  pub others : All (λ variable. IsFloat variable.value) process.others
  pub time_stamp : length process.time_stamp ≡ 4
  pub additional_status : length process.additional_status ≡ 25
  pub serial_number : length process.sensor.serial_number ≡ 3
  pub upper_limit : IsFloat process.sensor.upper_limit
  pub lower_limit : IsFloat process.sensor.lower_limit
  pub minimum_span : IsFloat process.sensor.minimum_span
  pub upper_range_value : IsFloat process.output.upper_range_value
  pub lower_range_value : IsFloat process.output.lower_range_value
  pub damping : IsFloat process.output.damping
