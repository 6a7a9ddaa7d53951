-- The bench device: the device that the program `hart` simulates (implementation choice).
use Rattle.std.specs.Prelude.{ℕ, List, [], ◌∷◌, ◌++◌, replicate}
use Rattle.hart_values.specs.hart_date.Calendar.{not_set}
use Rattle.hart_values.specs.declared.bits32.Bits32.{Bits32}
use Rattle.hart_values.specs.declared.loop_mode.LoopMode.TheVariants.{Enabled}
use Rattle.hart_device.specs.declared.identity_parts.IdentityParts.{IdentityParts}
use Rattle.hart_device.specs.declared.process.Process.{Process}
use Rattle.hart_device.specs.declared.registers.values.RegisterValues.{RegisterValues}

-- The bench device has type hex 3742 and id hex 0A1B2C.
abbrev pub bench_identity : IdentityParts
bench_identity = record {
  expanded_device_type = 0x3742;
  device_id = 0x0A1B2C;
  request_preambles = 5;
  response_preambles = 5;
  device_revision = 1;
  software_revision = 2;
  hardware_revision = 3;
  signalling_code = 0;
  flags = 0;
  device_variables = 4;
  manufacturer = 0x0037;
  private_label_distributor = 0x0037;
  device_profile = 1;
}

-- Eight spaces in packed text.
abbrev pub eight_spaces : List ℕ
eight_spaces = 0x82 ∷ 0x08 ∷ 0x20 ∷ 0x82 ∷ 0x08 ∷ 0x20 ∷ []

-- The initial values of the bench device's registers: polling address 0, loop current enabled, texts of spaces, date not set, final
-- assembly number 0, long tag of spaces.
abbrev pub bench_values : RegisterValues
bench_values = record {
  polling = 0;
  mode = Enabled;
  message = eight_spaces ++ eight_spaces ++ eight_spaces ++ eight_spaces;
  tag = eight_spaces;
  descriptor = eight_spaces ++ eight_spaces;
  date = not_set;
  assembly = 0 ∷ 0 ∷ 0 ∷ [];
  long_tag = replicate 32 0x20;
}

-- The float with these four bytes, the most significant first.
abbrev pub float : ℕ → ℕ → ℕ → ℕ → Bits32
float a b c d = record { 0 = a ∷ b ∷ c ∷ d ∷ [] }

-- The process of the bench device: 12 mA, 50 percent of range, and one variable of 25 degrees Celsius. The limits of the sensor are 0 and
-- 200 degrees, and the range is from 0 to 100.
abbrev pub bench_process : Process
bench_process = record {
  loop_current = float 0x41 0x40 0x00 0x00;
  percent_of_range = float 0x42 0x48 0x00 0x00;
  first = record { classification = 0x00; unit = 0x20; value = float 0x41 0xC8 0x00 0x00; status = 0xC0 };
  others = [];
  time_stamp = 0 ∷ 0 ∷ 0 ∷ 0 ∷ [];
  status = 0x00;
  additional_status = replicate 25 0;
  sensor = record {
    serial_number = 0 ∷ 0 ∷ 0 ∷ [];
    unit = 0x20;
    upper_limit = float 0x43 0x48 0x00 0x00;
    lower_limit = float 0x00 0x00 0x00 0x00;
    minimum_span = float 0x41 0x20 0x00 0x00;
  };
  output = record {
    alarm_code = 0x00;
    transfer_function = 0x00;
    unit = 0x20;
    upper_range_value = float 0x42 0xC8 0x00 0x00;
    lower_range_value = float 0x00 0x00 0x00 0x00;
    damping = float 0x3F 0x80 0x00 0x00;
    channel_flags = 0x00;
  };
}
