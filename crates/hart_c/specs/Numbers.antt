-- What the structs of callers in C mean: a frame, and the identity, the process and the registers of a device (implementation choice).
use Rattle.std.specs.Prelude.{◌≡◌, ◌≤◌, if◌then◌else◌, ℕ, Bool, true, false, List, map, take, [], ◌∷◌}
use Rattle.hart_values.specs.declared.address.Address.TheVariants.{Polling, Unique}
use Rattle.hart_values.specs.declared.master_id.MasterId.TheVariants.{Primary, Secondary}
use Rattle.hart_values.specs.declared.{address.Address.Address, bits32.Bits32.Bits32}
use Rattle.hart_frame.specs.declared.wire.kind.FrameKind.TheVariants.{Ack, Stx}
use Rattle.hart_frame.specs.{declared.heard.found.Found.Found, wire.FrameParts.FrameParts}
use Rattle.hart_commands.specs.{Registers.Contents, declared.sensor.SensorContent.SensorContent}
use Rattle.hart_device.specs.{Process.dynamic_variables, declared.process.OutputValues.OutputValues, declared.process.Process.Process}
use Rattle.hart_device.specs.{declared.identity_parts.IdentityParts.IdentityParts, declared.process.ProcessVariable.ProcessVariable}
use Rattle.hart_c.specs.declared.frame.HartFrame.{HartFrame}
use Rattle.hart_c.specs.declared.{identity.HartIdentity.HartIdentity, process.HartOutput.HartOutput, registers.HartRegisters.HartRegisters}
use Rattle.hart_c.specs.declared.{process.HartProcess.HartProcess, process.HartSensor.HartSensor, process.HartVariable.HartVariable}

-- The address in a `HartFrame`: for `true` its unique address, for `false` its polling address.
abbrev pub address_of : Bool → HartFrame → Address
address_of true frame = Unique (record { expanded_type = frame.expanded_type; device_id = frame.device_id })
address_of false frame = Polling frame.polling_address

-- The frame that a `HartFrame` describes: a reply is an ACK, and any other frame an STX.
abbrev pub frame_in : HartFrame → FrameParts
frame_in frame = record {
  kind = if frame.is_reply then Ack else Stx;
  master = if frame.is_primary then Primary else Secondary;
  burst = frame.is_burst;
  address = address_of frame.is_unique frame;
  expansion = take frame.expansion_len frame.expansion;
  command = frame.command;
  payload = take frame.payload_len frame.payload;
}

-- The frame that a `HartFrame` describes, and where it stands.
abbrev pub found_in : HartFrame → Found
found_in frame = record { start = frame.start; stop = frame.stop; frame = frame_in frame }

-- A `HartFrame` is tidy if there are at most three expansion bytes and the fields of the unused kind of address are 0.
pub record IsTidy (frame : HartFrame) : Type 0 where
  pub expansion : frame.expansion_len ≤ 3
  pub polling : frame.is_unique ≡ true → frame.polling_address ≡ 0
  pub unique : frame.is_unique ≡ false → (frame.expanded_type ≡ 0) × (frame.device_id ≡ 0)

-- The parts of the identity that a `HartIdentity` describes.
abbrev pub parts_of : HartIdentity → IdentityParts
parts_of identity = record {
  expanded_device_type = identity.expanded_device_type;
  device_id = identity.device_id;
  request_preambles = identity.request_preambles;
  response_preambles = identity.response_preambles;
  device_revision = identity.device_revision;
  software_revision = identity.software_revision;
  hardware_revision = identity.hardware_revision;
  signalling_code = identity.signalling_code;
  flags = identity.flags;
  device_variables = identity.device_variables;
  manufacturer = identity.manufacturer;
  private_label_distributor = identity.private_label_distributor;
  device_profile = identity.device_profile;
}

-- The value of a float, made of its four bytes.
abbrev pub float_of : List ℕ → Bits32
float_of bytes = record { 0 = bytes }

-- The variable that a `HartVariable` describes.
abbrev pub variable_of : HartVariable → ProcessVariable
variable_of given =
    record { classification = given.classification; unit = given.unit; value = float_of given.value; status = given.status }

-- The sensor that a `HartSensor` describes.
abbrev pub sensor_of : HartSensor → SensorContent
sensor_of given = record {
  serial_number = given.serial_number;
  unit = given.unit;
  upper_limit = float_of given.upper_limit;
  lower_limit = float_of given.lower_limit;
  minimum_span = float_of given.minimum_span;
}

-- The loop current output that a `HartOutput` describes.
abbrev pub output_of : HartOutput → OutputValues
output_of given = record {
  alarm_code = given.alarm_code;
  transfer_function = given.transfer_function;
  unit = given.unit;
  upper_range_value = float_of given.upper_range_value;
  lower_range_value = float_of given.lower_range_value;
  damping = float_of given.damping;
  channel_flags = given.channel_flags;
}

-- A process has one to four dynamic variables.
abbrev pub HasVariables : HartProcess → Type 0
HasVariables given = (1 ≤ given.variables_len) × (given.variables_len ≤ 4)

-- A `HartProcess` describes a process: both have the same dynamic variables, and the same values of all other parts.
pub record IsProcessOf (given : HartProcess) (process : Process) : Type 0 where
  pub loop_current : process.loop_current ≡ float_of given.loop_current
  pub percent_of_range : process.percent_of_range ≡ float_of given.percent_of_range
  pub count : HasVariables given
  pub variables : dynamic_variables process ≡ map variable_of (take given.variables_len given.variables)
  pub time_stamp : process.time_stamp ≡ given.time_stamp
  pub status : process.status ≡ given.status
  pub additional_status : process.additional_status ≡ given.additional_status
  pub sensor : process.sensor ≡ sensor_of given.sensor
  pub output : process.output ≡ output_of given.output

-- Each register holds the bytes of its field in `HartRegisters`; the polling address and the loop current mode have one byte each.
abbrev pub contents_of : HartRegisters → Contents
contents_of given = record {
  polling = given.polling_address ∷ [];
  mode = given.loop_current_mode ∷ [];
  message = given.message;
  tag = given.tag;
  descriptor = given.descriptor;
  date = given.date;
  assembly = given.assembly;
  long_tag = given.long_tag;
}
