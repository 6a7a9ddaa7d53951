-- The content of a device's reply to a request (HCF_SPEC-127).
use Rattle.std.specs.Prelude.{ℕ, Bool, if◌then◌else◌, [], ◌∷◌, List, map, slice_get, slice_index}
use Rattle.std.specs.Option.{option_map_or}
use Rattle.hart_commands.specs.declared.content.ReplyContent.{ReplyContent}
use Rattle.hart_commands.specs.declared.content.ReplyContent.TheVariants as replied
use Rattle.hart_commands.specs.declared.output.OutputContent.{OutputContent}
use Rattle.hart_commands.specs.declared.request.Request.{Request}
use Rattle.hart_commands.specs.declared.request.Request.TheVariants as asked
use Rattle.hart_commands.specs.declared.value.UnitValue.{UnitValue}
use Rattle.hart_device.specs.declared.process.OutputValues.{OutputValues}
use Rattle.hart_device.specs.declared.process.Process.{Process}
use Rattle.hart_device.specs.declared.process.ProcessVariable.{ProcessVariable}
use Rattle.hart_device.specs.Device.{DeviceState}
use Rattle.hart_device.specs.Identity.{identity_content, two_bytes}
use Rattle.hart_device.specs.Process.{dynamic_variables, extended_device_status}
use Rattle.hart_device.specs.answer.Variables.{variable_reading}

-- The identity of the device, with the counter of its state.
abbrev pub reply_identity : DeviceState → Process → ReplyContent
reply_identity state process =
    replied.Identity (identity_content state.identity state.counter (extended_device_status process))

-- The unit and the value of a variable.
abbrev pub unit_value : ProcessVariable → UnitValue
unit_value variable = record { unit = variable.unit; value = variable.value }

-- The classification of the dynamic variable at a place, or 0 if the process has no variable there (implementation choice).
abbrev pub class_at : Process → ℕ → ℕ
class_at process place = option_map_or (λ variable. variable.classification) (slice_get (dynamic_variables process) place) 0

-- The classifications of the four dynamic variables.
abbrev pub reply_classes : Process → ReplyContent
reply_classes process =
    replied.Classes (class_at process 0 ∷ class_at process 1 ∷ class_at process 2 ∷ class_at process 3 ∷ [])

-- The extended device status, the device variables of these codes, and the time stamp.
abbrev pub reply_variables : Process → List ℕ → ReplyContent
reply_variables process codes =
    replied.Variables (extended_device_status process) (map (variable_reading process) codes) process.time_stamp

-- The polling address and the loop current mode that the registers hold.
abbrev pub reply_polling : DeviceState → ReplyContent
reply_polling state = replied.Polling (slice_index state.contents.polling 0) (slice_index state.contents.mode 0)

-- The tag, the descriptor and the date that the registers hold.
abbrev pub reply_tag : DeviceState → ReplyContent
reply_tag state = replied.Tag state.contents.tag state.contents.descriptor state.contents.date

-- The content of a loop current output. The write protect code is 1 if the device is protected and 0 if it is not. The byte that the
-- standard reserves is 250.
abbrev pub output_content : OutputValues → Bool → OutputContent
output_content output protected = record {
  alarm_code = output.alarm_code;
  transfer_function = output.transfer_function;
  unit = output.unit;
  upper_range_value = output.upper_range_value;
  lower_range_value = output.lower_range_value;
  damping = output.damping;
  write_protect_code = if protected then 1 else 0;
  reserved = 250;
  channel_flags = output.channel_flags;
}

-- The content of the reply with code 0 to a request, from a device in this state.
abbrev pub reply_content : DeviceState → Process → Request → ReplyContent
reply_content state process asked.Identify = reply_identity state process
reply_content state process asked.ReadPrimary = replied.Primary (unit_value process.first)
reply_content state process asked.ReadCurrent = replied.Current process.loop_current process.percent_of_range
reply_content state process asked.ReadDynamic = replied.Dynamic process.loop_current (map unit_value (dynamic_variables process))
reply_content state process (asked.SetPolling address mode) = reply_polling state
reply_content state process asked.ReadPolling = reply_polling state
reply_content state process asked.ReadClasses = reply_classes process
reply_content state process (asked.ReadVariables codes) = reply_variables process codes
reply_content state process (asked.IdentifyByTag tag) = reply_identity state process
reply_content state process asked.ReadMessage = replied.Message state.contents.message
reply_content state process asked.ReadTag = reply_tag state
reply_content state process asked.ReadSensor = replied.Sensor process.sensor
reply_content state process asked.ReadOutput = replied.Output (output_content process.output state.protected)
reply_content state process asked.ReadAssembly = replied.Assembly state.contents.assembly
reply_content state process (asked.WriteMessage message) = replied.Message state.contents.message
reply_content state process (asked.WriteTag tag descriptor date) = reply_tag state
reply_content state process (asked.WriteAssembly assembly) = replied.Assembly state.contents.assembly
reply_content state process asked.ReadLongTag = replied.LongTag state.contents.long_tag
reply_content state process (asked.IdentifyByLongTag long_tag) = reply_identity state process
reply_content state process (asked.WriteLongTag long_tag) = replied.LongTag state.contents.long_tag
reply_content state process (asked.ResetChanged counter) = replied.Counter (two_bytes state.counter)
reply_content state process asked.ReadMore = replied.More process.additional_status
