-- If a device replies with code 0 to a well-made request, the content of the reply is read back from its bytes. A device's reply to a known
-- command is read back from its payload.
use Rattle.std.proofs.Common.{◌≡◌, ℕ, zero, suc, ◌*◌, ◌/◌, ◌<◌, ◌≤◌, List, [], ◌∷◌, ◌++◌, length, map, min, Some, All, get_or, refl, arith}
use Rattle.std.proofs.Common.{append_assoc, append-nil, length-append, ◌==◌, Ok, Err, Bool, true}
use Rattle.std.proofs.lemmas.Bool.Decides.{nat_tests}
use Rattle.std.proofs.lemmas.Grind.{common_steps}
use Rattle.std.proofs.lemmas.List.{length-map, take_at, drop_at}
use Rattle.std.proofs.lemmas.List.Elements.{All-cons, All-map}
use Rattle.std.proofs.lemmas.Option.{get_or_from_slice_get, slice_get_within}
use Rattle.std.specs.List.{flat_map}
use Rattle.std.specs.Simd.{first_chunks}
use Rattle.hart_values.specs.declared.bits32.Bits32.{Bits32}
use Rattle.hart_commands.specs.Parts.{content_bytes}
use Rattle.hart_commands.specs.Registers.{AreValid, Overwrite}
use Rattle.hart_commands.specs.ReplyData.{content_reading, reply_payload, reply_reading}
use Rattle.hart_commands.specs.ReplyReading.{dynamic_reading, saying, tag_of, variables_reading}
use Rattle.hart_commands.specs.RequestData.{IsRequest, command_of, Reading, needed_data}
use Rattle.hart_commands.specs.Values.{unit_value_of, unit_value_bytes, variable_of, variable_bytes}
use Rattle.hart_commands.specs.declared.content.ReplyContent.{ReplyContent}
use Rattle.hart_commands.specs.declared.register.Register.{Register}
use Rattle.hart_commands.specs.declared.request.Request.{Request}
use Rattle.hart_commands.specs.declared.value.UnitValue.{UnitValue}
use Rattle.hart_commands.specs.declared.value.VariableReading.{VariableReading}
use Rattle.hart_commands.proofs.lemmas.Parts.{by_spelling, joined_values, spelled, whole}
use Rattle.hart_device.specs.Device.{DeviceState, Effect, Executes, after}
use Rattle.hart_device.specs.Process.{IsFloat, IsProcess, dynamic_variables}
use Rattle.hart_device.specs.answer.Content.{reply_content, unit_value}
use Rattle.hart_device.specs.answer.Variables.{variable_of_code, variable_reading}
use Rattle.hart_device.specs.declared.process.Process.{Process}
use Rattle.hart_device.specs.declared.process.ProcessVariable.{ProcessVariable}
use Rattle.hart_commands.specs.Commands as commands
use Rattle.hart_commands.specs.declared.content.ReplyContent.TheVariants as replied
use Rattle.hart_commands.specs.declared.register.Register.TheVariants as registers
use Rattle.hart_commands.specs.declared.request.Request.TheVariants as requested
use Rattle.std.specs.Prelude.{if◌then◌else◌}
use Rattle.hart_values.specs.declared.master_id.MasterId.{MasterId}
use Rattle.hart_frame.specs.wire.FrameParts.{FrameParts}
use Rattle.hart_commands.specs.Commands.{is_known}
use Rattle.hart_commands.specs.RequestCode.{request_code}
use Rattle.hart_commands.proofs.lemmas.Laws.{overwrites_are_valid}
use Rattle.hart_commands.proofs.lemmas.RequestMade.{IsGiven, given}
use Rattle.hart_device.specs.answer.Answer.{after_command, effect_of, judged_of, reading_of, reply_of, reply_with}
use Rattle.hart_device.proofs.lemmas.answer.Effect.{writes_execute_their_overwrite-well_made}

-- LISTS
-- If items of `n` bytes each are written end to end, they are read back one by one.
end_to_end : {X : Type 0} (n : ℕ) (bytes_of : X → List ℕ) (of : List ℕ → X) (Sized : X → Type 0)
    → ((x : X) → Sized x → length (bytes_of x) ≡ n) → ((x : X) → Sized x → of (bytes_of x) ≡ x)
    → (xs : List X) (rest : List ℕ) → All Sized xs
    → (length (flat_map bytes_of xs) ≡ length xs * n) × (map of (first_chunks n (length xs) (flat_map bytes_of xs ++ rest)) ≡ xs)
end_to_end n bytes_of of Sized size back [] rest all = (omega arith, refl)
end_to_end n bytes_of of Sized size back (x ∷ xs) rest all =
    let here : Sized x = all zero x (omega arith) in
    grind (
      arith,
      common_steps,
      flat_map,
      append_assoc,
      length-append,
      take_at,
      drop_at,
      end_to_end n bytes_of of Sized size back xs rest (λ k d within. all (suc k) d (omega arith)),
    )

-- CONTENTS
-- The content of a reply to a command is read back from its bytes.
abbrev pub IsReadAgain : ℕ → ReplyContent → Type 0
IsReadAgain command content = content_reading command (content_bytes content) ≡ Some content

tag_said : (tag descriptor date : List ℕ) → length tag ≡ 6 → length descriptor ≡ 12 → length date ≡ 3
    → saying 21 tag_of (tag ++ (descriptor ++ date)) ≡ Some (replied.Tag tag descriptor date)
tag_said tag descriptor date of_tag of_descriptor of_date =
    rw (← spelled 6 tag of_tag, ← spelled 12 descriptor of_descriptor, ← spelled 3 date of_date) refl

dynamic_said : (current : Bits32) (values : List UnitValue) → IsFloat current → 0 < length values → length values ≤ 4
    → All (λ v. IsFloat v.value) values
    → dynamic_reading (current.0 ++ flat_map unit_value_bytes values) ≡ Some (replied.Dynamic current values)
dynamic_said current values float some few all =
    let groups = flat_map unit_value_bytes values in
    let each = end_to_end 5 unit_value_bytes unit_value_of (λ v. IsFloat v.value) (λ v is. omega arith)
    (λ v is. rw (← spelled 4 v.value.0 is) refl) values [] all in
    let read : map unit_value_of (first_chunks 5 (length values) groups) ≡ values = rw (append-nil groups) at each.1 in
    let count : min (length groups / 5) 4 ≡ length values = omega (arith, each.0) in
    rw (take_at current.0 groups 4 float, drop_at current.0 groups 4 float, count, read) (grind (arith, nat_tests, length-append, each.0))

variables_said : (status : ℕ) (variables : List VariableReading) (time : List ℕ) → 0 < length variables → length variables ≤ 8
    → All (λ v. IsFloat v.value) variables → length time ≡ 4
    → variables_reading (status ∷ (flat_map variable_bytes variables ++ time)) ≡ Some (replied.Variables status variables time)
variables_said status variables time some few all float =
    let each = end_to_end 8 variable_bytes variable_of (λ v. IsFloat v.value)
    (λ v is. omega (arith, length-append v.value.0 (v.status ∷ []))) (λ v is. rw (← spelled 4 v.value.0 is) refl)
    variables time all in grind (arith, common_steps, nat_tests, length-append, drop_at)

-- The value of each dynamic variable, and of the variable of each code, has four bytes.
dynamic_floats : (process : Process) → IsProcess process → All (λ variable. IsFloat variable.value) (dynamic_variables process)
dynamic_floats process is = All-cons (λ (v : ProcessVariable). IsFloat v.value) process.first process.others is.first is.others

variable_is_float : (process : Process) → IsProcess process → (code : ℕ) → IsFloat (variable_of_code process code).value
variable_is_float process is code = grind (arith, dynamic_floats process is, get_or_from_slice_get, slice_get_within)

-- The content of a reply with code 0 to a well-made request is read back from its bytes.
pub content_again : (state : DeviceState) (process : Process) → AreValid state.contents → IsProcess process → (request : Request)
    → IsRequest request → IsReadAgain (command_of request) (reply_content state process request)
unfolding commands.replied
content_again state process valid is requested.ReadDynamic made =
    rw (joined_values process.loop_current.0 (map unit_value (dynamic_variables process))) (
    dynamic_said process.loop_current (map unit_value (dynamic_variables process)) is.loop_current
    (grind (arith, length-map)) (grind (arith, length-map, is.few))
    (All-map (λ (v : UnitValue). IsFloat v.value) unit_value (dynamic_variables process) (dynamic_floats process is)))
content_again state process valid is (requested.ReadVariables codes) made =
    variables_said _ (map (variable_reading process) codes) process.time_stamp
    (grind (arith, length-map, made)) (grind (arith, length-map, made))
    (All-map (λ v. IsFloat v.value) (variable_reading process) codes (λ k d within. variable_is_float process is (get_or codes k d)))
    is.time_stamp
content_again state process valid is requested.ReadSensor made =
    rw (
      ← spelled 3 process.sensor.serial_number is.serial_number,
      ← spelled 4 process.sensor.upper_limit.0 is.upper_limit,
      ← spelled 4 process.sensor.lower_limit.0 is.lower_limit,
      ← spelled 4 process.sensor.minimum_span.0 is.minimum_span,
    ) refl
content_again state process valid is requested.ReadOutput made =
    rw (
      ← spelled 4 process.output.upper_range_value.0 is.upper_range_value,
      ← spelled 4 process.output.lower_range_value.0 is.lower_range_value,
      ← spelled 4 process.output.damping.0 is.damping,
    ) refl
content_again state process valid is requested.ReadMore made =
    by_spelling 25 (λ xs. IsReadAgain 48 (replied.More xs)) (λ xs. refl) process.additional_status is.additional_status
content_again state process valid is requested.ReadPrimary made = rw (← spelled 4 process.first.value.0 is.first) refl
content_again state process valid is requested.ReadCurrent made =
    rw (← spelled 4 process.loop_current.0 is.loop_current, ← spelled 4 process.percent_of_range.0 is.percent_of_range) refl
content_again state process valid is _ made =
    let sized = λ (register : Register). (valid register).0 in
    search (
      whole,
      tag_said,
      sized registers.Message,
      sized registers.Tag,
      sized registers.Descriptor,
      sized registers.Date,
      sized registers.Assembly,
      sized registers.LongTag,
    )

-- A frame is read as a well-made request of its command, or refused with a code from 1 to 127.
abbrev pub IsJudged : ℕ → Reading → Type 0
IsJudged command (Ok request) = (command_of request ≡ command) × IsRequest request
IsJudged command (Err code) = (0 < code) × (code < 128)

judged_by : (known protected : Bool) (size command counter : ℕ) (payload : List ℕ) (reading : Reading)
    → IsGiven known size command payload reading
    → IsJudged command (let code = request_code command reading protected counter in if code == 0 then reading else Err code)
judged_by known protected size command counter payload reading is = grind (arith, nat_tests)

reply_again : (state : DeviceState) (process : Process) (frame : FrameParts) (judged : Reading) → AreValid state.contents
    → IsProcess process → is_known frame.command ≡ true → IsJudged frame.command judged
    → reply_reading frame.command (reply_payload (reply_with state process frame judged)) ≡ Some (reply_with state process frame judged)
reply_again state process frame (Ok request) valid is known made = grind (arith, common_steps, content_again)
reply_again state process frame (Err code) valid is known made = grind (arith, nat_tests)

-- If the contents of the registers are valid, they are still valid after a command.
after_valid : (master : MasterId) (effect : Effect) (state : DeviceState)
    → ((overwrite : Overwrite) → effect ≡ Executes overwrite → IsRequest overwrite)
    → AreValid state.contents → AreValid (after master effect state).contents
after_valid master (Executes overwrite) state made valid = overwrites_are_valid overwrite state.contents (made overwrite refl) valid
after_valid master _ state made valid = valid

-- The reply of a device to a known command is read as that reply.
pub reply_read : (state : DeviceState) (process : Process) (frame : FrameParts) → AreValid state.contents → IsProcess process
    → is_known frame.command ≡ true
    → reply_reading frame.command (reply_payload (reply_of state process frame)) ≡ Some (reply_of state process frame)
reply_read state process frame valid is known =
    let made = writes_execute_their_overwrite-well_made state frame in
    reply_again (after_command state frame) process frame (judged_of state frame)
    (after_valid frame.master (effect_of state frame) state made valid) is known
    (judged_by (is_known frame.command) state.protected (needed_data frame.command) frame.command state.counter frame.payload
    (reading_of frame) (given frame.command frame.payload))
