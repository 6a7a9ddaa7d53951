-- The device variables that Command 9 asks for by their codes (HCF_SPEC-127). Implementation choice: the classification and the status of
-- the variables 244 and 245, and the codes 0 to 3 for the dynamic variables.
use Rattle.std.specs.Prelude.{ℕ, ◌-◌, ◌==◌, ◌&&◌, nat_lt, if◌then◌else◌, [], ◌∷◌, Option, Some, None, slice_get, unwrap_or}
use Rattle.hart_commands.specs.declared.value.VariableReading.{VariableReading}
use Rattle.hart_device.specs.declared.process.Process.{Process}
use Rattle.hart_device.specs.declared.process.ProcessVariable.{ProcessVariable}
use Rattle.hart_device.specs.Process.{dynamic_variables}

-- The percent of range as a variable: in unit 57, with the status of the first variable.
abbrev pub percent_variable : Process → ProcessVariable
percent_variable process =
    record { classification = 0; unit = 57; value = process.percent_of_range; status = process.first.status }

-- The loop current as a variable: in unit 39, with the status of the first variable.
abbrev pub current_variable : Process → ProcessVariable
current_variable process =
    record { classification = 0; unit = 39; value = process.loop_current; status = process.first.status }

-- The values that a reading has if the process lacks the variable: classification 0, unit 250, value 7F A0 00 00 and status hex 30.
abbrev pub missing_variable : ProcessVariable
missing_variable = record {
  classification = 0;
  unit = 250;
  value = record { 0 = 0x7F ∷ 0xA0 ∷ 0x00 ∷ 0x00 ∷ [] };
  status = 0x30;
}

-- The place of the dynamic variable with this code. Codes 0 to 3 have the places 0 to 3, and so have codes 246 to 249. Any other code has
-- no place (`None`).
abbrev pub place_of : ℕ → Option ℕ
place_of code =
    if nat_lt code 4 then Some code
    else if nat_lt 245 code && nat_lt code 250 then Some (code - 246)
    else None

-- The dynamic variable at a place, if the process has a variable there.
abbrev pub dynamic_at : Process → Option ℕ → Option ProcessVariable
dynamic_at process None = None
dynamic_at process (Some place) = slice_get (dynamic_variables process) place

-- The variable of a code: 244 is the percent of range, 245 the loop current, and 246 to 249 and 0 to 3 are dynamic variables. Any other
-- code gives `missing_variable`, and so does the code of a dynamic variable that the process does not have.
abbrev pub variable_of_code : Process → ℕ → ProcessVariable
variable_of_code process code =
    if code == 244 then percent_variable process
    else if code == 245 then current_variable process
    else unwrap_or (dynamic_at process (place_of code)) missing_variable

-- The reading of a requested code: the code itself, and the variable of this code.
abbrev pub variable_reading : Process → ℕ → VariableReading
variable_reading process code =
    let variable = variable_of_code process code in
    record {
      code = code;
      classification = variable.classification;
      unit = variable.unit;
      value = variable.value;
      status = variable.status;
    }
