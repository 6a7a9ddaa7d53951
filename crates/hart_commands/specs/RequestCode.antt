-- The response code of a request (HCF_SPEC-127; implementation choice: the order of the codes).
use Rattle.std.specs.Prelude.{ℕ, ◌==◌, ◌||◌, ◌&&◌, if◌then◌else◌, Bool, true, false, List, [], ◌∷◌, Ok, Err, Some}
use Rattle.hart_commands.specs.declared.register.Register.{Register}
use Rattle.hart_commands.specs.declared.request.Request.{Request}
use Rattle.hart_commands.specs.declared.request.Request.TheVariants.{ResetChanged}
use Rattle.hart_commands.specs.Commands.{written_by}
use Rattle.hart_commands.specs.RequestData.{Reading}

-- Whether a list has at least one register.
abbrev pub are_some : List Register → Bool
are_some [] = false
are_some (register ∷ registers) = true

-- Whether a command is a configuration write: it writes a register.
abbrev pub is_write : ℕ → Bool
is_write command = are_some (written_by command)

-- The code of a request with good data. It is 9 for Command 38 with a counter that is not the device's counter, and 0 for any other
-- request.
abbrev pub counter_code : Request → ℕ → ℕ
counter_code (ResetChanged (Some given)) counter = if given == counter then 0 else 9
counter_code _ counter = 0

-- The response code for the data of a request: for bad data the code that refuses them, and for good data the code of their request, which
-- depends on the device's counter.
abbrev pub data_code : Reading → ℕ → ℕ
data_code (Err code) counter = code
data_code (Ok request) counter = counter_code request counter

-- The response code of a request. The first reason that applies refuses the request: an unknown command, too few data bytes, a write to a
-- protected device, other bad data, a wrong counter. If no reason applies, the code is 0.
abbrev pub request_code : ℕ → Reading → Bool → ℕ → ℕ
request_code command reading protected counter =
    let code = data_code reading counter in
    if (code == 64) || (code == 5) then code
    else if protected && is_write command then 7
    else code
