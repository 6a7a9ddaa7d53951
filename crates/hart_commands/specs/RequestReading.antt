-- How the data bytes of a request are read (HCF_SPEC-127). Implementation choice: the meanings of codes 9 and 12, and the order of
-- refusals.
use Rattle.std.specs.Prelude.{ℕ, ◌+◌, ◌*◌, ◌==◌, nat_lt, if◌then◌else◌, List, [], ◌∷◌, length, take, Result, Ok, Err, Some, None}
use Rattle.hart_values.specs.declared.loop_mode.LoopMode.TheVariants.{Disabled, Enabled}
use Rattle.hart_values.specs.hart_date.Calendar.{is_date}
use Rattle.hart_commands.specs.FirstBytes.{having}
use Rattle.hart_commands.specs.Groups.{tag_in, descriptor_in, date_in}
use Rattle.hart_commands.specs.declared.request.Request.{Request}
use Rattle.hart_commands.specs.declared.request.Request.TheVariants.{SetPolling, ReadVariables, WriteTag, ResetChanged}

-- The result of reading data: a request, or the response code that refuses the data.
abbrev pub Reading : Type 0
Reading = Result Request ℕ

-- The request that the first `size` bytes determine. Fewer bytes are refused with code 5.
abbrev pub needing : ℕ → (List ℕ → Request) → List ℕ → Reading
needing size asked = having size (Err 5) (λ xs. Ok (asked xs))

-- Command 6 with an address and a mode. An address above 63 is refused with code 2. Otherwise a mode above 1 is refused with code 12.
abbrev pub polling_with : ℕ → ℕ → Reading
polling_with address mode =
    if nat_lt 63 address then Err 2
    else if mode == 0 then Ok (SetPolling address Disabled)
    else if mode == 1 then Ok (SetPolling address Enabled)
    else Err 12

-- The mode that Command 6 sets if the request has no mode, as from older masters: 1 for address 0, and 0 for every other address.
abbrev pub mode_left_out : ℕ → ℕ
mode_left_out address = if address == 0 then 1 else 0

-- Command 6 needs an address. If a mode follows the address, the command sets this mode.
abbrev pub polling_reading : List ℕ → Reading
polling_reading [] = Err 5
polling_reading (address ∷ []) = polling_with address (mode_left_out address)
polling_reading (address ∷ mode ∷ rest) = polling_with address mode

-- Command 9 needs at least one code of a device variable, and takes at most eight.
abbrev pub codes_reading : List ℕ → Reading
codes_reading [] = Err 5
codes_reading (code ∷ codes) = Ok (ReadVariables (take 8 (code ∷ codes)))

-- Command 18 needs a tag of 6 bytes, a descriptor of 12 bytes and a date of 3 bytes. A request with a bad date is refused with code 9.
abbrev pub tag_reading : List ℕ → Reading
tag_reading bytes =
    if nat_lt (length bytes) 21 then Err 5
    else if is_date (date_in bytes) then Ok (WriteTag (tag_in bytes) (descriptor_in bytes) (date_in bytes))
    else Err 9

-- Command 38 names no counter, or a counter of two bytes, the most significant byte first. A single byte is too few.
abbrev pub reset_reading : List ℕ → Reading
reset_reading [] = Ok (ResetChanged None)
reset_reading (high ∷ []) = Err 5
reset_reading (high ∷ low ∷ rest) = Ok (ResetChanged (Some (256 * high + low)))
