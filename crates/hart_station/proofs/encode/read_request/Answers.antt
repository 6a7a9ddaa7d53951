use Rattle.hart_station.specs.Encode.IsFirstBad.{bad_who, bad_address, bad_command, bad_data}
use Rattle.hart_station.proofs.encode.read_request.Goals as goal

pub returns-in_default : goal.returns-in_default
returns-in_default c = rw (← c.words.view_is, ← c.as_bytes.ensures.value) (bad_who c.in_default.ensures)

pub returns-in_default-read_address : goal.returns-in_default-read_address
returns-in_default-read_address c =
    rw (← c.words.view_is, ← c.as_bytes.ensures.value, ← c.as_bytes-2.ensures.value)
    (bad_address _ c.in-Some.ensures c.in_default-read_address.ensures)

pub returns-in_default-read_command : goal.returns-in_default-read_command
returns-in_default-read_command c =
    rw (← c.words.view_is, ← c.as_bytes.ensures.value, ← c.as_bytes-2.ensures.value, ← c.as_bytes-3.ensures.value)
    (bad_command _ _ c.in-Some.ensures c.in-Some-read_address.ensures c.in_default-read_command.ensures)

pub returns-in_default-read_data : goal.returns-in_default-read_data
returns-in_default-read_data c =
    rw (
      ← c.words.view_is,
      ← c.as_bytes.ensures.value,
      ← c.as_bytes-2.ensures.value,
      ← c.as_bytes-3.ensures.value,
      ← c.as_bytes-4.ensures.value,
    )
    (bad_data _ _ _ c.in-Some.ensures c.in-Some-read_address.ensures c.in-Some-read_command.ensures c.in_default-read_data.ensures)
