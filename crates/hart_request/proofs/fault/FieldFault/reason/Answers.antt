use Rattle.std.proofs.Common.{ap, ◌≡◌, ◌≤◌, ℕ, zero, suc, true, List, [], ◌∷◌, arith, length}
use Rattle.std.proofs.Common.{slice_get}
use Rattle.std.proofs.lemmas.Bool.{and_parts}
use Rattle.std.specs.List.{list_all}
use Rattle.std.specs.Option.{option_map_or}
use Rattle.hart_commands.specs.Commands.{request_rows}
use Rattle.hart_commands.specs.Fields.{Row}
use Rattle.hart_commands.specs.WellMade.{is_well_made}
use Rattle.hart_commands.proofs.lemmas.WellMade.{request_rows-are, row-is, rows-are, the_table_is_well_made-requests}
use Rattle.hart_request.specs.FaultText.{name_at}
use Rattle.hart_request.proofs.fault.FieldFault.reason.Goals as goal

-- the name in words of each row that is well made is short
short_at : (rows : List Row) (k : ℕ) → list_all is_well_made rows ≡ true
    → length (option_map_or (λ row. row.words) (slice_get rows k) []) ≤ 40
short_at [] k all = omega arith
short_at (row ∷ rows) zero all =
    let known = row-is row (and_parts (is_well_made row) (list_all is_well_made rows) all).0 in
    omega (arith, known.words_long, known.name_short)
short_at (row ∷ rows) (suc k) all = short_at rows k (and_parts (is_well_made row) (list_all is_well_made rows) all).1

-- the name of each field of a command is short
name_short : (command field : ℕ) → length (name_at command field) ≤ 40
name_short command field =
    let made = (request_rows-are (request_rows command) (the_table_is_well_made-requests command)).0 in
    short_at (request_rows command) field (rows-are (request_rows command) made).1

pub worded-requires : goal.worded-requires
worded-requires c = let name = ap length c.name_at.ensures in omega (arith, name, name_short c.in-Missing.command c.in-Missing.field)
