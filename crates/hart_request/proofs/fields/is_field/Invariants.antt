use Rattle.std.proofs.Common.{◌≡◌, drop, map}
use Rattle.std.specs.List.{list_any}
use Rattle.std.specs.Str.{bytes_eq}
use Rattle.hart_commands.specs.Fields.{seen}
use Rattle.hart_request.proofs.fields.is_field.Given as goal

-- no row so far has the name
abbrev pub invariant-loop-row : goal.invariant-loop-row
invariant-loop-row l =
    list_any (λ row. bytes_eq l.name row.name) (map seen l.rows)
    ≡ list_any (λ row. bytes_eq l.name row.name) (map seen (drop l.row-index l.rows))
