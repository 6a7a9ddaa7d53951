use Rattle.std.proofs.Common.{◌≡◌, drop, length, map}
use Rattle.hart_commands.specs.Fields.{bytes_of, fields_of, seen}
use Rattle.hart_explain.proofs.fields.after_fields.Given as goal

abbrev pub invariant-loop-row : goal.invariant-loop-row
invariant-loop-row l =
    drop (length (bytes_of (fields_of (map seen (drop l.row-index l.rows)) l.rest))) l.rest
    ≡ drop (length (bytes_of (fields_of (map seen l.rows) l.bytes))) l.bytes
