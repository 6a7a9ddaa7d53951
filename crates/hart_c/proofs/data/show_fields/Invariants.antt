use Rattle.std.proofs.Common.{◌≡◌, ◌+◌, ◌≤◌, ◌++◌, drop, length, map, take}
use Rattle.hart_commands.specs.Fields.{fields_of, seen}
use Rattle.hart_c.specs.Data.{placed, written_over}
use Rattle.hart_c.proofs.data.show_fields.Given as goal

abbrev pub invariant-loop-row : goal.invariant-loop-row
invariant-loop-row l = record {
  few : l.place + length l.rest ≤ 255;
  within : l.count ≤ l.row-index;
  count : l.count + length (fields_of (map seen (drop l.row-index l.rows)) l.rest) ≡ length (fields_of (map seen l.rows) l.bytes);
  shown : take l.count l.fields
      ++ written_over (placed l.place (fields_of (map seen (drop l.row-index l.rows)) l.rest)) (drop l.count l.fields)
      ≡ written_over (placed l.start (fields_of (map seen l.rows) l.bytes)) l.initial.fields;
}
