use Rattle.std.proofs.Common.{◌≡◌, ◌≤◌, ◌*◌, drop, length, map}
use Rattle.hart_commands.specs.Fields.{seen}
use Rattle.hart_request.specs.Fields.{after_bytes, data_of_fields}
use Rattle.hart_request.proofs.fields.data_of_fields.Given as goal

-- the data are the bytes of the fields so far, and then the bytes of the fields to come
abbrev pub invariant-loop-field : goal.invariant-loop-field
invariant-loop-field l = record {
  few : length l.data ≤ 32 * l.field;
  rest : data_of_fields l.command 0 (map (λ word. word.now) l.words) (map seen l.rows)
      ≡ after_bytes l.data (data_of_fields l.command l.field (map (λ word. word.now) l.words) (map seen (drop l.field l.rows)));
}
