use Rattle.std.proofs.Common.{refl}
use Rattle.std.proofs.lemmas.Option.{slice_get-map, slice_get_past}
use Rattle.hart_commands.specs.Fields.{seen}
use Rattle.hart_request.proofs.fault.name_at.Goals as goal

pub returns-in-None : goal.returns-in-None
returns-in-None c =
    rw (
      ← c.request_rows.ensures,
      slice_get-map seen c.request_rows.result.now c.args.field,
      slice_get_past c.request_rows.result.now c.args.field c.in-None.ensures.lookup.3,
    ) refl
