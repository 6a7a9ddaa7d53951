use Rattle.hart_explain.proofs.lemmas.Rows.{rows-fit}
use Rattle.hart_explain.proofs.reading.refused_request.Goals as goal

pub refused-requires : goal.refused-requires
refused-requires c = rw c.request_rows.ensures (rows-fit c.args.command).0
