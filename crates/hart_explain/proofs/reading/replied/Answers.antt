use Rattle.hart_explain.proofs.lemmas.Rows.{rows-fit}
use Rattle.hart_explain.proofs.reading.replied.Goals as goal

pub taken-requires : goal.taken-requires
taken-requires c = rw c.reply_rows.ensures (rows-fit c.args.command).1
