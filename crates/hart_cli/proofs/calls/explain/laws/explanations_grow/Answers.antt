use Rattle.hart_cli.proofs.lemmas.explain.Grow.{decided_text, heard_grows, read_grows}
use Rattle.hart_cli.proofs.calls.explain.laws.explanations_grow.Goals as goal

pub returns : goal.returns
returns c = record { one = decided_text; heard = heard_grows; read = read_grows }
