use Rattle.hart_cli.proofs.lemmas.explain.Grow.{one_heard, one_text}
use Rattle.hart_cli.proofs.calls.explain.one_explanation.Goals as goal

pub returns : goal.returns
returns c style is_raw input ending f g xs ys p q =
    let same = one_heard is_raw input ending p.heard q.heard f g p.has q.has in
    (same.1, one_text style p.heard q.heard xs ys same.0 p.is_text q.is_text)
