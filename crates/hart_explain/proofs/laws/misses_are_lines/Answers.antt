use Rattle.hart_explain.proofs.lemmas.OneLine.{misses_are_lines-one, misses_are_lines-second}
use Rattle.hart_explain.proofs.laws.misses_are_lines.Goals as goal

pub returns-clause-one : goal.returns-clause-one
returns-clause-one c = misses_are_lines-one

pub returns-clause-second : goal.returns-clause-second
returns-clause-second c = misses_are_lines-second
