use Rattle.std.proofs.Common.{rules}
use Rattle.hart_master.proofs.master.Master.receive.Goals as goal

pub returns-clause-nothing : goal.returns-clause-nothing
returns-clause-nothing c = λ nothing. absurd (nothing c.in-Some.reply (search rules))
