use Rattle.std.proofs.Common.{refl}
use Rattle.hart_station.specs.MasterLines.{new_master}
use Rattle.hart_station.proofs.lemmas.Laws.{sessions_keep_their_promises}
use Rattle.hart_cli.proofs.calls.master.master.Goals as goal

pub returns-in_err-lines-clause-promise : goal.returns-in_err-lines-clause-promise
returns-in_err-lines-clause-promise g c = λ lines after text served.
    sessions_keep_their_promises (new_master c.args.settings) after lines text refl served

pub returns-clause-promise : goal.returns-clause-promise
returns-clause-promise g c = λ lines after text served.
    sessions_keep_their_promises (new_master c.args.settings) after lines text refl served
