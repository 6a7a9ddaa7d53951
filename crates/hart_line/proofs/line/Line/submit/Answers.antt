use Rattle.hart_line.proofs.Common.{◌≡◌, Option, [], ◌∷◌, ◌++◌, length, refl, arith, of_master, with_master, Address, MasterId, Request}
use Rattle.hart_line.proofs.Common.{MasterFault, Outcome, Submit, LineState, Stands, Stepped, AreHeld, Submits, submission_fault, submitted}
use Rattle.hart_line.proofs.Common.{Start, World}
use Rattle.hart_line.specs.declared.line.masters.Masters.{Masters}
use Rattle.hart_line.proofs.lemmas.line.Turn.{silent_step}
use Rattle.hart_line.proofs.line.Line.submit.Goals as goal

submitted_steps : (start : Start) (world : World) (who : MasterId) (address : Address) (request : Request)
    (fault : Option MasterFault) (outcome : Outcome) (line : LineState) (masters : Masters)
    → fault ≡ submission_fault (of_master who world.hands) address request → line.spoken ≡ [] → Stands start world line
    → Submits (of_master who world.hands) (length line.outcomes) address request fault outcome
    (λ left. AreHeld start.retries (with_master who left world.hands) masters)
    → Stepped start world (Submit who address request) (record line { masters = masters; outcomes = line.outcomes ++ outcome ∷ [] })
submitted_steps start world who address request fault outcome line masters is silent s submits =
    silent_step start world (submitted world who address request fault) _ _ (rw is refl) (grind arith) silent (grind arith)

pub returns-clause-stepped : goal.returns-clause-stepped
returns-clause-stepped g c = λ process start world same within stands.
    rw (c.push.ensures, c.first_outcome-outcome.ensures) (submitted_steps start world c.args.who c.args.address
    c.args.request.now _ _ _ c.submit-fault.new.self refl
    (rw (← c.self.view_is) at c.requires.room.nothing_spoken) (rw (← c.self.view_is) at stands)
    (rw c.len-place.ensures at (c.submit-fault.ensures.submits start.retries world.hands (rw (← c.self.view_is) at stands.masters_are))))
