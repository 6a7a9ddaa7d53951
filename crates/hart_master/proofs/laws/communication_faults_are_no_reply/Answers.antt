use Rattle.hart_master.proofs.lemmas.Laws.{communication_faults_are_no_reply-frame}
use Rattle.hart_master.proofs.laws.communication_faults_are_no_reply.Goals as goal

pub returns-clause-delivery : goal.returns-clause-delivery
returns-clause-delivery c = λ id address request delivery found reply alone above accepted.
    communication_faults_are_no_reply-frame id address request found.frame reply above
    (c.acceptance_is_decided.ensures.by_its_frame id address request delivery found reply alone accepted)
