use Rattle.hart_commands.proofs.lemmas.Laws.{requests_have_their_command}
use Rattle.hart_c.proofs.reply.accept_frame.Goals as goal

pub returns-clause-accepted : goal.returns-clause-accepted
returns-clause-accepted c =
    let (address, (expansion, (payload, (asked, (may, end))))) = c.in_ok-request.ensures.passed in
    let judged = rw (c.in_ok-request.ensures.same, c.in_ok-frame.ensures.same) at c.judged.ensures in
    let told = judged asked.0 (requests_have_their_command _ _ asked.0 asked.1.reading).0 in (
      told.0,
      record {
        passed = (address, (expansion, (payload, (asked, (may, c.in_ok-frame.ensures.frame)))));
        request = asked.0;
        asked = asked.1;
        judged = told.1;
      },
      told.2,
    )
