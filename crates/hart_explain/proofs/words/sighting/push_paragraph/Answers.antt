use Rattle.hart_frame.specs.heard.Frames.{moved}
use Rattle.hart_frame.specs.wire.View.{found_of}
use Rattle.hart_explain.proofs.lemmas.SightingLengths.{paragraph-fits}
use Rattle.hart_explain.proofs.words.sighting.push_paragraph.Goals as goal

pub returns-clause-few : goal.returns-clause-few
returns-clause-few c =
    let few = rw c.expansion.ensures.expansion at c.expansion.ensures.fits in
    let payload = rw (c.kind.ensures, c.command.ensures, c.payload.ensures.payload) at c.push_payload.ensures.few in
    paragraph-fits c.args.before (moved c.args.first (found_of c.args.found.now)) c.push_message_line.ensures.few few payload
