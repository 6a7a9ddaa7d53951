use Rattle.hart_frame.specs.heard.Frames.{moved}
use Rattle.hart_frame.specs.wire.View.{found_of}
use Rattle.hart_explain.proofs.lemmas.SightingLengths.{message-line-fits}
use Rattle.hart_explain.proofs.words.sighting.push_message_line.Goals as goal

pub returns-clause-few : goal.returns-clause-few
returns-clause-few c =
    let header = rw (c.kind.ensures, c.master.ensures, c.address.ensures, c.command.ensures) at c.push_header.ensures.few in
    let sending = rw c.kind-2.ensures at c.push_sending.ensures.few in
    message-line-fits c.args.before (moved c.args.first (found_of c.args.found.now)) c.push_number.ensures.few c.push_number-2.ensures.few
    header sending
