use Rattle.std.proofs.Common.{arith}
use Rattle.hart_explain.specs.Reading.{reading_of_request, seen_reading}
use Rattle.hart_explain.proofs.lemmas.SightingLengths.{same-reading-fits}
use Rattle.hart_explain.proofs.objects.sighting.push_payload.Goals as goal

pub returns-in-Stx-clause-few : goal.returns-in-Stx-clause-few
returns-in-Stx-clause-few c =
    let bytes = c.args.payload.now in
    let few =
    same-reading-fits c.args.command bytes (seen_reading c.read_request.result) (reading_of_request c.args.command bytes) 12000
    c.read_request.ensures.reading (c.read_request.ensures.members c.requires.few) in rw c.in-Stx.is (omega (arith, few))

pub push_reply-requires-clause-long_enough : goal.push_reply-requires-clause-long_enough
push_reply-requires-clause-long_enough c = rw c.in-Ack.is at c.requires.long_enough
