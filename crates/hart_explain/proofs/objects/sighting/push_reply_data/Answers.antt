use Rattle.std.proofs.Common.{drop}
use Rattle.hart_explain.specs.Reading.{reading_of_reply, seen_reading}
use Rattle.hart_explain.proofs.lemmas.SightingLengths.{same-reading-fits}
use Rattle.hart_explain.proofs.objects.sighting.push_reply_data.Goals as goal

pub returns-clause-few : goal.returns-clause-few
returns-clause-few c =
    let payload = c.args.payload.now in
    same-reading-fits c.args.command (drop 2 payload) (seen_reading c.read_reply-reading.result) (reading_of_reply c.args.command payload)
    12000 c.read_reply-reading.ensures.reading (c.read_reply-reading.ensures.members c.requires.few)
