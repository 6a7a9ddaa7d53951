use Rattle.hart_frame.proofs.Common.{[], ◌+◌, ◌<◌, arith, All-from_get_or}
use Rattle.hart_frame.specs.private.Sighting.{IsAsked}
use Rattle.hart_frame.proofs.lemmas.scan.Sighted.{SilentBefore}
use Rattle.hart_frame.proofs.lemmas.scan.NextSeen.{message_seen, message_two, missed_seen, asked_after, open_few, open_seen, passed_all}
use Rattle.hart_frame.proofs.lemmas.scan.NextSeen.{sees, silent_before, silent_on}
use Rattle.hart_frame.proofs.lemmas.scan.Undecided.{open_undecided, undecided_used}
use Rattle.hart_frame.proofs.scan.sighting.next_sighting.Goals as goal
use Rattle.hart_frame.proofs.scan.sighting.next_sighting.Goals.{In-Some}

-- The place that comes next is asked from `from` on, and nothing is seen before it.
here : (c : In-Some) → IsAsked c.args.bytes.now c.args.after c.args.from c.in-Some.start
    × SilentBefore c.args.bytes.now c.args.after c.args.from c.in-Some.start
here c =
    let bytes = c.args.bytes.now in
    let place = c.loop-start.place in
    let (is, least) = c.in-Some.ensures in (
      asked_after bytes c.args.after place c.args.from c.in-Some.start (omega (arith, c.loop-start.invariant.order, is.order)) is,
      silent_before bytes c.args.after c.args.from place c.in-Some.start c.loop-start.invariant.silent
          (λ p asked below. omega (arith, below, least p asked)),
    )

pub loop-start-preserved : goal.loop-start-preserved
loop-start-preserved c =
    let (is, silent) = here (goal.at.loop-start-preserved c).In-Some in record {
      order = omega (arith, is.order);
      within = is.within;
      silent = silent_on c.args.bytes.now c.args.after c.args.from c.in-Some.start silent c.in-Nothing.ensures;
    }

pub returns-in-Open-clause-sightings : goal.returns-in-Open-clause-sightings
returns-in-Open-clause-sightings c =
    let (is, silent) = here (goal.at.returns-in-Open-clause-sightings c).In-Some in
    rw c.none_decided-in-Open.ensures (sees c.args.bytes.now c.args.after c.args.from c.in-Open.used [] c.requires.valid
    (open_seen c.args.bytes.now c.args.after _ _ _ silent is c.in-Open.ensures))

pub returns-in-Open-clause-few : goal.returns-in-Open-clause-few
returns-in-Open-clause-few c = λ none.
    rw c.none_decided-in-Open.ensures
    (open_few c.args.bytes.now c.args.after c.loop-start.place c.args.from c.in-Some.start c.in-Open.used
    (λ i. omega (arith, c.type_inv.bytes i)) c.in-Some.ensures.0 c.in-Open.ensures)

pub returns-in-Open-clause-undecided : goal.returns-in-Open-clause-undecided
returns-in-Open-clause-undecided c =
    λ none more.
    let fit = All-from_get_or (λ byte. byte < 256) c.args.bytes.now 0 (λ i below. omega (arith, c.type_inv.bytes i)) in
    rw c.none_decided-in-Open.ensures
    (open_undecided c.args.bytes.now c.args.after _ c.args.from _ _ fit c.in-Some.ensures.0 more c.in-Open.ensures)

pub returns-in-Message-clause-sightings : goal.returns-in-Message-clause-sightings
returns-in-Message-clause-sightings c =
    let (is, silent) = here (goal.at.returns-in-Message-clause-sightings c).In-Some in
    let two = message_two c.args.bytes.now c.args.after c.args.from _ c.in-Message.layout c.in-Message.ensures in
    let (view, same, at) = c.message_at.ensures.message in
    rw same (message_seen c.args.bytes.now c.args.after _ _ _ view c.requires.valid silent is two at)

pub returns-in-Missed-clause-sightings : goal.returns-in-Missed-clause-sightings
returns-in-Missed-clause-sightings c =
    let (is, silent) = here (goal.at.returns-in-Missed-clause-sightings c).In-Some in
    let (header, same, parts) = c.missed.ensures.miss in
    rw (same, parts, c.missed.ensures.used) (sees c.args.bytes.now c.args.after c.args.from (c.in-Some.start + 1) _ c.requires.valid
    (missed_seen c.args.bytes.now c.args.after _ _ c.in-Missed.miss silent is c.in-Missed.ensures))

pub returns-clause-sightings : goal.returns-clause-sightings
returns-clause-sightings c =
    let silent = silent_before c.args.bytes.now c.args.after c.args.from c.loop-start.place _ c.loop-start.invariant.silent
    (λ p asked below. c.in_default.ensures p asked) in
    rw c.none_decided-2.ensures (sees _ c.args.after c.args.from c.passed.result [] c.requires.valid
    (passed_all c.args.bytes.now _ _ _ silent c.if-from-bytes.false c.passed.ensures))

pub returns-clause-undecided : goal.returns-clause-undecided
returns-clause-undecided c =
    λ none more.
    rw c.none_decided-2.ensures (undecided_used c.args.bytes.now c.args.from c.passed.result (grind arith))
