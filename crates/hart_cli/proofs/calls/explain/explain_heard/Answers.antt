use Rattle.std.proofs.Common.{◌≡◌, ◌+◌, ◌∙◌, drop, false, refl, arith}
use Rattle.std.proofs.lemmas.Grind.{common_steps}
use Rattle.std.proofs.lemmas.List.{take_rest}
use Rattle.std.proofs.lemmas.Result.{err_from_is_err_and}
use Rattle.hart_text.specs.Heard.{NothingBegins, ReadsHeard}
use Rattle.hart_text.proofs.lemmas.Heard.{heard_laws, nothing_open}
use Rattle.hart_text.specs.Items.{Opens}
use Rattle.hart_cli.specs.explain.Explanation.{IsDecidedIn}
use Rattle.hart_cli.specs.input.Decoding.{heard_decoding, most_heard_ahead}
use Rattle.hart_cli.specs.input.Input.{stream_limit}
use Rattle.hart_cli.specs.input.LiveInput.{IsDecidedText, WroteInTime}
use Rattle.hart_cli.proofs.calls.explain.explain_heard.Given.{Over}
use Rattle.hart_cli.proofs.calls.explain.explain_heard.Goals.{After-write}
use Rattle.hart_cli.specs.explain.Printer.{PrintedBetween}
use Rattle.hart_listen.specs.Teller.{moment}
use Rattle.hart_listen.proofs.lemmas.Laws.{tellers_are_told_what_is_heard}
use Rattle.hart_cli.proofs.lemmas.explain.Printer.{prints_page}
use Rattle.hart_cli.proofs.lemmas.explain.Input.{HeardUpTo, heard_nothing, heard_outcome, heard_step, places_fit, stops_up_to}
use Rattle.hart_cli.proofs.lemmas.input.Decoded.{more_read, read_on, rest_within}
use Rattle.hart_cli.proofs.calls.explain.explain_heard.Goals as goal

pub loop-ahead-init : goal.loop-ahead-init
loop-ahead-init g c =
    rw c.new-ahead.ensures (record {
      buffer_length = grind (arith, common_steps);
      heard = heard_nothing _ _ c.args.style c.new-listener.result _ c.new-listener.ensures.told c.new-listener.ensures.waiting
          c.new-2.ensures refl;
      quiet = c.new-2.ensures.quiet;
      unfailed = c.new-2.ensures.unfailed;
      within = omega arith;
      short = omega arith;
      is_open = nothing_open;
    })

pub hear_text-place-requires-clause-places : goal.hear_text-place-requires-clause-places
hear_text-place-requires-clause-places g c =
    let loop = c.loop-ahead.invariant in
    let fits = places_fit _ _ c.args.style c.loop-ahead.listener c.loop-ahead.printer _ _ c.loop-ahead.read _ _ loop.heard in
    omega (arith, fits, c.as_slice.ensures.fits)

-- what was read was heard, and its text was written unless a write failed
heard : (g : Over) (c : After-write g)
    → (now : HeardUpTo (g.R.Source.stream c.args.reader.now) (g.R.Source.stream c.read_ahead-portion.new.reader)
    c.read_ahead-portion.result.end (drop c.hear_text-place.result c.read_ahead-portion.new.ahead)
    (c.loop-ahead.read + c.read_ahead-portion.result.len) c.args.style c.hear_text-place.new.self
    (record c.hear_text-place.new.teller { page = c.write.new.self })
    (g.W.Sink.stream c.args.writer.now) (g.W.Sink.stream c.write.new.writer))
    × WroteInTime (IsDecidedText heard_decoding (IsDecidedIn c.args.style)) now.input
    (g.W.Sink.stream c.args.writer.now) (g.W.Sink.stream c.write.new.writer)
heard g c =
    let loop = c.loop-ahead.invariant in
    let text = rw c.as_slice.ensures.value at c.hear_text-place.ensures in
    let few = rw c.as_slice.ensures.value at c.as_slice.ensures.fits in
    let start = moment (record c.loop-ahead.printer { style = c.args.style }) c.args.writer.now in
    let since = moment c.loop-ahead.printer c.loop-ahead.writer in
    let prints = tellers_are_told_what_is_heard (PrintedBetween g.W.Sink.stream) c.loop-ahead.listener c.hear_text-place.new.self _ _
    _ _ text.hears.hears start since _ _ loop.heard.prints.1 loop.heard.prints.2 in
    heard_step _ _ _ _ _ _ c.args.style c.loop-ahead.listener _ c.loop-ahead.printer _ _ _ _ c.loop-ahead.read
    c.read_ahead-portion.result text.hears.heard loop.heard loop.quiet loop.unfailed loop.is_open c.read_ahead-portion.ensures.reads few
    text.stops text.hears.reads
    (prints_page false c.args.style _ _ c.hear_text-place.new.self _ _ _ _ _ refl c.write.ensures.takes prints)
    text.waiting

pub returns-in_err-write : goal.returns-in_err-write
returns-in_err-write g c =
    let (now, in_time) = heard g (goal.at.returns-in_err-write g c).After-write in
    let stop = err_from_is_err_and c.from_residual.result c.from_residual.ensures.1 in
    rw (stop.1, stop.2)
    (stops_up_to _ _ _ _ c.args.style _ _ _ _ _ now in_time c.in_err-write.ensures.failed)

pub next_heard_step-requires-clause-within : goal.next_heard_step-requires-clause-within
next_heard_step-requires-clause-within g c =
    let now = heard g (goal.at.next_heard_step-requires-clause-within g c).After-write in
    rw (take_rest, c.as_slice-in-loop-ahead.ensures.value)
    (rest_within ReadsHeard NothingBegins most_heard_ahead heard_laws stream_limit _ _ _ _ _ now.0.input now.0.heard now.0.decoded)

pub finish-requires-clause-waiting : goal.finish-requires-clause-waiting
finish-requires-clause-waiting g c =
    let (now, in_time) = heard g (goal.at.finish-requires-clause-waiting g c).After-write in now.waiting

pub finish-requires-clause-places : goal.finish-requires-clause-places
finish-requires-clause-places g c =
    let (now, in_time) = heard g (goal.at.finish-requires-clause-places g c).After-write in
    omega (arith, places_fit _ _ c.args.style _ _ _ _ _ _ _ now)

pub returns-in-Stop : goal.returns-in-Stop
returns-in-Stop g c =
    let (now, in_time) = heard g (goal.at.returns-in-Stop g c).After-write in
    let start = moment (record c.loop-ahead.printer { style = c.args.style }) c.args.writer.now in
    let since = moment c.loop-ahead.printer c.write.new.writer in
    heard_outcome _ _ _ _ _ c.args.style _ _ _ _ _ c.in-Stop.fault c.finish.result now in_time
    (rw (take_rest, c.as_slice-in-loop-ahead.ensures.value) at c.in-Stop.ensures.step) (c.finish.ensures start since now.heard now.prints)

pub loop-ahead-smaller : goal.loop-ahead-smaller
loop-ahead-smaller g c =
    let on = read_on (Opens NothingBegins) c.read_ahead-portion.result.end _ _ c.in-ReadOn.ensures.step in
    let more = more_read _ _ _ _ _ c.read_ahead-portion.result c.read_ahead-portion.ensures.reads on.0 in
    omega (arith, more.0, more.1)

pub loop-ahead-preserved : goal.loop-ahead-preserved
loop-ahead-preserved g c =
    let (now, in_time) = heard g (goal.at.loop-ahead-preserved g c).After-write in
    let step = rw (take_rest, c.as_slice-in-loop-ahead.ensures.value) at c.in-ReadOn.ensures.step in
    let on = read_on (Opens NothingBegins) c.read_ahead-portion.result.end _ _ step in
    let more = more_read _ _ _ _ _ c.read_ahead-portion.result c.read_ahead-portion.ensures.reads on.0 in
    let kept : c.extend_from_slice.new.self ≡ drop c.hear_text-place.result c.read_ahead-portion.new.ahead =
    grind (arith, common_steps, take_rest, c.unwrap-open.ensures, c.from_slice.ensures.kept) in
    rw kept (record {
      buffer_length = c.read_ahead-portion.ensures.kept ∙ c.loop-ahead.invariant.buffer_length;
      heard = rw on.0 at now;
      quiet = c.in_ok-write.ensures.quiet;
      unfailed = c.in_ok-write.ensures.failed;
      within = omega (arith, more.1, c.loop-ahead.invariant.within);
      short = rw (take_rest, c.as_slice-in-loop-ahead.ensures.value) at (c.next_heard_step.ensures.short c.in-ReadOn.is);
      is_open = on.1;
    })
