use Rattle.std.proofs.Common.{◌≡◌, ◌≤◌, ◌∙◌, false, refl, arith, length, length-take, take, ◌+◌}
use Rattle.std.proofs.lemmas.Result.{err_from_is_err_and}
use Rattle.hart_cli.specs.explain.Explanation.{IsDecidedIn}
use Rattle.hart_cli.specs.input.Decoding.{raw_decoding, raw_limit}
use Rattle.hart_cli.specs.input.Input.{most_at_once}
use Rattle.hart_cli.specs.input.LiveInput.{IsDecidedText, WroteInTime}
use Rattle.hart_cli.proofs.calls.explain.explain_bytes.Given.{Over}
use Rattle.hart_cli.proofs.calls.explain.explain_bytes.Goals.{After-read_portion-portion, After-write}
use Rattle.hart_cli.specs.explain.Printer.{PrintedBetween}
use Rattle.hart_listen.specs.Teller.{moment}
use Rattle.hart_listen.proofs.lemmas.Laws.{tellers_are_told_what_is_heard}
use Rattle.hart_cli.proofs.lemmas.explain.Printer.{prints_page}
use Rattle.hart_cli.proofs.lemmas.explain.Input.{RawUpTo, raw_few, raw_more, raw_nothing, raw_outcome, raw_step, raw_stopped}
use Rattle.hart_cli.proofs.calls.explain.explain_bytes.Goals as goal

pub loop-end-init : goal.loop-end-init
loop-end-init g c = record {
  buffer_length = refl;
  heard = raw_nothing _ _ c.args.style c.new-listener.result _ c.new-listener.ensures.told c.new-listener.ensures.waiting c.new-2.ensures
      refl;
  places = rw c.new-listener.ensures.held (omega (arith, c.new-listener.ensures.first));
  quiet = c.new-2.ensures.quiet;
  unfailed = c.new-2.ensures.unfailed;
  within = omega arith;
}

-- no more was read than the limit allows
within : (g : Over) (c : After-read_portion-portion g)
    → c.loop-end.read + length (take c.read_portion-portion.result.len c.read_portion-portion.new.buffer) ≤ raw_limit
within g c =
    raw_few _ _ _ _ _ c.args.style _ _ c.loop-end.read _ c.read_portion-portion.result.end c.loop-end.invariant.heard
    c.read_portion-portion.ensures.reads

pub hear_bytes-requires-clause-places : goal.hear_bytes-requires-clause-places
hear_bytes-requires-clause-places g c =
    omega (arith, c.loop-end.invariant.places, within g (goal.at.hear_bytes-requires-clause-places g c).After-read_portion-portion)

-- one read gives no more bytes than the buffer has
few : (g : Over) (c : After-read_portion-portion g)
    → (length (take c.read_portion-portion.result.len c.read_portion-portion.new.buffer) ≤ most_at_once)
    × (c.read_portion-portion.result.len ≡ length (take c.read_portion-portion.result.len c.read_portion-portion.new.buffer))
few g c =
    let within = c.read_portion-portion.ensures.within in
    let long = length-take c.read_portion-portion.result.len c.read_portion-portion.new.buffer in
    let kept = c.read_portion-portion.ensures.kept ∙ c.loop-end.invariant.buffer_length in
    (omega (arith, within, long, kept), omega (arith, within, long))

pub overflow_add-read : goal.overflow_add-read
overflow_add-read g c =
    let read = (goal.at.overflow_add-read g c).After-read_portion-portion in omega (arith, (few g read).1, within g read)

-- what was read was heard, and its text was written unless a write failed
heard : (g : Over) (c : After-write g)
    → (now : RawUpTo (g.R.Source.stream c.args.reader.now) (g.R.Source.stream c.read_portion-portion.new.reader)
    c.read_portion-portion.result.end (c.loop-end.read + c.read_portion-portion.result.len)
    c.args.style c.hear_bytes.new.self (record c.hear_bytes.new.teller { page = c.write.new.self })
    (g.W.Sink.stream c.args.writer.now) (g.W.Sink.stream c.write.new.writer))
    × WroteInTime (IsDecidedText raw_decoding (IsDecidedIn c.args.style)) now.input (g.W.Sink.stream c.args.writer.now)
    (g.W.Sink.stream c.write.new.writer)
heard g c =
    let one = few g (goal.at.After-write g c).After-read_portion-portion in
    let loop = c.loop-end.invariant in
    let start = moment (record c.loop-end.printer { style = c.args.style }) c.args.writer.now in
    let since = moment c.loop-end.printer c.loop-end.writer in
    let prints = tellers_are_told_what_is_heard (PrintedBetween g.W.Sink.stream) c.loop-end.listener c.hear_bytes.new.self _ _ _ _
    c.hear_bytes.ensures.hears start since _ _ loop.heard.prints.1 loop.heard.prints.2 in
    raw_step _ _ _ _ _ _ c.args.style c.loop-end.listener _ c.loop-end.printer _ c.loop-end.read c.read_portion-portion.result.len _
    c.read_portion-portion.result.end one.1 loop.heard loop.quiet loop.unfailed c.read_portion-portion.ensures.reads one.0
    (prints_page false c.args.style _ _ c.hear_bytes.new.self _ _ _ _ _ refl c.write.ensures.takes prints)
    c.hear_bytes.ensures.waiting

-- each byte of a raw input is one character
places : (g : Over) (c : After-write g)
    → c.hear_bytes.new.self.first + length c.hear_bytes.new.self.held ≡ c.loop-end.read + c.read_portion-portion.result.len
places g c =
    let one = few g (goal.at.After-write g c).After-read_portion-portion in
    omega (arith, c.hear_bytes.ensures.long, c.loop-end.invariant.places, one.1)

pub returns-in_err-write : goal.returns-in_err-write
returns-in_err-write g c =
    let (now, in_time) = heard g (goal.at.returns-in_err-write g c).After-write in
    let stop = err_from_is_err_and c.from_residual.result c.from_residual.ensures.1 in
    rw (stop.1, stop.2)
    (raw_stopped _ _ _ _ c.args.style _ _ _ _ now in_time c.in_err-write.ensures.failed)

pub finish-requires-clause-waiting : goal.finish-requires-clause-waiting
finish-requires-clause-waiting g c =
    let (now, in_time) = heard g (goal.at.finish-requires-clause-waiting g c).After-write in now.waiting

pub finish-requires-clause-places : goal.finish-requires-clause-places
finish-requires-clause-places g c =
    let read = (goal.at.finish-requires-clause-places g c).After-read_portion-portion in
    omega (arith, places g (goal.at.finish-requires-clause-places g c).After-write, within g read, (few g read).1)

pub returns-in-Some : goal.returns-in-Some
returns-in-Some g c =
    let (now, in_time) = heard g (goal.at.returns-in-Some g c).After-write in
    let start = moment (record c.loop-end.printer { style = c.args.style }) c.args.writer.now in
    let since = moment c.loop-end.printer c.write.new.writer in
    raw_outcome _ _ _ _ _ c.args.style _ _ c.read_portion-portion.result.end c.in-Some.end _ c.finish.result c.in-Some.is now in_time
    ((rw c.fault.ensures at c.finish.ensures) start since _ now.prints)

pub loop-end-preserved : goal.loop-end-preserved
loop-end-preserved g c =
    let (now, in_time) = heard g (goal.at.loop-end-preserved g c).After-write in
    let one = few g (goal.at.loop-end-preserved g c).After-read_portion-portion in
    let bytes = take c.read_portion-portion.result.len c.read_portion-portion.new.buffer in
    let more = raw_more (g.R.Source.stream c.loop-end.reader) (g.R.Source.stream c.read_portion-portion.new.reader) bytes c.loop-end.read
    c.read_portion-portion.result.end c.read_portion-portion.ensures.reads c.in_default.is in
    record {
      buffer_length = c.read_portion-portion.ensures.kept ∙ c.loop-end.invariant.buffer_length;
      heard = rw c.in_default.is at now;
      places = places g (goal.at.loop-end-preserved g c).After-write;
      quiet = c.in_ok-write.ensures.quiet;
      unfailed = c.in_ok-write.ensures.failed;
      within = omega (arith, more.1, one.1, c.loop-end.invariant.within);
    }
