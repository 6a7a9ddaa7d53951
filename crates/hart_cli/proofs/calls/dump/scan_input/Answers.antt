use Rattle.std.proofs.Common.{◌≡◌, ◌+◌, [], ◌++◌, refl, ◌∙◌, arith}
use Rattle.std.proofs.KnownBytes.{Appends-nil, Consumes-nil}
use Rattle.std.proofs.lemmas.Grind.{common_steps}
use Rattle.std.proofs.lemmas.Result.{err_from_is_err_and}
use Rattle.hart_text.specs.Items.{nothing, MayBegin, NoPieceBegins, ReadsUpTo}
use Rattle.hart_text.proofs.lemmas.Items.{item_laws, NoPieceBegins-nil, ReadsUpTo-few}
use Rattle.hart_text.proofs.lemmas.Reads.{may_begin-nil}
use Rattle.hart_cli.specs.dump.Dump.{AreDecidedLines}
use Rattle.hart_station.specs.Station.{input_limit}
use Rattle.hart_cli.specs.input.Decoding.{item_decoding, most_ahead}
use Rattle.hart_cli.specs.input.LiveInput.{IsDecidedText, WroteInTime}
use Rattle.hart_cli.proofs.calls.dump.scan_input.Given.{Over}
use Rattle.hart_cli.proofs.calls.dump.scan_input.Goals.{After-hear_text-rest}
use Rattle.hart_cli.proofs.lemmas.Writes.{WritesAll-on, in_time_on}
use Rattle.hart_cli.proofs.lemmas.dump.FrameLines.{has_long, has_nothing, waits_nothing}
use Rattle.hart_cli.proofs.lemmas.dump.ScanInput.{HeardUpTo, heard_places, heard_step, hears_all, stopped_writing}
use Rattle.hart_cli.proofs.lemmas.input.Decoded.{more_read, read_on, rest_within}
use Rattle.hart_cli.proofs.calls.dump.scan_input.Goals as goal

pub loop-frames-init : goal.loop-frames-init
loop-frames-init g c =
    rw (c.requires.lines, c.requires.held, c.requires.first, c.new-ahead.ensures) (record {
      buffer_length = grind (arith, common_steps);
      text = [];
      heard = record {
        input = [];
        chars = [];
        decoded = record {
          came = ((Consumes-nil _, refl), omega arith);
          count = refl;
          reads = nothing [];
          no_piece = NoPieceBegins-nil;
          few = omega arith;
          still_open = λ is. cc is;
        };
        has = has_nothing;
        waiting = waits_nothing;
      };
      wrote = (Appends-nil _, refl);
      none_kept = refl;
      within = omega arith;
      short = omega arith;
      may_begin = may_begin-nil;
    })

pub hear_text-rest-requires : goal.hear_text-rest-requires
hear_text-rest-requires g c =
    let heard = c.loop-frames.invariant.heard in
    let long = has_long heard.chars c.loop-frames.frames.first c.loop-frames.frames.held _ heard.has in
    grind (arith, common_steps, ReadsUpTo-few)

-- after each step, the characters that were read are heard
heard : (g : Over) (c : After-hear_text-rest g)
    → (now : HeardUpTo (g.R.Source.stream c.args.reader.now) (g.R.Source.stream c.read_ahead-portion.new.reader)
    c.hear_text-rest.new.self.first c.hear_text-rest.new.self.held c.read_ahead-portion.result.end c.hear_text-rest.result.now
    (c.loop-frames.read + c.read_ahead-portion.result.len)
    (c.loop-frames.invariant.text ++ c.hear_text-rest.new.self.lines))
    × WroteInTime (IsDecidedText item_decoding AreDecidedLines) now.input (g.W.Sink.stream c.args.writer.now)
    (g.W.Sink.stream c.loop-frames.writer)
heard g c =
    let loop = c.loop-frames.invariant in
    let hear = rw c.as_slice.ensures.value at c.hear_text-rest.ensures in
    let few = rw c.as_slice.ensures.value at c.as_slice.ensures.fits in
    heard_step _ _ _ _ _ c.loop-frames.frames c.hear_text-rest.new.self _ _ _ _ _ _ loop.heard loop.none_kept loop.wrote
    loop.may_begin c.read_ahead-portion.ensures.reads few hear.stops hear.hears hear.waiting

pub next_step-requires-clause-within : goal.next_step-requires-clause-within
next_step-requires-clause-within g c =
    let now = heard g (goal.at.next_step-requires-clause-within g c).After-hear_text-rest in
    rest_within ReadsUpTo NoPieceBegins most_ahead item_laws input_limit _ _ _ _ _ now.0.input now.0.chars now.0.decoded

pub returns-in_err-write_all : goal.returns-in_err-write_all
returns-in_err-write_all g c =
    let now = heard g (goal.at.returns-in_err-write_all g c).After-hear_text-rest in
    rw (err_from_is_err_and c.from_residual.result c.from_residual.ensures.1).1
    (stopped_writing _ _ _ _ _ _ _ _ _ _ _ _ now.0 c.loop-frames.invariant.wrote now.1
    (rw c.as_slice-in-loop-frames.ensures.value at c.in_err-write_all.ensures))

pub returns-in-Stop : goal.returns-in-Stop
returns-in-Stop g c =
    let now = heard g (goal.at.returns-in-Stop g c).After-hear_text-rest in
    let wrote = rw c.as_slice-in-loop-frames.ensures.value at c.in_ok-write_all.ensures in
    let hear = rw c.as_slice.ensures.value at c.hear_text-rest.ensures in
    let few = rw c.as_slice.ensures.value at c.as_slice.ensures.fits in
    let places = heard_places _ _ c.loop-frames.frames c.hear_text-rest.new.self _ _ _ _ _ c.loop-frames.invariant.heard few hear.hears in
    rw c.clear.ensures (hears_all _ _ _ _ _ _ _ _ _ _ now.0 places refl (WritesAll-on _ _ _ _ _ c.loop-frames.invariant.wrote wrote)
    (in_time_on _ _ _ _ _ _ now.1 wrote.0) c.in-Stop.ensures.step)

pub loop-frames-preserved : goal.loop-frames-preserved
loop-frames-preserved g c =
    let kept : c.extend_from_slice.new.self ≡ c.hear_text-rest.result.now =
    grind (arith, common_steps, c.unwrap-open.ensures, c.from_slice.ensures.kept) in
    let on = read_on MayBegin c.read_ahead-portion.result.end _ _ c.in-ReadOn.ensures.step in
    let more = more_read _ _ _ _ _ c.read_ahead-portion.result c.read_ahead-portion.ensures.reads on.0 in
    let now = heard g (goal.at.loop-frames-preserved g c).After-hear_text-rest in
    let wrote = rw c.as_slice-in-loop-frames.ensures.value at c.in_ok-write_all.ensures in
    rw (kept, c.clear.ensures) (record {
      buffer_length = c.read_ahead-portion.ensures.kept ∙ c.loop-frames.invariant.buffer_length;
      text = _;
      heard = rw on.0 at now.0;
      wrote = WritesAll-on _ _ _ _ _ c.loop-frames.invariant.wrote wrote;
      none_kept = refl;
      within = omega (arith, more.1, c.loop-frames.invariant.within);
      short = c.next_step.ensures.short c.in-ReadOn.is;
      may_begin = on.1;
    })
