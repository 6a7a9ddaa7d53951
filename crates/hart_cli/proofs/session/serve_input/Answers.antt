use Rattle.std.proofs.Common.{◌≡◌, ◌≤◌, ℕ, List, [], length, take, arith, refl, ◌∙◌}
use Rattle.std.proofs.KnownBytes.{Appends-nil, Consumes-nil}
use Rattle.std.proofs.lemmas.Grind.{common_steps}
use Rattle.std.proofs.lemmas.List.Elements.{All-nil}
use Rattle.std.proofs.lemmas.Result.{err_from_is_err_and}
use Rattle.hart_cli.specs.input.Input.{most_at_once}
use Rattle.hart_station.specs.Station.{nothing}
use Rattle.hart_cli.proofs.lemmas.session.Cuts.{cut_rest}
use Rattle.hart_cli.proofs.lemmas.session.Input.{served_end, served_on, stops_saying}
use Rattle.hart_cli.proofs.session.serve_input.Goals as goal

pub loop-end-init : goal.loop-end-init
loop-end-init g c = record {
  buffer_length = grind (arith, common_steps);
  served = record {
    input = [];
    read = (Consumes-nil _, refl);
    left = omega arith;
    parts = [];
    rest = [];
    cut = cut_rest [] (All-nil _);
    keeps = c.requires.keeps;
    said = [];
    serves = nothing _;
    wrote = (Appends-nil _, refl);
  };
  quiet = c.requires.quiet;
}

-- taking `count` bytes of a buffer with at least `count` bytes gives `count` bytes
len_of : (count : ℕ) (buffer : List ℕ) → count ≤ length buffer → length (take count buffer) ≡ count
len_of count buffer within = grind (arith, common_steps)

-- taking bytes of a buffer gives no more than the buffer has
few_of : (count most : ℕ) (buffer : List ℕ) → length buffer ≡ most → length (take count buffer) ≤ most
few_of count most buffer len = grind (arith, common_steps)

pub returns-in_err-serve_more : goal.returns-in_err-serve_more
returns-in_err-serve_more g c =
    let served = c.loop-end.invariant.served in
    let portion = c.read_portion-portion in
    let bytes = take portion.result.len portion.new.buffer in
    let few = few_of portion.result.len most_at_once portion.new.buffer (portion.ensures.kept ∙ c.loop-end.invariant.buffer_length) in
    rw (err_from_is_err_and c.from_residual.result c.from_residual.ensures.1).1
    (stops_saying g.S.Station.serves c.args.server.now.station c.loop-end.server c.loop-end.room _ _ _ _ _ _ bytes portion.result.end served
    portion.ensures.reads few c.loop-end.invariant.quiet (c.in_err-serve_more.ensures.serves served.rest served.cut.open_end served.keeps))

pub returns-in-Some : goal.returns-in-Some
returns-in-Some g c =
    let served = c.loop-end.invariant.served in
    let portion = c.read_portion-portion in
    let bytes = take portion.result.len portion.new.buffer in
    served_end g.S.Station.serves c.args.server.now.station c.loop-end.server c.serve_more.new.self c.loop-end.room _ _ _ _ _ _ bytes
    c.in-Some.end served
    (rw c.in-Some.is at portion.ensures.reads) c.loop-end.invariant.quiet c.in_ok-serve_more.ensures.quiet
    (c.in_ok-serve_more.ensures.serves served.rest served.cut.open_end served.keeps)

pub loop-end-preserved : goal.loop-end-preserved
loop-end-preserved g c =
    let served = c.loop-end.invariant.served in
    let portion = c.read_portion-portion in
    let bytes = take portion.result.len portion.new.buffer in
    record {
      buffer_length = portion.ensures.kept ∙ c.loop-end.invariant.buffer_length;
      served = rw (len_of portion.result.len portion.new.buffer portion.ensures.within) at
          (served_on g.S.Station.serves c.args.server.now.station c.loop-end.server c.serve_more.new.self c.loop-end.room _ _ _ _ _ _
          bytes served
          (rw c.in_default.is at portion.ensures.reads) c.loop-end.invariant.quiet c.in_ok-serve_more.ensures.quiet
          (c.in_ok-serve_more.ensures.serves served.rest served.cut.open_end served.keeps));
      quiet = c.in_ok-serve_more.ensures.quiet;
    }
