use Rattle.std.proofs.Common.{refl}
use Rattle.std.proofs.lemmas.Result.{err_from_is_err_and}
use Rattle.hart_cli.specs.session.Server.{most_kept}
use Rattle.hart_cli.proofs.lemmas.session.Server.{front_all_at, front_fails, front_next_at, front_none, kept_of, take_few}
use Rattle.hart_cli.proofs.lemmas.session.Server.{text_fails}
use Rattle.hart_cli.proofs.session.server.Server.serve_whole.Goals as goal

pub loop-part-init : goal.loop-part-init
loop-part-init g c = λ part free keeps.
    front_none g.S.Station.serves c.args.self.now part c.args.more.now (g.W.Sink.stream c.args.writer.now) free keeps

pub keep-requires-clause-few : goal.keep-requires-clause-few
keep-requires-clause-few g c =
    let now = c.loop-part.invariant c.requires.part.0 c.requires.part.1 c.requires.part.2 in
    rw (← c.self.view_is) at (take_few most_kept now.whole.rest c.loop-part.self.part now.whole.keeps)

pub keep-requires-2-clause-few : goal.keep-requires-2-clause-few
keep-requires-2-clause-few g c =
    let now = c.loop-part.invariant c.requires.part.0 c.requires.part.1 c.requires.part.2 in
    rw (← c.self-2.view_is) at (take_few most_kept now.whole.rest c.loop-part.self.part now.whole.keeps)

pub serve_part-requires-clause-few : goal.serve_part-requires-clause-few
serve_part-requires-clause-few g c = take_few most_kept _ c.keep.new.part.items c.keep.ensures.bytes

pub returns-in_err-make_room : goal.returns-in_err-make_room
returns-in_err-make_room g c = record {
  serves = λ part free keeps.
      text_fails g.S.Station.serves _ _ _ _ _ _ c.from_residual.result
      (err_from_is_err_and c.from_residual.result c.from_residual.ensures.1).1
      (front_fails g.S.Station.serves c.args.self.now c.loop-part.self part c.args.more.now c.loop-part.rest.now _ _ _
      (c.loop-part.invariant part free keeps) (rw (kept_of c.self.view_is) at c.in_err-make_room.ensures.adds));
}

pub loop-part-preserved : goal.loop-part-preserved
loop-part-preserved g c = λ part free keeps.
    front_next_at g.S.Station.serves c.serve_part.ensures c.args.self.now c.loop-part.self _ c.self.view_is part c.args.more.now
    c.loop-part.rest.now _ _ _ _ _ (c.loop-part.invariant part free keeps) c.in-Some.ensures refl c.keep.ensures.bytes
    c.in_ok-make_room.ensures.adds

pub returns : goal.returns
returns g c = record {
  serves = λ part free keeps.
      front_all_at g.S.Station.serves c.args.self.now c.loop-part.self _ _ c.self-2.view_is part c.args.more.now c.loop-part.rest.now _ _
      (c.loop-part.invariant part free keeps) c.in_default.ensures refl refl c.keep-2.ensures.bytes;
}
