use Rattle.std.proofs.lemmas.Result.{err_from_is_err_and}
use Rattle.hart_cli.proofs.lemmas.session.Server.{fails_written, kept_of, part_of, serves_written, station_of, text_fails}
use Rattle.hart_cli.proofs.session.server.Server.serve_more.Goals as goal

pub returns-in_err-write_all-clause-serves : goal.returns-in_err-write_all-clause-serves
returns-in_err-write_all-clause-serves g c = λ part free keeps.
    text_fails g.S.Station.serves _ _ _ _ _ _ c.from_residual-in_err-write_all.result
    (err_from_is_err_and c.from_residual-in_err-write_all.result c.from_residual-in_err-write_all.ensures.1).1
    (fails_written g.S.Station.serves c.args.self.now c.serve_whole.new.self _ _ _ _ c.requires.quiet
    (c.in_ok-serve_whole.ensures.serves part free keeps)
    (rw (c.as_slice.ensures.value, kept_of c.self.view_is) at c.in_err-write_all.ensures))

pub returns-clause-serves : goal.returns-clause-serves
returns-clause-serves g c = λ part free keeps.
    serves_written g.S.Station.serves c.args.self.now c.serve_whole.new.self _ _ _ _ _ c.requires.quiet
    (c.in_ok-serve_whole.ensures.serves part free keeps)
    (rw (c.as_slice.ensures.value, kept_of c.self.view_is) at c.in_ok-write_all.ensures) (station_of c.self.view_is)
    (part_of c.self.view_is) c.clear.ensures
