use Rattle.std.proofs.Common.{refl}
use Rattle.std.proofs.lemmas.Result.{err_from_is_err_and}
use Rattle.hart_cli.proofs.lemmas.session.Input.{serves_to, serves_whole, stops_at_last}
use Rattle.hart_cli.proofs.session.serve_lines.Goals as goal

pub returns-in_err-serve_rest-in-Ended : goal.returns-in_err-serve_rest-in-Ended
returns-in_err-serve_rest-in-Ended g c =
    let all = rw (c.in-Ended.is, c.in_ok-server.ensures.made) at c.in_ok-serve_input.ensures in
    let last = c.in_err-serve_rest-in-Ended.ensures all.rest all.keeps in
    let stop = err_from_is_err_and c.from_residual-in_err-serve_rest-in-Ended.result c.from_residual-in_err-serve_rest-in-Ended.ensures.1 in
    rw (stop.1, stop.2)
    (stops_at_last g.S.Station.serves c.args.station last.after c.serve_input.new.server _ _ _ _ _ last.said all last.serves last.writes)

pub returns-in-Ended : goal.returns-in-Ended
returns-in-Ended g c =
    let all = rw (c.in-Ended.is, c.in_ok-server.ensures.made) at c.in_ok-serve_input.ensures in
    let last = c.in_ok-serve_rest-in-Ended.ensures all.rest all.keeps in
    serves_to g.S.Station.serves c.args.station last.after c.serve_input.new.server _ _ _ _ _ last.said all last.serves last.writes

pub returns-in-ReadFailed : goal.returns-in-ReadFailed
returns-in-ReadFailed g c =
    let all = rw (c.in-ReadFailed.is, c.in_ok-server.ensures.made) at c.in_ok-serve_input.ensures in
    serves_whole g.S.Station.serves c.args.station c.serve_input.new.server _ _ _ _ _ all refl

pub returns : goal.returns
returns g c =
    let all = rw (c.in-TooLong.is, c.in_ok-server.ensures.made) at c.in_ok-serve_input.ensures in
    serves_whole g.S.Station.serves c.args.station c.serve_input.new.server _ _ _ _ _ all refl
