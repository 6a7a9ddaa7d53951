use Rattle.hart_line.proofs.Common.{◌+◌, ◌++◌, [], arith, refl, take, take_all, slice_get-get_or, err_from_is_err_and, Undetected, IsFault}
use Rattle.hart_line.proofs.Common.{start_from}
use Rattle.hart_line.proofs.lemmas.Laws.{led_keeps, scripts_keep_their_promises-detected}
use Rattle.hart_line.proofs.lemmas.line.Reached.{Any-append, IsReached, reached_first, reached_led, reached_more}
use Rattle.hart_line.proofs.lemmas.line.Room.{room_after, room_here}
use Rattle.hart_line.proofs.line.logged.carry_out.Given.{Over}
use Rattle.hart_line.proofs.line.logged.carry_out.Goals.{After-tell}
use Rattle.hart_line.proofs.line.logged.carry_out.Goals as goal

pub loop-index-init : goal.loop-index-init
loop-index-init g c =
    rw (c.new-line.ensures.line, c.requires.empty) (record {
      told = (
        [],
        g.met.L.Log.none _,
        reached_first c.args.device c.args.process.now c.args.primary c.args.secondary _ c.new-line.ensures.device
            c.requires.primary c.requires.secondary refl refl refl refl refl,
      );
      room = record { outcomes = omega (arith, c.requires.room); nothing_spoken = refl };
    })

pub step-requires : goal.step-requires
step-requires g c = record {
  room = rw c.index-events-index.is
      (room_here c.args.events.now c.loop-index.index _ _ c.loop-index-test.true c.loop-index.invariant.room);
}

pub returns-in-Err-clause-stopped : goal.returns-in-Err-clause-stopped
returns-in-Err-clause-stopped g c =
    let enough = c.new-line.ensures.device.identity.in_range.response_preambles.0 in
    let start = start_from c.args.device c.args.process.now c.args.primary c.args.secondary in
    let (noted, has, reached) = c.loop-index.invariant.told in
    let here = slice_get-get_or c.args.events.now c.loop-index.index _ c.loop-index-test.true in
    let fault : IsFault start c.args.events.now (Undetected c.loop-index.index c.in-Err.leg) = (
      reached.world,
      _,
      reached.is_last,
      here,
      rw c.index-events-index.is at (c.in-Err.ensures.stopped start reached.world refl reached.stands),
    ) in (
      (fault, noted, reached.spoken_are, has),
      scripts_keep_their_promises-detected start c.args.events.now (Undetected c.loop-index.index c.in-Err.leg) enough fault,
    )

-- One more event is carried out, and its spoken frames count as noted.
carried_out : (g : Over) (c : After-tell g) → IsReached (start_from c.args.device c.args.process.now c.args.primary c.args.secondary)
    (take (c.loop-index.index + 1) c.args.events.now) (record c.step.new.self { spoken = [] })
    (c.loop-index.invariant.told.0 ++ c.step.new.self.spoken)
carried_out g c =
    let start = start_from c.args.device c.args.process.now c.args.primary c.args.secondary in
    let (noted, has, reached) = c.loop-index.invariant.told in
    reached_more start c.args.events.now c.loop-index.index _ _ _ noted c.loop-index-test.true reached
    (rw c.index-events-index.is at (c.in_default.ensures.stepped start reached.world refl reached.marks reached.stands))
    (rw c.index-events-index.is at c.in_default.ensures.well_made)

pub loop-index-preserved : goal.loop-index-preserved
loop-index-preserved g c = record {
  told = rw c.in_ok-tell.ensures.line (
    _,
    g.met.L.Log.more _ _ _ c.loop-index.invariant.told.0 _ c.loop-index.invariant.told.1 c.in_ok-tell.ensures.noted,
    carried_out g (goal.at.loop-index-preserved g c).After-tell,
  );
  room = rw c.in_ok-tell.ensures.line (room_after c.args.events.now c.loop-index.index _ _ _ c.loop-index-test.true
      c.loop-index.invariant.room (rw c.index-events-index.is at c.in_default.ensures.room));
}

pub returns-in_err-tell-clause-stopped : goal.returns-in_err-tell-clause-stopped
returns-in_err-tell-clause-stopped g c =
    let reached = carried_out g (goal.at.returns-in_err-tell-clause-stopped g c).After-tell in
    let stop = err_from_is_err_and c.from_residual.result c.from_residual.ensures.1 in
    rw (stop.1, stop.2) (
      record {
        number = c.loop-index.index + 1;
        world = reached.world;
        is_last = reached.is_last;
        spoken = c.loop-index.invariant.told.0 ++ c.step.new.self.spoken;
        are_spoken = reached.spoken_are;
        needed = Any-append _ c.loop-index.invariant.told.0 _ c.in_err-tell.ensures.refused.1;
        some = c.in_err-tell.ensures.refused.0;
      },
      tt,
    )

pub returns : goal.returns
returns g c =
    let start = start_from c.args.device c.args.process.now c.args.primary c.args.secondary in
    let (noted, has, told) = c.loop-index.invariant.told in
    let reached = rw (take_all c.loop-index.index c.args.events.now (omega (arith, c.loop-index-test.false))) at told in
    let led = reached_led _ _ reached c.into_ending.ensures.device c.into_ending.ensures.outcomes in
    record {
      led = (noted, led, has);
      promises = led_keeps start c.args.events.now _ _ noted
          (record { device = c.new-line.ensures.device; process = c.processes_are_well_made.ensures }) reached.well_made led;
      stopped = tt;
    }
