use Rattle.std.proofs.Common.{◌+◌, arith, drop, length-drop}
use Rattle.std.proofs.lemmas.List.{take_rest}
use Rattle.hart_text.specs.Marks.{mark_length}
use Rattle.hart_listen.specs.Listener.{HearsText}
use Rattle.hart_listen.specs.Teller.{moment}
use Rattle.hart_listen.proofs.listener.Listener.hear_text.Given.{Over}
use Rattle.hart_listen.proofs.listener.Listener.hear_text.Goals.{After-hear_items-place}
use Rattle.hart_listen.proofs.lemmas.Listener.{more_of_text, reads_mark, text_none_heard}
use Rattle.hart_listen.proofs.listener.Listener.hear_text.Goals as goal

pub loop-mark-init : goal.loop-mark-init
loop-mark-init g c = record { heard = text_none_heard g.T.Teller.told c.args.self.now c.args.text.now _; waiting = c.requires.waiting }

pub hear_items-place-requires-clause-places : goal.hear_items-place-requires-clause-places
hear_items-place-requires-clause-places g c = rw take_rest (omega (arith, c.loop-mark.invariant.heard.fits, c.requires.places))

-- the items are heard
heard : (g : Over) (c : After-hear_items-place g)
    → HearsText g.T.Teller.told c.args.self.now c.hear_items-place.new.self c.args.text.now (c.loop-mark.place + c.hear_items-place.result)
    (moment c.args.teller.now c.args.writer.now) (moment c.hear_items-place.new.teller c.hear_items-place.new.writer)
heard g c =
    let said = rw take_rest at c.hear_items-place.ensures.hears in
    more_of_text g.T.Teller.told c.args.self.now c.loop-mark.self c.hear_items-place.new.self c.args.text.now c.loop-mark.place
    c.hear_items-place.result _ _ _ _ c.loop-mark.invariant.heard said.within said.reads said.hears said.fits

pub returns-in_default-clause-hears : goal.returns-in_default-clause-hears
returns-in_default-clause-hears g c = heard g (goal.at.returns-in_default-clause-hears g c).After-hear_items-place

pub hear_mark-place-requires-clause-places : goal.hear_mark-place-requires-clause-places
hear_mark-place-requires-clause-places g c =
    let now = heard g (goal.at.hear_mark-place-requires-clause-places g c).After-hear_items-place in
    omega (arith, now.fits, c.requires.places)

pub loop-mark-preserved : goal.loop-mark-preserved
loop-mark-preserved g c =
    let now = heard g (goal.at.loop-mark-preserved g c).After-hear_items-place in
    let begins = rw take_rest at c.in-Some.ensures in
    let said = rw take_rest at c.hear_mark-place.ensures in
    record {
      heard = rw said.len (more_of_text g.T.Teller.told c.args.self.now c.hear_items-place.new.self c.hear_mark-place.new.self
          c.args.text.now _ (mark_length c.in-Some.mark) _ _ _ _ now begins.within (reads_mark _ _ _ begins.mark) said.hears
          (omega (
            arith,
            said.long,
            begins.within,
            length-drop (mark_length c.in-Some.mark)
                (drop (c.loop-mark.place + c.hear_items-place.result) c.args.text.now),
          )));
      waiting = said.waiting;
    }
