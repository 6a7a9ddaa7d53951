use Rattle.std.proofs.Common.{◌+◌, arith, drop, length-drop}
use Rattle.std.proofs.lemmas.List.{take_rest}
use Rattle.hart_text.proofs.lemmas.Items.{begins_reads}
use Rattle.hart_listen.specs.Listener.{HearsText}
use Rattle.hart_listen.specs.Teller.{moment}
use Rattle.hart_listen.proofs.listener.Listener.hear_items.Given.{Over}
use Rattle.hart_listen.proofs.listener.Listener.hear_items.Goals.{After-hear_bytes}
use Rattle.hart_listen.proofs.lemmas.Listener.{more_of_text, reads_items, text_none_heard}
use Rattle.hart_listen.proofs.listener.Listener.hear_items.Goals as goal

pub loop-lead-init : goal.loop-lead-init
loop-lead-init g c = record { heard = text_none_heard g.T.Teller.told c.args.self.now c.args.text.now _; waiting = c.requires.waiting }

pub hear_bytes-requires-clause-places : goal.hear_bytes-requires-clause-places
hear_bytes-requires-clause-places g c =
    let fits = c.loop-lead.invariant.heard.fits in
    let read = rw take_rest at c.read_chunk-place.ensures in
    rw c.as_slice.ensures.value (omega (arith, fits, read.few, read.within, c.requires.places))

-- the chunk is heard
heard : (g : Over) (c : After-hear_bytes g)
    → HearsText g.T.Teller.told c.args.self.now c.hear_bytes.new.self c.args.text.now (c.loop-lead.place + c.read_chunk-place.result)
    (moment c.args.teller.now c.args.writer.now) (moment c.hear_bytes.new.teller c.hear_bytes.new.writer)
heard g c =
    let read = rw take_rest at c.read_chunk-place.ensures in
    let said = rw c.as_slice.ensures.value at c.hear_bytes.ensures in
    more_of_text g.T.Teller.told c.args.self.now c.loop-lead.self _ c.args.text.now c.loop-lead.place c.read_chunk-place.result _ _ _ _
    c.loop-lead.invariant.heard read.within (reads_items _ _ _ read.reads) said.hears
    (omega (arith, said.long, read.few, read.within, length-drop c.read_chunk-place.result (drop c.loop-lead.place c.args.text.now)))

pub returns-in_default-clause-hears : goal.returns-in_default-clause-hears
returns-in_default-clause-hears g c = heard g (goal.at.returns-in_default-clause-hears g c).After-hear_bytes

pub hear_char-requires-clause-places : goal.hear_char-requires-clause-places
hear_char-requires-clause-places g c =
    let now = heard g (goal.at.hear_char-requires-clause-places g c).After-hear_bytes in
    let lead = begins_reads _ _ _ (rw take_rest at c.in-Some.ensures) in
    omega (arith, now.fits, lead.0, lead.1, c.requires.places)

pub loop-lead-preserved : goal.loop-lead-preserved
loop-lead-preserved g c =
    let now = heard g (goal.at.loop-lead-preserved g c).After-hear_bytes in
    let lead = begins_reads _ _ _ (rw take_rest at c.in-Some.ensures) in
    let said = c.hear_char.ensures in
    record {
      heard = more_of_text g.T.Teller.told c.args.self.now c.hear_bytes.new.self _ c.args.text.now _ c.in-Some.lead.len _ _ _ _ now lead.1
          (reads_items _ _ _ lead.2) said.hears (omega (
            arith,
            said.long,
            lead.0,
            lead.1,
            length-drop c.in-Some.lead.len
                (drop (c.loop-lead.place + c.read_chunk-place.result) c.args.text.now),
          ));
      waiting = said.waiting;
    }
