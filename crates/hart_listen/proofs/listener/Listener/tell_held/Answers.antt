use Rattle.hart_listen.proofs.lemmas.Listener.{few_before, hears_held, long_stays, waits}
use Rattle.hart_listen.proofs.listener.Listener.tell_held.Goals as goal

pub returns-clause-hears : goal.returns-clause-hears
returns-clause-hears g c =
    let go = c.let_go.ensures in
    hears_held g.T.Teller.told c.args.self.now c.let_go.new.self c.args.after c.tell_decided-used.result c.tell_decided-used.new.past _ _
    c.requires.valid (rw c.as_slice-held.ensures.value at c.tell_decided-used.ensures.hears)
    (rw c.as_slice-held.ensures.value at c.tell_decided-used.ensures.decided) go.first go.held go.past go.dates

pub returns-clause-waiting : goal.returns-clause-waiting
returns-clause-waiting g c =
    let go = c.let_go.ensures in
    let told = c.tell_decided-used.ensures in
    waits c.args.self.now c.let_go.new.self c.args.after c.tell_decided-used.result
    (rw c.as_slice-held.ensures.value at told.decided) go.first go.held go.dated
    (rw go.past told.own)
    (few_before c.tell_decided-used.new.past c.args.self.now c.let_go.new.self c.tell_decided-used.result
    (rw told.preambles c.requires.preambles) go.first go.past)

pub returns-clause-long : goal.returns-clause-long
returns-clause-long g c =
    let go = c.let_go.ensures in
    long_stays c.args.self.now c.let_go.new.self c.args.after c.tell_decided-used.result
    (rw c.as_slice-held.ensures.value at c.tell_decided-used.ensures.decided) go.first go.held
