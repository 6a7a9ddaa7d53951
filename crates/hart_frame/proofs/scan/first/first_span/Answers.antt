use Rattle.hart_frame.proofs.lemmas.scan.First.{first_finished, first_given}
use Rattle.hart_frame.proofs.scan.first.first_span.Goals as goal

pub returns-in-Some : goal.returns-in-Some
returns-in-Some c =
    first_given c.args.chars.now c.push_chars.result c.args.buffer.now c.push_chars.new.self c.next.new.self c.in-Some.span
    c.requires.is_new c.push_chars.ensures.hears c.in-Some.ensures.given

pub returns : goal.returns
returns c =
    first_finished c.args.chars.now c.push_chars.result c.args.buffer.now c.push_chars.new.self c.next.new.self c.finish.new.self
    c.next-2.new.self c.next-2.result c.requires.is_new c.push_chars.ensures.hears c.in_default.ensures.given c.finish.ensures.finished
    c.next-2.ensures.given
