use Rattle.hart_frame.proofs.lemmas.scan.First.{scanned_first, scanned_last}
use Rattle.hart_frame.proofs.scan.first.first_found.Goals as goal

pub returns-in-Some : goal.returns-in-Some
returns-in-Some c =
    scanned_first c.args.chars.now c.push_chars.result c.args.scanner.now c.push_chars.new.self c.next_found.new.scanner c.in-Some.found
    c.requires c.push_chars.ensures.moves c.in-Some.ensures

pub returns : goal.returns
returns c =
    scanned_last c.args.chars.now c.push_chars.result c.args.scanner.now c.push_chars.new.self c.next_found.new.scanner c.finish.new.self
    c.next_found-2.new.scanner c.next_found-2.result c.requires c.push_chars.ensures.moves c.push_chars.ensures.stops c.in_default.ensures
    c.finish.ensures c.next_found-2.ensures
