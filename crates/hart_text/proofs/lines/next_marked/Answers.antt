use Rattle.std.proofs.Common.{arith}
use Rattle.std.proofs.lemmas.List.{take_rest}
use Rattle.hart_text.proofs.lemmas.Lines.{marked_word, no_word}
use Rattle.hart_text.proofs.lines.next_marked.Goals as goal

pub returns-then-start-line : goal.returns-then-start-line
returns-then-start-line c = no_word c.args.blanks c.args.line.now c.ranges.blanks.fits c.requires
    (omega (arith, c.if-start-line.true, c.trailing_ones-start.ensures))

pub invariant_of-result : goal.invariant_of-result
invariant_of-result c =
    let word = marked_word c.args.blanks c.trailing_ones-start.result c.min-len.result c.args.line.now c.ranges.blanks.fits c.requires
    c.trailing_ones-start.ensures c.if-start-line.false (rw take_rest at c.min-len.ensures) in
    λ is. rw (c.split_at.ensures.back, take_rest) word.1

pub returns : goal.returns
returns c =
    let word = marked_word c.args.blanks c.trailing_ones-start.result c.min-len.result c.args.line.now c.ranges.blanks.fits c.requires
    c.trailing_ones-start.ensures c.if-start-line.false (rw take_rest at c.min-len.ensures) in
    rw (c.split_at.ensures.front, c.split_at.ensures.back, take_rest) word.0
