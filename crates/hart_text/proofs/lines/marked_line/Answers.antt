use Rattle.hart_text.specs.Lines.{words_of}
use Rattle.std.proofs.Common.{ap, arith, drop, map, sym, ℕ, ◌+◌}
use Rattle.std.proofs.lemmas.List.{take_rest}
use Rattle.hart_text.proofs.lemmas.Lines.{blanks_of_line, cut_at, first_feed}
use Rattle.hart_text.proofs.lines.marked_line.Goals as goal

pub invariant_of-words : goal.invariant_of-words
invariant_of-words c =
    let text = c.args.text.now in let feeds = c.line_feeds-feeds.result in
    let feed = first_feed feeds text c.if-text-lt-MARKED.false c.line_feeds-feeds.type_inv (omega arith) c.line_feeds-feeds.ensures in
    λ is. rw c.without_return.ensures (blanks_of_line c.blanks.result _ text feed.1 c.blanks.ensures)

pub returns-clause-cut : goal.returns-clause-cut
returns-clause-cut c =
    let text = c.args.text.now in let feeds = c.line_feeds-feeds.result in
    let feed = first_feed feeds text c.if-text-lt-MARKED.false c.line_feeds-feeds.type_inv (omega arith) c.line_feeds-feeds.ensures in
    rw (c.without_return.ensures, take_rest) (ap (map words_of) (cut_at text _ feed.0 (omega (arith, feed.1, c.if-text-lt-MARKED.false))))

pub returns-clause-rest : goal.returns-clause-rest
returns-clause-rest c =
    let text = c.args.text.now in let feeds = c.line_feeds-feeds.result in
    let feed = first_feed feeds text c.if-text-lt-MARKED.false c.line_feeds-feeds.type_inv (omega arith) c.line_feeds-feeds.ensures in
    rw (take_rest) (ap (λ (n : ℕ). drop (n + 1) text) (sym feed.0))
