use Rattle.hart_frame.proofs.Common.{◌≡◌, ◌<◌, false, arith, All-from_get_or, has_two_preambles}
use Rattle.hart_frame.proofs.lemmas.scan.Completed.{may, never_lacks, never_two}
use Rattle.hart_frame.proofs.lemmas.wire.Reading.{cut_truncated}
use Rattle.hart_frame.proofs.scan.sighting.can_stand_alone.Goals as goal

pub returns-then-not-has_two_preambles-clause-may : goal.returns-then-not-has_two_preambles-clause-may
returns-then-not-has_two_preambles-clause-may c = λ good.
    let bytes = c.args.bytes.now in
    let fit = All-from_get_or (λ byte. byte < 256) bytes 0 (λ i below. omega (arith, c.type_inv.bytes i)) in
    let clear : has_two_preambles bytes ≡ false = grind arith in
    let truncated = cut_truncated bytes c.args.missing c.requires in
    may bytes 300 fit truncated clear (λ lacks. let both = c.lacks_one_preamble.ensures.1 lacks in absurd (grind arith)) (omega arith)

pub returns-then-not-has_two_preambles-clause-never : goal.returns-then-not-has_two_preambles-clause-never
returns-then-not-has_two_preambles-clause-never c =
    λ not more.
    let fit = All-from_get_or (λ byte. byte < 256) c.args.bytes.now 0 (λ i below. omega (arith, c.type_inv.bytes i)) in
    grind (arith, never_lacks c.args.bytes.now more fit)

pub returns-else-not-has_two_preambles-clause-never : goal.returns-else-not-has_two_preambles-clause-never
returns-else-not-has_two_preambles-clause-never c = grind (arith, never_two, cut_truncated c.args.bytes.now c.args.missing c.requires)
