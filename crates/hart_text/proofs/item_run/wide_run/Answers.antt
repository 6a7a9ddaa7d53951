use Rattle.std.proofs.Common.{◌*◌, ◌+◌, ◌≤◌, ◌++◌, length, take, drop, arith, refl}
use lib.Lanes.{pick_l}
use Rattle.hart_text.specs.declared.item_run.TheConstants.{WIDE_AFTER, WIDE_HIGH, WIDE_LOW, WIDE_NEXT}
use Rattle.hart_text.proofs.lemmas.Lanes.{in_64, picked}
use Rattle.hart_text.proofs.lemmas.ItemRun.{wide_are, wide_read}
use Rattle.hart_text.proofs.item_run.wide_run.Goals as goal

pub returns : goal.returns
returns c =
    let text = c.args.text.now in
    let long : 64 ≤ length text = omega (arith, c.if-text.false) in
    let pairs = c.pair_lanes-pairs.ensures in
    let first = c.leading_lanes-count.ensures in
    let lanes = take 32 text ++ take 32 (drop 32 text) in
    let stands = in_64 text long in
    let at_high = picked text lanes WIDE_HIGH 64 (λ k. k) (λ lane. 4 * lane) stands refl refl in
    let at_low = picked text lanes WIDE_LOW 64 (λ k. k) (λ lane. 4 * lane + 1) stands refl refl in
    let at_after = picked text lanes WIDE_AFTER 64 (λ k. k) (λ lane. 4 * lane + 2) stands refl refl in
    let at_next = picked text lanes WIDE_NEXT 64 (λ k. k) (λ lane. 4 * lane + 3) stands refl refl in
    let after = pick_l 0 lanes WIDE_AFTER in
    let next = pick_l 0 lanes WIDE_NEXT in
    let gaps = c.separator_lanes-are_after.ensures in
    let ends = c.separator_lanes-are_next.ensures in
    let are = wide_are text _ _ after next _ _ _ _ _ pairs gaps ends first at_high at_low at_after at_next in
    record {
      few = omega (arith, first.few, pairs.long);
      items = record {
        some = omega (arith, c.if-count-eq0.false);
        within = omega (arith, first.few, long);
        reads = wide_read _ text _ (omega (arith, first.few, long)) (omega (arith, first.few, pairs.long)) are;
      };
    }
