use Rattle.std.proofs.Common.{◌*◌, ◌+◌, ◌≤◌, ◌++◌, length, take, drop, arith, refl}
use lib.Lanes.{pick_l}
use Rattle.hart_text.specs.declared.item_run.TheConstants.{SPACED_AFTER, SPACED_HIGH, SPACED_LOW}
use Rattle.hart_text.proofs.lemmas.Lanes.{in_48, picked, place_in_48}
use Rattle.hart_text.proofs.lemmas.ItemRun.{spaced_are, spaced_read}
use Rattle.hart_text.proofs.item_run.spaced_run.Goals as goal

pub returns : goal.returns
returns c =
    let text = c.args.text.now in
    let long : 48 ≤ length text = omega (arith, c.if-text.false) in
    let pairs = c.pair_lanes-pairs.ensures in
    let first = c.leading_lanes-count.ensures in
    let lanes = take 32 text ++ take 32 (drop 16 text) in
    let stands = in_48 text long in
    let at_high = picked text lanes SPACED_HIGH 64 place_in_48 (λ lane. 3 * lane) stands refl refl in
    let at_low = picked text lanes SPACED_LOW 64 place_in_48 (λ lane. 3 * lane + 1) stands refl refl in
    let at_after = picked text lanes SPACED_AFTER 64 place_in_48 (λ lane. 3 * lane + 2) stands refl refl in
    let after = pick_l 0 lanes SPACED_AFTER in
    let gaps = c.separator_lanes-are_separators.ensures in
    let are = spaced_are text _ _ after _ _ _ _ pairs gaps first at_high at_low at_after in
    record {
      few = omega (arith, first.few, pairs.long);
      items = record {
        some = omega (arith, c.if-count-eq0.false);
        within = omega (arith, first.few, long);
        reads = spaced_read _ text _ (omega (arith, first.few, long)) (omega (arith, first.few, pairs.long)) are;
      };
    }
