use Rattle.std.proofs.Common.{◌*◌, ◌+◌, ◌++◌, ◌<◌, length, take, arith, refl}
use Rattle.hart_frame.specs.heard.Character.{faultless}
use Rattle.hart_text.specs.declared.item_run.TheConstants.{DENSE_HIGH, DENSE_LOW}
use Rattle.hart_text.proofs.lemmas.Lanes.{in_front, picked}
use Rattle.hart_text.proofs.lemmas.ItemRun.{dense_are, dense_on, dense_read}
use Rattle.hart_text.proofs.item_run.dense_run.Goals as goal

pub returns : goal.returns
returns c =
    let text = c.args.text.now in
    let long : 32 < length text = omega (arith, c.if-text.false) in
    let pairs = c.pair_lanes-pairs.ensures in
    let first = c.leading_lanes-count.ensures in
    let count = c.leading_lanes-count.result in
    let bytes = c.pair_lanes-pairs.result.values in
    let lanes = take 32 text ++ take 32 text in
    let stands = in_front 32 text (take 32 text) (omega (arith, long)) in
    let at_high = picked text lanes DENSE_HIGH 32 (λ k. k) (λ lane. 2 * lane) stands refl refl in
    let at_low = picked text lanes DENSE_LOW 32 (λ k. k) (λ lane. 2 * lane + 1) stands refl refl in
    let are = dense_are text _ _ _ _ _ pairs first at_high at_low in
    let within : 2 * count < length text = omega (arith, first.few, long) in
    let reads = dense_read count text bytes within (omega (arith, first.few, pairs.long)) are c.if-next-eq33.false in
    let on = dense_on text (faultless (take count bytes)) (2 * count) c.is_separator.result within c.is_separator.ensures reads in
    record {
      few = omega (arith, first.few, pairs.long);
      items = record { some = omega (arith, c.if-count-eq0.false); within = rw c.from.ensures on.0; reads = rw c.from.ensures on.1 };
    }
