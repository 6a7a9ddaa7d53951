use Rattle.std.proofs.Common.{get_or}
use Rattle.hart_text.proofs.lemmas.Lanes.{both, paired}
use Rattle.hart_text.proofs.digit_lanes.pair_lanes.Goals as goal

pub returns : goal.returns
returns c =
    let high = c.digit_lanes-high.ensures in
    let low = c.digit_lanes-low.ensures in
    let values = paired _ _ high.long low.long in
    let masks = both _ _ _ _ high.digits low.digits in
    record {
      long = values.long;
      digits = record { small = masks.small; bits = masks.bits };
      byte = λ lane below are.
          let first = get_or c.args.high lane 0 in
          let second = get_or c.args.low lane 0 in
          (are, values.each lane below first second (high.value lane below are.0) (low.value lane below are.1));
    }
