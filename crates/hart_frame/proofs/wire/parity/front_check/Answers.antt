use Rattle.hart_frame.proofs.Common.{◌*◌, ◌/◌, length, drop, ap, arith, length-take-le, take_rest}
use Rattle.hart_frame.proofs.lemmas.wire.Lane.{IsCheckByte-few, IsCheckByte-front}
use Rattle.hart_frame.proofs.wire.parity.front_check.Goals as goal

pub returns-in-Some : goal.returns-in-Some
returns-in-Some c =
    let bytes = c.args.bytes.now in
    let whole = c.args.len / 16 * 16 in
    let before = rw (length-take-le c.args.len bytes c.requires) at c.fold_blocks-lanes.ensures.front in
    let block = rw (take_rest bytes whole) at c.in-Some.ensures.cases in
    IsCheckByte-front c.args.len whole bytes _ (omega arith) (λ i. omega (arith, c.type_inv.bytes i)) before _ _ (omega arith) block.same
    (omega (arith, ap length block.same, length-take-le 16 (drop whole bytes) block.enough)) c.fold_blocks-lanes.ensures.lanes
    c.front_lanes.ensures

pub returns-in-None : goal.returns-in-None
returns-in-None c =
    let bytes = c.args.bytes.now in
    let before = rw (length-take-le c.args.len bytes c.requires) at c.fold_blocks-lanes.ensures.front in
    grind (arith, IsCheckByte-few c.args.len (c.args.len / 16 * 16) bytes c.fold_blocks-lanes.result, c.type_inv.bytes)
