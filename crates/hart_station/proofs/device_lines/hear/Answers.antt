use Rattle.std.proofs.Common.{arith}
use Rattle.std.proofs.lemmas.Grind.{common_steps}
use Rattle.hart_device.proofs.lemmas.Laws.{deliveries_bring_one-brings}
use Rattle.hart_station.proofs.device_lines.hear.Goals as goal

pub returns-in-Some : goal.returns-in-Some
returns-in-Some c =
    let brought = deliveries_bring_one-brings c.args.device.now.identity c.args.delivery.now in
    record { brought = brought.0; brings = brought.1; becomes = grind (arith, common_steps); answered = grind (arith, common_steps) }

pub returns-in-None : goal.returns-in-None
returns-in-None c =
    let brought = deliveries_bring_one-brings c.args.device.now.identity c.args.delivery.now in
    record { brought = brought.0; brings = brought.1; becomes = grind (arith, common_steps); answered = grind (arith, common_steps) }
