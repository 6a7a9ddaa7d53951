use Rattle.std.proofs.Common.{refl}
use Rattle.hart_cli.proofs.lemmas.explain.Printer.{printed_more, takes_kept}
use Rattle.hart_cli.proofs.calls.explain.printer.PrinterTeller.tell.Goals as goal

pub returns : goal.returns
returns g c start since list printed =
    printed_more c.args.self.now _ _ _ _ refl
    (takes_kept c.args.self.now.page c.make_room.new.self _ _ _ _ c.make_room.ensures.takes refl c.push_sighting.ensures)
    start.teller.style _ _ list printed
