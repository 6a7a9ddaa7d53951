use Rattle.std.proofs.Common.{arith, []}
use Rattle.hart_device.proofs.lemmas.Laws.{deliveries_bring_one-one}
use Rattle.hart_text.specs.Items.{closed}
use Rattle.hart_text.proofs.lemmas.Items.{NoPieceBegins-nil, one_reading}
use Rattle.hart_station.proofs.lemmas.Laws.{messages_have_one_line}
use Rattle.hart_cli.proofs.calls.answer.one_answer.Goals as goal

pub returns : goal.returns
returns c device input xs ys p q =
    let same = (one_reading (closed input) p.delivery [] q.delivery [] p.reads q.reads NoPieceBegins-nil NoPieceBegins-nil).0 in
    let heard = rw same at p.text_for in
    grind (arith, messages_have_one_line, deliveries_bring_one-one device.identity q.delivery heard.brought q.text_for.brought)
