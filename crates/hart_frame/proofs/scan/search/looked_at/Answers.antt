use Rattle.hart_frame.proofs.lemmas.scan.Search.{searching_on}
use Rattle.hart_frame.proofs.scan.search.looked_at.Goals as goal

pub returns : goal.returns
returns c =
    searching_on c.args.bytes.now c.args.from c.args.seen c.args.place c.args.decided c.args.start c.args.count c.max.result
    c.requires.searching c.requires.next c.requires.never c.requires.few c.max.ensures
