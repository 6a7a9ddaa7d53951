use Rattle.hart_frame.proofs.Common.{refl, arith, drop, length-drop, take_rest, get_or-drop, MayStandAlone}
use Rattle.hart_frame.proofs.lemmas.scan.Alone.{alone_moved, may_moved}
use Rattle.hart_frame.proofs.lemmas.scan.BodyAt.{cut_not_alone, not_alone, whole_seen, wrong_seen}
use Rattle.hart_frame.proofs.lemmas.wire.Reading.{cut_truncated}
use Rattle.hart_frame.proofs.lemmas.wire.Truncated.{truncated_few}
use Rattle.hart_frame.proofs.scan.sighting.after_one.Goals.{else-eq-via-then-eq+else-can_stand_alone, else-eq-via-else-eq}
use Rattle.hart_frame.proofs.scan.sighting.after_one.Goals as goal

pub lone_body-requires-clause-whole : goal.lone_body-requires-clause-whole
lone_body-requires-clause-whole c = grind (arith, whole_seen, take_rest c.args.bytes.now c.args.start)

pub returns-in-Wrong : goal.returns-in-Wrong
returns-in-Wrong c =
    let is = rw (take_rest c.args.bytes.now c.args.start) at c.in-Wrong.ensures in
    not_alone c.args.bytes.now c.args.after.now c.args.start _ (wrong_seen _ _ c.requires.within _ _ is)

pub returns-then-can_stand_alone : goal.returns-then-can_stand_alone
returns-then-can_stand_alone c =
    let bytes = c.args.bytes.now in
    let start = c.args.start in
    let rest = take_rest bytes start in
    let truncated = cut_truncated (drop start bytes) c.in-Cut.missing (grind (arith, rest)) in
    let few = truncated_few (drop start bytes) (λ i. grind (arith, get_or-drop, c.type_inv.bytes)) truncated in
    let may : MayStandAlone (drop start bytes) 0 = rw rest at (c.can_stand_alone.ensures.may (grind arith)) in (
      grind arith,
      omega (arith, c.requires.one),
      omega (arith, few, length-drop start bytes, c.requires.within),
      may_moved (drop start bytes) bytes 0 start (omega arith) c.requires.within refl may,
    )

pub returns-else-eq : goal.returns-else-eq
returns-else-eq c = grind (arith, take_rest, alone_moved, cut_not_alone)
