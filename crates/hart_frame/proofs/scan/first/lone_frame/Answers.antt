use Rattle.hart_frame.proofs.Common.{arith, take_rest, moved, ◌≡◌, List, [], Found, Character, AreFrames, none, first}
use Rattle.hart_frame.proofs.lemmas.Laws.{every_list_has_frames}
use Rattle.hart_frame.specs.declared.scan.first.LoneFrame.{LoneFrame}
use Rattle.hart_frame.specs.heard.Frames.{IsLone, lone_of}
use Rattle.hart_frame.proofs.lemmas.heard.FramesFound.{AreFrames-one}
use Rattle.hart_frame.proofs.lemmas.scan.First.{first_copied, first_later, no_later, some_first}
use Rattle.hart_frame.proofs.scan.first.lone_frame.Goals as goal

-- The list of frames of a delivery decides whether the delivery has no frame, one frame alone or several.
only_said : (delivery : List Character) (said : LoneFrame) → IsLone delivery said
    → (frames : List Found) → AreFrames delivery 0 frames → said ≡ lone_of frames
only_said delivery said are frames others = grind (arith, AreFrames-one)

pub returns-in_default-clause-lone : goal.returns-in_default-clause-lone
returns-in_default-clause-lone c = none 0 c.in_default.ensures

pub returns-in_default-clause-only : goal.returns-in_default-clause-only
returns-in_default-clause-only c = only_said c.args.delivery.now _ (returns-in_default-clause-lone c)

pub returns-then-has_frame-clause-lone : goal.returns-then-has_frame-clause-lone
returns-then-has_frame-clause-lone c =
    let delivery = c.args.delivery.now in
    let stop = c.in-Some.span.stop in
    let (one, is_first, same) = some_first delivery c.first_span.new.buffer c.in-Some.span c.in-Some.ensures in
    let (rest, is_rest) = c.has_frame.ensures.some c.if-has_frame.true in
    let is_second = first_later delivery _ stop rest c.in-Some.ensures.within (grind (arith, take_rest)) is_rest in
    let later = every_list_has_frames delivery (moved stop rest).stop in
    (one, moved stop rest, later.0, first 0 one _ is_first (first one.stop _ later.0 (rw same is_second) later.1))

pub returns-then-has_frame-clause-only : goal.returns-then-has_frame-clause-only
returns-then-has_frame-clause-only c = only_said c.args.delivery.now _ (returns-then-has_frame-clause-lone c)

pub returns-clause-lone : goal.returns-clause-lone
returns-clause-lone c =
    let copied = c.found_at.ensures in
    let is_first = first_copied c.args.delivery.now c.first_span.new.buffer _ _ c.in-Some.ensures copied.frame copied.start copied.stop in
    let empty = no_later c.args.delivery.now _ c.in-Some.span.stop c.in-Some.ensures.within (grind (arith, take_rest))
    (c.has_frame.ensures.none c.if-has_frame.false) in
    first 0 _ [] is_first (none c.found_at.result.stop (rw copied.stop empty))

pub returns-clause-only : goal.returns-clause-only
returns-clause-only c = only_said c.args.delivery.now _ (returns-clause-lone c)
