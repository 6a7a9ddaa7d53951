use Rattle.std.proofs.Common.{arith}
use Rattle.std.proofs.lemmas.Grind.{common_steps}
use Rattle.hart_device.proofs.lemmas.Laws.{images_have_no_fault}
use Rattle.hart_device.proofs.device.Device.from_image.Goals as goal

pub returns-in_err-parts-clause-accepted : goal.returns-in_err-parts-clause-accepted
returns-in_err-parts-clause-accepted g c =
    let err = c.from_residual.ensures.0 in (
      grind (arith, common_steps),
      λ image. absurd (images_have_no_fault image.0 c.args.image.now c.in_err-parts.field-0.0 image.1 c.in_err-parts.ensures.refused),
    )

pub returns : goal.returns
returns g c = grind (arith, common_steps, c.in_ok-parts.ensures.kept c.args.identity)
