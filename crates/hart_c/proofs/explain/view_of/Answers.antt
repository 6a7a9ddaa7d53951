use Rattle.std.proofs.Common.{arith, refl}
use Rattle.std.proofs.lemmas.Grind.{common_steps}
use Rattle.hart_c.proofs.Shown.{found_in_message}
use Rattle.hart_c.proofs.explain.view_of.Goals as goal

pub unwrap-requires : goal.unwrap-requires
unwrap-requires c =
    let found = found_in_message c.requires.0 c.args.message.now c.next_in_bytes.result.frame c.next_in_bytes.result.used c.requires.1
    c.next_in_bytes.ensures.frames (λ none. c.next_in_bytes.ensures.all none refl) in
    grind (arith, common_steps, found.1)

pub returns : goal.returns
returns c frame is =
    let found = found_in_message frame c.args.message.now c.next_in_bytes.result.frame c.next_in_bytes.result.used is
    c.next_in_bytes.ensures.frames (λ none. c.next_in_bytes.ensures.all none refl) in
    grind (arith, common_steps, found.1, found.2)
