use Rattle.std.proofs.Common.{◌∷◌, [], Some, arith, sym}
use Rattle.std.proofs.lemmas.Bool.Decides.{Decides-eqb}
use Rattle.std.proofs.lemmas.Slice.Eq.{strip_suffix_is}
use Rattle.hart_listen.proofs.lemmas.Held.{after_few}
use Rattle.hart_listen.proofs.lemmas.Preambles.{usual_counted}
use Rattle.hart_listen.proofs.past.preambles_of_message.Goals as goal

pub overflow_add-result : goal.overflow_add-result
overflow_add-result c =
    omega (arith, c.preambles_after.ensures, after_few c.args.preambles c.in-Some.rest.now, c.in-Some.ensures.cases.2, c.requires)

pub returns-in-Some : goal.returns-in-Some
returns-in-Some c =
    let stripped = strip_suffix_is Decides-eqb c.args.bytes.now (255 ∷ 255 ∷ 255 ∷ 255 ∷ 255 ∷ []) (Some c.in-Some.rest)
    c.in-Some.ensures.cases in
    rw c.preambles_after.ensures (sym (usual_counted c.args.preambles c.args.bytes.now c.in-Some.rest.now stripped))
