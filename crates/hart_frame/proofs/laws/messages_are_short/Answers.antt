use Rattle.hart_frame.proofs.Common.{[], length, arith, length-append, append-nil, length-replicate}
use Rattle.hart_frame.proofs.lemmas.wire.Parity.{fits_at}
use Rattle.hart_frame.proofs.lemmas.wire.Refusal.{says}
use Rattle.hart_frame.proofs.lemmas.wire.UnambiguousBodies.{BeginsWithBody-append, address_type-lt}
use Rattle.hart_frame.proofs.laws.messages_are_short.Goals as goal

pub returns-clause-body : goal.returns-clause-body
returns-clause-body c = λ f body is.
    grind (arith, fits_at, address_type-lt, append-nil, says body f (length body), BeginsWithBody-append f body [])

pub returns-clause-message : goal.returns-clause-message
returns-clause-message c = λ f preambles message few is.
    let short = returns-clause-body c f is.body is.is_body in grind (arith, length-append, length-replicate)
