use Rattle.std.proofs.Common.{◌+◌, ◌∙◌, ap, refl, sym}
use Rattle.hart_frame.specs.wire.View.{parts_of}
use Rattle.hart_listen.specs.Before.{is_request}
use Rattle.hart_listen.specs.LastMessages.{listed}
use Rattle.hart_listen.proofs.lemmas.Before.{few_one, reply_agrees, reply_uncounted, request_agrees, request_unanswered}
use Rattle.hart_listen.proofs.last_messages.hear_frame.Goals as goal

pub returns-in-Stx-clause-answers : goal.returns-in-Stx-clause-answers
returns-in-Stx-clause-answers c =
    sym (request_unanswered (parts_of c.args.frame.now) (listed c.args.last.now) (ap is_request (sym c.kind.ensures ∙ c.in-Stx.is)))

pub returns-in-Stx-clause-agree : goal.returns-in-Stx-clause-agree
returns-in-Stx-clause-agree c stop =
    let frame = parts_of c.args.frame.now in
    let is = ap is_request (sym c.kind.ensures ∙ c.in-Stx.is) in
    rw c.hear_request.ensures.kept (request_agrees c.args.start stop _ frame (listed c.args.last.now) is refl)

pub returns-in-Stx-clause-own : goal.returns-in-Stx-clause-own
returns-in-Stx-clause-own c master most is own =
    rw c.hear_request.ensures.kept
    (record { own = is; few = few_one master most c.args.last.now (parts_of c.args.frame.now) own })

pub returns-in-Ack-clause-sending : goal.returns-in-Ack-clause-sending
returns-in-Ack-clause-sending c =
    let is = ap is_request (sym c.kind.ensures ∙ c.in-Ack.is) in
    ap (λ x. 1 + x) (sym (reply_uncounted (parts_of c.args.frame.now) (listed c.args.last.now) is))

pub returns-in-Ack-clause-agree : goal.returns-in-Ack-clause-agree
returns-in-Ack-clause-agree c stop =
    let is = ap is_request (sym c.kind.ensures ∙ c.in-Ack.is) in
    rw c.hear_reply.ensures.kept
    (reply_agrees c.args.last.now (record { start = c.args.start; stop = stop; frame = parts_of c.args.frame.now }) is)
