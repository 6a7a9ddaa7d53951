use Rattle.std.proofs.Common.{◌≡◌, ◌<◌, ℕ, List, Option, None, Some, Result, Ok, Err, arith, length, option_map, subst, sym}
use Rattle.std.proofs.lemmas.Grind.{common_steps}
use Rattle.std.specs.Result.{IfErr}
use Rattle.hart_frame.specs.wire.FrameParts.{FrameParts}
use Rattle.hart_frame.specs.wire.Message.{IsMessage}
use Rattle.hart_c.specs.Device.{IsSaid}
use Rattle.hart_c.specs.Messages.{HasNoRoom}
use Rattle.hart_c.specs.declared.fault.Fault.{Fault}
use Rattle.hart_c.specs.declared.fault.Fault.TheVariants.{NoRoom}
use Rattle.hart_c.proofs.device.say.Goals as goal

-- If the message of an answer is longer than the output, `HasNoRoom` is true of the answer.
no_room : {T : Type 0} (result : Result T Fault) (said : Option FrameParts) (frame : FrameParts) (preambles room : ℕ) (message : List ℕ)
    → said ≡ Some frame → IsMessage frame preambles message → IfErr result (λ fault. (fault ≡ NoRoom) × (room < length message))
    → IfErr result (λ fault. (fault ≡ NoRoom) × HasNoRoom (IsSaid said preambles) room)
no_room (Ok done) said frame preambles room message is message_is refused = tt
no_room (Err fault) None frame preambles room message is message_is refused = absurd cc
no_room (Err fault) (Some reply) frame preambles room message is message_is refused =
    let same : reply ≡ frame = grind arith in
    (refused.0, (message, subst (λ (parts : FrameParts). IsMessage parts preambles message) (sym same) message_is, refused.1))

pub returns-clause-refused : goal.returns-clause-refused
returns-clause-refused c = no_room c.put.result (option_map (λ frame. frame.now) c.args.said) c.in-Some.frame.now c.args.preambles _
    c.as_slice.result.now (grind (arith, common_steps, c.in-Some.is)) (grind (arith, common_steps)) c.put.ensures.refused
