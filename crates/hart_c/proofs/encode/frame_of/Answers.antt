use Rattle.std.proofs.Common.{◌≡◌, ◌≤◌, Err, Ok, Result, arith, inl, inr, refl}
use Rattle.std.proofs.lemmas.Grind.{common_steps}
use Rattle.std.specs.Result.{IfErr, IsErr}
use Rattle.hart_frame.specs.declared.wire.fault.FrameFault.TheVariants.{TooShortReply}
use Rattle.hart_frame.specs.wire.FrameParts.{IsLongEnough}
use Rattle.hart_c.specs.Faults.{IsFirstOf}
use Rattle.hart_c.specs.Messages.{IsInRange, frame_checks}
use Rattle.hart_c.specs.Numbers.{frame_in}
use Rattle.hart_c.specs.declared.fault.Fault.{Fault}
use Rattle.hart_c.specs.declared.fault.Fault.TheVariants.{Frame}
use Rattle.hart_c.specs.declared.frame.HartFrame.{HartFrame}
use Rattle.hart_c.proofs.encode.frame_of.Goals as goal

-- a reply that is too short is refused by the last check of a frame
too_short : (frame : HartFrame) (fault : Fault) → IsInRange frame.is_unique frame → frame.expansion_len ≤ 3
    → (IsLongEnough (frame_in frame).kind (frame_in frame).payload → ⊥) → fault ≡ Frame TooShortReply
    → IsFirstOf (frame_checks frame) fault
too_short frame fault is few short told = inr (is, inr (few, inl (short, told)))

-- if no frame is made, the fault is the fault of the first check that refuses the frame
not_made : {T : Type 0} (frame : HartFrame) (result : Result T Fault) → IsInRange frame.is_unique frame → frame.expansion_len ≤ 3
    → (IsErr result → (IsLongEnough (frame_in frame).kind (frame_in frame).payload → ⊥))
    → IfErr result (λ fault. fault ≡ Frame TooShortReply) → IfErr result (IsFirstOf (frame_checks frame))
not_made frame (Ok made) is few short told = tt
not_made frame (Err fault) is few short told = too_short frame fault is few (short refl) told

pub returns-clause-refused : goal.returns-clause-refused
returns-clause-refused c =
    let frame = c.args.frame.now in
    let is : IsInRange frame.is_unique frame = grind (arith, common_steps) in
    let few : frame.expansion_len ≤ 3 = grind (arith, common_steps) in
    let short : IsErr c.map_err.result → (IsLongEnough (frame_in frame).kind (frame_in frame).payload → ⊥) =
    grind (arith, common_steps) in
    let told : IfErr c.map_err.result (λ fault. fault ≡ Frame TooShortReply) = grind (arith, common_steps) in
    not_made frame c.map_err.result is few short told
