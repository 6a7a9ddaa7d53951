use Rattle.std.proofs.Common.{◌≡◌, true, inl, inr, List, Result, Ok, Err, [], ◌++◌, All, arith, map, refl}
use Rattle.std.proofs.Common.{subst, sym, take}
use Rattle.std.proofs.lemmas.Grind.{common_steps}
use Rattle.std.proofs.lemmas.List.Elements.{All-head}
use Rattle.hart_frame.specs.declared.heard.found.Found.{Found}
use Rattle.hart_frame.specs.declared.wire.fault.FrameFault.{FrameFault}
use Rattle.hart_commands.specs.declared.reply.Reply.{Reply}
use Rattle.hart_frame.proofs.lemmas.Laws.{every_list_has_frames}
use Rattle.hart_c.specs.Messages.{IsFrame}
use Rattle.hart_frame.specs.wire.FaultNumbers.{frame_fault_number}
use Rattle.hart_c.specs.Acceptance.{acceptance_of}
use Rattle.hart_c.specs.Master.{Accepts}
use Rattle.hart_c.specs.declared.reason.Unaccepted.{Unaccepted}
use Rattle.hart_c.specs.declared.find.HartChar.{HartChar}
use Rattle.hart_c.specs.Numbers.{found_in}
use Rattle.hart_c.specs.declared.frame.HartFrame.{HartFrame}
use Rattle.hart_c.proofs.Shown.{HasBody, all_have, shown}
use Rattle.hart_c.proofs.laws.shown_frames_can_be_written.Goals as goal

-- a frame that is shown has a body
has : (frames : List HartFrame) (others : List Found) → All HasBody (map found_in frames ++ others)
    → All (λ frame. HasBody (found_in frame)) frames
has frames others all index other within = grind (arith, common_steps, all index (found_in other))

pub returns-clause-found : goal.returns-clause-found
returns-clause-found c chars ended before after search finds index other within =
    let rest = every_list_has_frames (chars ++ []) search.used in
    let all = all_have _ _ _ (finds.next.leads [] rest.0 (λ closed. refl) rest.1) in
    let body = has (take search.count after) _ all index other within in
    shown _ body.0 body.1 (finds.tidy index other within)

-- the number of a fault is never 0
a_fault : (fault : FrameFault) → frame_fault_number fault ≡ 0 → ⊥
a_fault fault is = grind arith

pub returns-clause-decoded : goal.returns-clause-decoded
returns-clause-decoded c bytes before after outcome told free = elim told [
  | inl is ↦ shown after _ is.1.0.body is.1.3
  | inr why ↦ absurd (grind (arith, a_fault))
]

-- a reply that is accepted is a frame that was found
of_reply : (numbers : HartFrame) (heard : List HartChar) (before after : HartFrame) (said : Result Reply Unaccepted)
    → Accepts numbers heard before after said → (acceptance_of (Ok said)).is_accepted ≡ true → IsFrame after
of_reply numbers heard before after (Err reason) is told = cc
of_reply numbers heard before after (Ok reply) is told =
    let found = is.reply.0.found in
    let has_body : HasBody (found_in after) =
    subst HasBody (sym is.reply.1) (All-head HasBody found [] (all_have _ _ _ is.reply.0.alone)) in
    shown after has_body.0 has_body.1 is.reply.2

pub returns-clause-accepted : goal.returns-clause-accepted
returns-clause-accepted c numbers heard before after acceptance told is_accepted = elim told [
  | inl is ↦ of_reply numbers heard before after is.0 is.1 (cc)
  | inr why ↦ cc
]
