-- A delivery brings a device a frame, a garbled request or no message. The answer to a garbled request is the reply to it.
use Rattle.std.proofs.Common.{◌≡◌, inl, inr, List, [], ◌∷◌, ap, ◌∙◌, refl, Option, None, Some, arith}
use Rattle.std.proofs.lemmas.Grind.{common_steps}
use Rattle.std.specs.Option.{MatchOption}
use Rattle.hart_frame.specs.declared.heard.found.Found.{Found}
use Rattle.hart_frame.specs.heard.Character.{Character}
use Rattle.hart_frame.specs.wire.FrameParts.{FrameParts}
use Rattle.hart_frame.proofs.lemmas.Laws.{every_list_has_frames, frames_are_unambiguous-one_list}
use Rattle.hart_device.specs.Device.{DeviceState}
use Rattle.hart_device.specs.answer.Delivery.{Brings, BringsBy, Brought, Garbled, NoMessage, OneFrame, answer_to}
use Rattle.hart_device.specs.answer.Garbled.{HasGarbled, garbled_reply}
use Rattle.hart_device.specs.declared.answer.garbled.GarbledRequest.{GarbledRequest}
use Rattle.hart_device.specs.declared.identity_parts.IdentityParts.{IdentityParts}
use Rattle.hart_device.specs.declared.process.Process.{Process}
use Rattle.hart_device.proofs.lemmas.answer.Garbled.{garbled_decided, garbled_one}

brings_one : (identity : IdentityParts) (chars : List Character) (frames : List Found) (a b : Brought)
    → BringsBy identity chars frames a → BringsBy identity chars frames b → a ≡ b
brings_one identity chars [] (Garbled request) (Garbled other) p q = ap Garbled (garbled_one identity chars request other p q)
brings_one identity chars [] (Garbled request) NoMessage p q = absurd (q request p)
brings_one identity chars [] NoMessage (Garbled request) p q = absurd (p request q)
brings_one identity chars frames a b p q = grind arith

-- a delivery brings at most one thing
pub deliveries_bring_one-one : (identity : IdentityParts) (chars : List Character) (a b : Brought)
    → Brings identity chars a → Brings identity chars b → a ≡ b
deliveries_bring_one-one identity chars a b p q =
    let same : p.frames ≡ q.frames = grind (arith, frames_are_unambiguous-one_list, p.are_frames, q.are_frames) in
    brings_one identity chars q.frames a b (rw same at p.by_frames) q.by_frames

-- every delivery brings a frame, a garbled request or no message, whatever frames it has
BringsBy-found : (identity : IdentityParts) (chars : List Character) (frames : List Found)
    → (brought : Brought) × BringsBy identity chars frames brought
BringsBy-found identity chars [] = elim (garbled_decided identity chars) [
  | inl has ↦ (Garbled has.0, has.1)
  | inr none ↦ (NoMessage, none)
]
BringsBy-found identity chars (found ∷ []) = (OneFrame found.frame, refl)
BringsBy-found identity chars (found ∷ other ∷ more) = (NoMessage, refl)

pub deliveries_bring_one-brings : (identity : IdentityParts) (chars : List Character)
    → (brought : Brought) × Brings identity chars brought
deliveries_bring_one-brings identity chars =
    let frames = every_list_has_frames chars 0 in
    let brings = BringsBy-found identity chars frames.0 in grind (arith, common_steps, frames_are_unambiguous-one_list)

-- whether an answer is the reply to the garbled request of a delivery, or `None` if there is no such request
abbrev pub IsGarbledReply : IdentityParts → List Character → Option FrameParts → Type 0
IsGarbledReply identity chars answer = MatchOption answer ((request : GarbledRequest) → HasGarbled identity chars request → ⊥)
    (λ reply. (request : GarbledRequest) × HasGarbled identity chars request × (reply ≡ garbled_reply identity request))

pub reply_by : (state : DeviceState) (process : Process) (chars : List Character) (brought : Brought) (answer : Option FrameParts)
    → BringsBy state.identity chars [] brought → IsGarbledReply state.identity chars answer → answer ≡ answer_to state process brought
reply_by state process chars (Garbled request) (Some reply) has is =
    ap Some (is.2 ∙ ap (garbled_reply state.identity) (garbled_one state.identity chars is.0 request is.1 has))
reply_by state process chars NoMessage (Some reply) nothing is = absurd (nothing is.0 is.1)
reply_by state process chars (Garbled request) None has none = absurd (none request has)
reply_by state process chars brought answer brings is = grind arith
