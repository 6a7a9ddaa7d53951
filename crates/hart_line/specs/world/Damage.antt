-- What arrives of a message that was sent in a leg of the line (HCF_SPEC-081; which damage counts as detected is an implementation choice).
use Rattle.std.specs.Prelude.{◌≡◌, ◌⊎◌, ℕ, List, [], ◌∷◌, Option, None, Some}
use Rattle.hart_line.specs.Types.{Character, FrameParts, Brought, Heard, Clean, Lost, Chars}
use Rattle.hart_frame.specs.heard.Character.{faultless}
use Rattle.hart_frame.specs.heard.Damage.{IsCheckDamage, IsMarkedDamage}
use Rattle.hart_frame.specs.heard.Frames.{AreFrames}
use Rattle.hart_frame.specs.wire.Message.{IsMessage}
use Rattle.hart_frame.specs.declared.heard.found.Found.{Found}
use Rattle.hart_device.specs.answer.Delivery.{BringsBy}
use Rattle.hart_device.specs.declared.identity_parts.IdentityParts.{IdentityParts}
use Rattle.hart_line.specs.world.Spoken.{SpokenFrame, frame_of}

-- In a clean leg, the message that was sent is heard without faults, or nothing is heard if nothing was sent. In a lost leg, nothing is
-- heard. In any other leg, the given characters are heard.
abbrev pub AreHeard : Heard → Option SpokenFrame → List Character → Type 0
AreHeard Clean None chars = chars ≡ []
AreHeard Clean (Some said) chars =
    (bytes : List ℕ) × IsMessage said.frame said.preambles bytes × (chars ≡ faultless bytes)
AreHeard Lost sent chars = chars ≡ []
AreHeard (Chars given) sent chars = chars ≡ given

-- The damage of what was heard is detected in two cases. In the first case no frame was heard, and nothing arrives. In the second case
-- exactly one frame was heard, it is the sent frame, and it arrives. So if nothing was sent, any frame that is heard is undetected damage.
abbrev pub IsDetected : Option FrameParts → List Found → Option FrameParts → Type 0
IsDetected sent [] arrived = arrived ≡ None
IsDetected sent (found ∷ []) arrived = (sent ≡ Some found.frame) × (arrived ≡ sent)
IsDetected sent (found ∷ other ∷ more) arrived = ⊥

-- The damage of these characters is detected. If they are heard, what arrives is `arrived`: the frame that was sent, or nothing.
pub record ArrivesAmong (chars : List Character) (sent arrived : Option FrameParts) : Type 0 where
  pub frames : List Found
  pub are_frames : AreFrames chars 0 frames
  pub detected : IsDetected sent frames arrived

-- What these characters bring the device after `sent` was sent: the sent frame, a garbled request, or no message. The damage of the
-- characters is detected.
pub record ReachesAmong (identity : IdentityParts) (chars : List Character) (sent : Option FrameParts) (brought : Brought) : Type 0 where
  pub frame : Option FrameParts
  pub arrives : ArrivesAmong chars sent frame
  pub brings : BringsBy identity chars arrives.frames brought

-- The damage of characters is undetected if they have a frame other than the sent frame, or several frames.
pub record IsUndetectedAmong (chars : List Character) (sent : Option FrameParts) : Type 0 where
  pub frames : List Found
  pub are_frames : AreFrames chars 0 frames
  pub not_detected : (arrived : Option FrameParts) → IsDetected sent frames arrived → ⊥

-- What arrives in a leg, given the characters that are heard in the leg: a frame or nothing.
pub record Arrives (heard : Heard) (sent : Option SpokenFrame) (arrived : Option FrameParts) : Type 0 where
  pub chars : List Character
  pub are_heard : AreHeard heard sent chars
  pub among : ArrivesAmong chars (frame_of sent) arrived

-- What a leg brings the device, given the characters that are heard in the leg.
pub record Reaches (identity : IdentityParts) (heard : Heard) (sent : Option SpokenFrame) (brought : Brought) : Type 0 where
  pub chars : List Character
  pub are_heard : AreHeard heard sent chars
  pub among : ReachesAmong identity chars (frame_of sent) brought

-- The damage of a leg is undetected if the damage of the characters that are heard in the leg is undetected.
pub record IsUndetected (heard : Heard) (sent : Option SpokenFrame) : Type 0 where
  pub chars : List Character
  pub are_heard : AreHeard heard sent chars
  pub among : IsUndetectedAmong chars (frame_of sent)

-- The damage of a clean or lost leg is detectable. The damage of given characters is detectable if a message was sent and the characters
-- are this message with marked damage or check damage. If nothing was sent, the damage of given characters is not detectable.
abbrev pub IsDetectable : Heard → Option SpokenFrame → Type 0
IsDetectable Clean sent = Unit {0}
IsDetectable Lost sent = Unit {0}
IsDetectable (Chars chars) None = ⊥
IsDetectable (Chars chars) (Some said) =
    IsMarkedDamage said.frame said.preambles chars ⊎ IsCheckDamage said.frame said.preambles chars
