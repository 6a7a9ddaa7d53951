-- What `hart answer` writes for its input (implementation choice).
use Rattle.std.specs.Prelude.{◌≡◌, ℕ, List, [], Option, None, Some}
use Rattle.hart_frame.specs.heard.Character.{Character}
use Rattle.hart_frame.specs.wire.FrameParts.{FrameParts}
use Rattle.hart_device.specs.Bench.{bench_process}
use Rattle.hart_device.specs.answer.Delivery.{Brings, Brought, answer_to}
use Rattle.hart_device.specs.Device.{DeviceState}
use Rattle.hart_text.specs.Items.{ReadsAs}
use Rattle.hart_cli.specs.ImageWord.{OutcomeWith, OutcomeRelation}
use Rattle.hart_cli.specs.input.InputChars.{IsWholeTextFault}
use Rattle.hart_station.specs.Lines.{IsMessageLine}
use Rattle.hart_cli.specs.input.WholeInput.{WholeOutcome}

-- The text of a device's answer is one line: the message of the answer in hex. This message has as many preamble bytes as the device's
-- identity says. If the device is silent, the text is empty.
abbrev pub IsAnswerText : DeviceState → Option FrameParts → List ℕ → Type 0
IsAnswerText device None text = text ≡ []
IsAnswerText device (Some reply) text = IsMessageLine reply device.identity.response_preambles text

-- The text of the device's answer to a delivery.
pub record IsTextFor (device : DeviceState) (delivery : List Character) (text : List ℕ) : Type 0 where
  pub brought : Brought
  pub brings : Brings device.identity delivery brought
  pub answered : IsAnswerText device (answer_to device bench_process brought) text

-- The text of the device's answer to an input, which is read as one delivery.
pub record IsAnswer (device : DeviceState) (input text : List ℕ) : Type 0 where
  pub delivery : List Character
  pub reads : ReadsAs input delivery
  pub text_for : IsTextFor device delivery text

-- If no device could be made from the image, a call of `answer` returned the reason. Otherwise, at `Ok`, it wrote the device's answer to
-- the whole input. If a write failed, it wrote a prefix of that answer. At any other fault it wrote nothing.
abbrev pub AnswerOutcome : Option (List ℕ) → OutcomeRelation
AnswerOutcome = OutcomeWith (λ device. WholeOutcome (IsAnswer device) IsWholeTextFault)
