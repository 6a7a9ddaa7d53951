-- How `hart serve` answers one line (implementation choice).
use Rattle.std.specs.Prelude.{◌≡◌, ◌⊎◌, ℕ, true, false, List, [], ◌∷◌, codes, Option, None, Some}
use Rattle.hart_frame.specs.heard.Character.{Character}
use Rattle.hart_frame.specs.wire.FrameParts.{FrameParts}
use Rattle.hart_device.specs.Bench.{bench_process}
use Rattle.hart_device.specs.Device.{DeviceState, restarted}
use Rattle.hart_device.specs.answer.Delivery.{Brings, Brought, answer_to, state_after_delivery}
use Rattle.hart_line.specs.script.Words.{named_in}
use Rattle.hart_text.specs.Items.{HasBadHex, IsBadHexAt, ReadsAs, ReadsUpTo}
use Rattle.hart_station.specs.FaultText.{fault_text}
use Rattle.hart_station.specs.declared.device_lines.LineWord.{LineWord}
use Rattle.hart_station.specs.declared.device_lines.LineWord.TheVariants.{Restart, Protect, Image, Counter}
use Rattle.hart_station.specs.declared.fault.TextFault.TheVariants.{BadHex}
use Rattle.hart_station.specs.Station.{bad_line}
use Rattle.hart_station.specs.Lines.{IsMessageLine, counter_line, image_line, line_of}

-- The words that a line may have instead of hex, spelled exactly like this.
abbrev pub line_words : List (List ℕ × LineWord)
line_words =
    (codes "restart", Restart)
    ∷ (codes "protect on", Protect true)
    ∷ (codes "protect off", Protect false)
    ∷ (codes "image", Image)
    ∷ (codes "counter", Counter)
    ∷ []

-- `restart` restarts the device, and `protect` switches its write protection; `image` and `counter` change nothing.
abbrev pub after_word : LineWord → DeviceState → DeviceState
after_word Restart device = restarted device
after_word (Protect protected) device = record device { protected = protected }
after_word Image device = device
after_word Counter device = device

-- The answers to `image` and `counter` are the lines that `hart sim` writes at its end for the image and the counter. The answer to any
-- other word is `ok`.
abbrev pub word_said : LineWord → DeviceState → List ℕ
word_said Image device = image_line device
word_said Counter device = counter_line device
word_said _ device = line_of (codes "ok" ∷ [])

-- The line for a device's answer: the message of the answer in hex, or `-` for silence. The message has as many preamble bytes as the
-- device's identity says.
abbrev pub IsReplyLine : DeviceState → Option FrameParts → List ℕ → Type 0
IsReplyLine device None said = said ≡ line_of (codes "-" ∷ [])
IsReplyLine device (Some reply) said = IsMessageLine reply device.identity.response_preambles said

-- A device hears a whole delivery at once. `said` is the line of the device's answer to the delivery, and `after` is the device's state
-- afterwards.
pub record Hears (device : DeviceState) (delivery : List Character) (after : DeviceState) (said : List ℕ) : Type 0 where
  pub brought : Brought
  pub brings : Brings device.identity delivery brought
  pub becomes : after ≡ state_after_delivery device brought
  pub answered : IsReplyLine device (answer_to device bench_process brought) said

-- A device's answer to one line, and the device's state afterwards. There are four kinds of lines: lines that are too long, the words, hex
-- for characters that the device hears, and bad hex. A line that is too long, or has bad hex, changes nothing.
pub data ServesLine (device : DeviceState) : Option (List ℕ) → DeviceState → List ℕ → Type 0 where
  too_long : ServesLine device None device (bad_line (codes "too long"))
  word : (line : List ℕ) (word : LineWord) → named_in line_words line ≡ Some word
      → ServesLine device (Some line) (after_word word device) (word_said word device)
  delivery : (line : List ℕ) (delivery : List Character) (after : DeviceState) (said : List ℕ) → named_in line_words line ≡ None
      → ReadsAs line delivery → Hears device delivery after said → ServesLine device (Some line) after said
  bad_hex : (line : List ℕ) (chars : List Character) (place : ℕ) → named_in line_words line ≡ None
      → IsBadHexAt line chars place → ServesLine device (Some line) device (bad_line (fault_text (BadHex place)))

-- Only private calls use the next definition.

-- A text was read as characters, and the device heard them. If the text has bad hex instead, the device is unchanged, and the answer names
-- the place.
abbrev pub HearsText : DeviceState → List ℕ → DeviceState → List ℕ → Type 0
HearsText device text after said =
    ((delivery : List Character) × ReadsUpTo text delivery [] × Hears device delivery after said)
    ⊎ ((chars : List Character) × (place : ℕ) × HasBadHex text chars place × (after ≡ device)
    × (said ≡ bad_line (fault_text (BadHex place))))
