-- How `hart master` answers one line (implementation choice).
use Rattle.std.specs.Prelude.{◌≡◌, ◌≤◌, ◌<◌, ◌⊎◌, ℕ, ◌+◌, ◌&&◌, Bool, true, List, [], ◌∷◌, ◌++◌, codes, decimal, drop, if◌then◌else◌, take}
use Rattle.std.specs.Prelude.{Option, None, Some, Result, Ok, Err}
use Rattle.std.specs.Str.{bytes_eq}
use Rattle.hart_values.specs.declared.master_id.MasterId.{MasterId}
use Rattle.hart_frame.specs.declared.heard.found.Found.{Found}
use Rattle.hart_frame.specs.heard.Character.{Character}
use Rattle.hart_frame.specs.heard.Frames.{AreFrames}
use Rattle.hart_frame.specs.wire.FrameParts.{FrameParts}
use Rattle.hart_frame.specs.wire.Message.{IsPreambleCount}
use Rattle.hart_text.specs.Lines.{is_blank}
use Rattle.hart_master.specs.FrameMaster.{BringsReply, FrameMasterState, IsRequestFrame, event_ticked, frame_due, hand_received}
use Rattle.hart_master.specs.FrameMaster.{hand_sent, hand_submitted, hand_ticked, result_submitted, sendings_of}
use Rattle.hart_master.specs.declared.fault.MasterFault.{MasterFault}
use Rattle.hart_master.specs.declared.fault.MasterFault.TheVariants.{OutOfRange, Pending, WrongAddress}
use Rattle.hart_master.specs.declared.frame_event.FrameEvent.{FrameEvent}
use Rattle.hart_master.specs.declared.frame_event.FrameEvent.TheVariants.{Answered, NoReply, Nothing, Retry}
use Rattle.hart_master.specs.declared.frame_event.RejectedFrame.{RejectedFrame}
use Rattle.hart_master.specs.declared.frame_hand.FrameHand.{FrameHand}
use Rattle.hart_master.specs.declared.frame_hand.FrameHand.TheVariants.{Empty}
use Rattle.hart_text.specs.Items.{HasBadHex, IsBadHexAt, ReadsAs, ReadsUpTo}
use Rattle.hart_station.specs.FaultText.{fault_text}
use Rattle.hart_station.specs.declared.ask.Ask.{Ask}
use Rattle.hart_station.specs.declared.master_lines.MasterSettings.{MasterSettings}
use Rattle.hart_station.specs.declared.ask.Ask.TheVariants.{Send, Submit, Tick}
use Rattle.hart_station.specs.declared.fault.TextFault.{TextFault}
use Rattle.hart_station.specs.declared.fault.TextFault.TheVariants.{BadHex}
use Rattle.hart_station.specs.Ask.{ReadsAsk}
use Rattle.hart_station.specs.Station.{bad_line}
use Rattle.hart_station.specs.Lines.{IsMessageLine, bytes_word, line_of}

-- A master that answers lines: whether it is the primary or the secondary master, how many preamble bytes it sends, and its state.
pub record LineMaster : Type 0 where
  pub who : MasterId
  pub preambles : ℕ
  pub master : FrameMasterState

-- The master at the beginning of a session of `hart master`. It has no request in hand.
abbrev pub new_master : MasterSettings → LineMaster
new_master settings = record {
  who = settings.who;
  preambles = settings.preambles;
  master = record { retries = settings.retries; reply_limit = settings.reply_limit; hand = Empty };
}

-- The limits of settings: at most 15 retries, a reply timeout of at least 1, and 5 to 20 preamble bytes.
abbrev pub AreSettings : MasterSettings → Type 0
AreSettings settings = (settings.retries ≤ 15) × (0 < settings.reply_limit) × IsPreambleCount settings.preambles

-- The same master, with `hand` in hand.
abbrev pub with_hand : LineMaster → FrameHand → LineMaster
with_hand asker hand = record asker { master = record asker.master { hand = hand } }

-- Whether a text is empty, or begins with a space or a tab.
abbrev pub begins_blank : List ℕ → Bool
begins_blank [] = true
begins_blank (byte ∷ more) = is_blank byte

-- The items of a line that says what was heard: all that follows the word `heard`. The items begin with a space or a tab, or are empty.
-- `None` for any other line.
abbrev pub items_of : List ℕ → Option (List ℕ)
items_of line = if bytes_eq (take 5 line) (codes "heard") && begins_blank (drop 5 line) then Some (drop 5 line) else None

-- The line `-`, which says that nothing happened.
abbrev pub dash_line : List ℕ
dash_line = line_of (codes "-" ∷ [])

-- The line for a reply: `answered`, the number of sendings, and the payload in hex.
abbrev pub answered_line : ℕ → List ℕ → List ℕ
answered_line sendings payload = line_of (codes "answered" ∷ decimal sendings ∷ bytes_word payload ∷ [])

-- The text of a fault of a master.
abbrev pub master_fault_text : MasterFault → List ℕ
master_fault_text OutOfRange = codes "out of range"
master_fault_text Pending = codes "a request is pending"
master_fault_text WrongAddress = codes "wrong address"

-- The answer to a new request: `ok` if the master took the request, and otherwise the master's fault.
abbrev pub submitted_line : Result (Unit {0}) RejectedFrame → List ℕ
submitted_line (Ok done) = line_of (codes "ok" ∷ [])
submitted_line (Err rejected) = codes "refused: " ++ master_fault_text rejected.fault ++ 10 ∷ []

-- The answer after time has passed. `retry` says that the request is due again, and `noreply` says how often the request was sent before it
-- was given up. If neither happened, the answer is `-`.
abbrev pub ticked_line : FrameEvent → List ℕ
ticked_line (Answered sendings) = dash_line
ticked_line Nothing = dash_line
ticked_line Retry = line_of (codes "retry" ∷ [])
ticked_line (NoReply sendings) = line_of (codes "noreply" ∷ decimal sendings ∷ [])

-- The line of the word `send` and the message of the frame with this number of preamble bytes.
pub record IsSendLine (preambles : ℕ) (frame : FrameParts) (said : List ℕ) : Type 0 where
  pub message_line : List ℕ
  pub is_line : IsMessageLine frame preambles message_line
  pub whole : said ≡ codes "send " ++ message_line

-- The line for the message that is due, or `-` if no message is due.
abbrev pub IsDueLine : ℕ → Option FrameParts → List ℕ → Type 0
IsDueLine preambles None said = said ≡ dash_line
IsDueLine preambles (Some frame) said = IsSendLine preambles frame said

-- The answer to a delivery. If its only frame is the reply to the request in hand, the answer has the payload of this reply. Otherwise the
-- answer is `-`.
pub data Hears (hand : FrameHand) (delivery : List Character) : FrameEvent → List ℕ → Type 0 where
  answered : (found : Found) → AreFrames delivery 0 (found ∷ []) → BringsReply hand found.frame
      → Hears hand delivery (Answered (sendings_of hand)) (answered_line (sendings_of hand) found.frame.payload)
  nothing : ((found : Found) → AreFrames delivery 0 (found ∷ []) → BringsReply hand found.frame → ⊥) → Hears hand delivery Nothing dash_line

-- What the master has in hand after it did what a line asks.
abbrev pub hand_asked : FrameMasterState → Ask → FrameHand
hand_asked master (Submit request) = hand_submitted master.hand request
hand_asked master Send = hand_sent master.hand
hand_asked master (Tick count) = hand_ticked master.retries master.reply_limit master.hand count

-- The answer to a line that asks something.
abbrev pub IsAskedLine : LineMaster → Ask → List ℕ → Type 0
IsAskedLine asker (Submit request) said = said ≡ submitted_line (result_submitted asker.master.hand request)
IsAskedLine asker Send said = IsDueLine asker.preambles (frame_due asker.master.hand) said
IsAskedLine asker (Tick count) said =
    said ≡ ticked_line (event_ticked asker.master.retries asker.master.reply_limit asker.master.hand count)

-- A master's answer to one line, and the master afterwards. A bad line changes nothing. A line is bad if it is too long, if it has bad hex
-- after `heard`, or if it has a bad word. The place of bad hex is counted from the beginning of the line.
pub data ServesMasterLine (asker : LineMaster) : Option (List ℕ) → LineMaster → List ℕ → Type 0 where
  too_long : ServesMasterLine asker None asker (bad_line (codes "too long"))
  heard : (line items : List ℕ) (delivery : List Character) (event : FrameEvent) (said : List ℕ) → items_of line ≡ Some items
      → ReadsAs items delivery → Hears asker.master.hand delivery event said
      → ServesMasterLine asker (Some line) (with_hand asker (hand_received asker.master.hand event)) said
  bad_hex : (line items : List ℕ) (chars : List Character) (place : ℕ) → items_of line ≡ Some items → IsBadHexAt items chars place
      → ServesMasterLine asker (Some line) asker (bad_line (fault_text (BadHex (5 + place))))
  asked : (line : List ℕ) (ask : Ask) (said : List ℕ) → items_of line ≡ None → ReadsAsk asker.who line (Ok ask)
      → IsAskedLine asker ask said → ServesMasterLine asker (Some line) (with_hand asker (hand_asked asker.master ask)) said
  bad_word : (line : List ℕ) (fault : TextFault) → items_of line ≡ None → ReadsAsk asker.who line (Err fault)
      → ServesMasterLine asker (Some line) asker (bad_line (fault_text fault))

-- Only private calls use the definitions from here on.

-- A text was read as characters, and the master heard them. If the text has bad hex instead, the master is unchanged, and the answer names
-- the place.
abbrev pub HearsItems : LineMaster → List ℕ → LineMaster → List ℕ → Type 0
HearsItems asker text after said =
    ((delivery : List Character) × (event : FrameEvent) × ReadsUpTo text delivery [] × Hears asker.master.hand delivery event said
    × (after ≡ with_hand asker (hand_received asker.master.hand event)))
    ⊎ ((chars : List Character) × (place : ℕ) × HasBadHex text chars place × (after ≡ asker)
    × (said ≡ bad_line (fault_text (BadHex (5 + place)))))

-- If a line asks the master to take a frame in hand, this frame is the request of a master (`IsRequestFrame`).
abbrev pub IsProper : Ask → Type 0
IsProper (Submit request) = IsRequestFrame request
IsProper Send = Unit {0}
IsProper (Tick count) = Unit {0}
