-- One line that a master answers.
use Rattle.std.proofs.Common.{◌≡◌, ◌-◌, ℕ, List, [], ◌∷◌, ◌++◌, true, false, None, Some, Ok, Err, codes, length, take}
use Rattle.std.proofs.Common.{refl, arith, inl, inr}
use Rattle.std.proofs.lemmas.Grind.{common_steps}
use Rattle.hart_frame.specs.declared.heard.found.Found.{Found}
use Rattle.hart_frame.specs.declared.scan.first.LoneFrame.{LoneFrame}
use Rattle.hart_frame.specs.declared.scan.first.LoneFrame.TheVariants.{Alone}
use Rattle.hart_frame.specs.heard.Character.{Character}
use Rattle.hart_frame.specs.heard.Frames.{lone_of, AreFrames}
use Rattle.hart_master.specs.FrameMaster.{BringsReply, FrameMasterState, IsReceived, hand_received, sendings_of}
use Rattle.hart_master.specs.declared.frame_event.FrameEvent.{FrameEvent}
use Rattle.hart_master.specs.declared.frame_event.FrameEvent.TheVariants as events
use Rattle.hart_master.specs.declared.frame_event.FrameEvent.TheVariants.{NoReply, Nothing, Retry}
use Rattle.hart_master.specs.declared.frame_hand.FrameHand.{FrameHand}
use Rattle.hart_master.specs.declared.frame_hand.FrameHand.TheVariants as hands
use Rattle.hart_master.specs.declared.frame_hand.FrameHand.TheVariants.{Awaiting, Due, Empty}
use Rattle.hart_station.specs.FaultText.{fault_text}
use Rattle.hart_station.specs.declared.ask.Ask.{Ask}
use Rattle.hart_station.specs.declared.fault.TextFault.{TextFault}
use Rattle.hart_station.specs.Ask.{ReadsAsk}
use Rattle.hart_station.specs.MasterLines.{Hears, HearsItems, IsAskedLine, LineMaster, ServesMasterLine, answered, answered_line, asked}
use Rattle.hart_station.specs.MasterLines.{bad_hex}
use Rattle.hart_station.specs.MasterLines.{bad_word, begins_blank, dash_line, hand_asked, heard, items_of, nothing, with_hand}
use Rattle.hart_station.specs.Station.{bad_line}

-- if a space follows a line, the text without its last byte is the line
pub front : (text line : List ℕ) (count : ℕ) → text ≡ line ++ 32 ∷ [] → count ≡ length text - 1 → take count text ≡ line
front text line count is len = grind (arith, common_steps)

-- a line that says what was heard is answered as its items are
pub serves_items : (asker after : LineMaster) (line given text said : List ℕ) → items_of line ≡ Some given → text ≡ given ++ 32 ∷ []
    → HearsItems asker text after said → ServesMasterLine asker (Some line) after said
serves_items asker after line given text said says is (inl h) = rw h.4 (heard line given h.0 h.1 said says (rw is at h.2) h.3)
serves_items asker after line given text said says is (inr h) = rw (h.3, h.4) (bad_hex line given h.0 h.1 says (rw is at h.2))

-- a line that asks something is answered by what it asks
pub serves_ask : (asker same after : LineMaster) (text line said : List ℕ) (ask : Ask) (count : ℕ) → same ≡ asker → text ≡ line ++ 32 ∷ []
    → count ≡ length text - 1 → items_of line ≡ None → ReadsAsk same.who (take count text) (Ok ask)
    → after ≡ with_hand asker (hand_asked asker.master ask) → IsAskedLine asker ask said → ServesMasterLine asker (Some line) after said
serves_ask asker same after text line said ask count one is len none reads becomes answer =
    rw becomes (asked line ask said none (rw (one, front text line count is len) at reads) answer)

-- a line with a bad word changes nothing
pub serves_bad : (asker same : LineMaster) (text line said : List ℕ) (fault : TextFault) (count : ℕ) → same ≡ asker → text ≡ line ++ 32 ∷ []
    → count ≡ length text - 1 → items_of line ≡ None → ReadsAsk same.who (take count text) (Err fault)
    → said ≡ bad_line (fault_text fault) → ServesMasterLine asker (Some line) asker said
serves_bad asker same text line said fault count one is len none reads answer =
    rw answer (bad_word line fault none (rw (one, front text line count is len) at reads))

-- if nothing is received, what is in hand does not change
received_nothing : (hand : FrameHand) → hand_received hand Nothing ≡ hand
received_nothing Empty = refl
received_nothing (Due t) = refl
received_nothing (Awaiting t time) = refl
received_nothing (hands.Answered t) = refl

-- if a delivery has only one frame, two names for this frame bring the same reply
same_reply : (hand : FrameHand) (found it : Found) → Alone found ≡ Alone it → BringsReply hand it.frame → BringsReply hand found.frame
same_reply hand found it is brings =
    let same : found ≡ it = grind arith in rw same brings

-- what a master over frames makes of a delivery: an event with its line, and the master afterwards
pub record HearsBy (old : FrameMasterState) (delivery : List Character) (new : FrameMasterState) (said : List ℕ) : Type 0 where
  pub event : FrameEvent
  pub hears : Hears old.hand delivery event said
  pub becomes : new ≡ record old { hand = hand_received old.hand event }

-- a delivery with no frame or several frames brings no reply
pub hears_no_frame : (old : FrameMasterState) (delivery : List Character) (lone : LoneFrame) (said : List ℕ)
    → ((frames : List Found) → AreFrames delivery 0 frames → lone ≡ lone_of frames) → ((found : Found) → lone ≡ Alone found → ⊥)
    → said ≡ dash_line → HearsBy old delivery old said
hears_no_frame old delivery lone said only none is = record {
  event = Nothing;
  hears = rw is (nothing (λ found alone brings. none found (only (found ∷ []) alone)));
  becomes = rw received_nothing refl;
}

-- if the only frame of a delivery is the reply, the request is answered
pub hears_reply : (old new : FrameMasterState) (delivery : List Character) (found : Found) (sendings : ℕ) (said : List ℕ)
    → AreFrames delivery 0 (found ∷ []) → IsReceived old.hand found.frame (events.Answered sendings)
    → new ≡ record old { hand = hand_received old.hand (events.Answered sendings) }
    → said ≡ answered_line sendings found.frame.payload → HearsBy old delivery new said
hears_reply old new delivery found sendings said alone h becomes is = record {
  event = events.Answered (sendings_of old.hand);
  hears = rw (is, h.1) (answered found alone h.0);
  becomes = rw h.1 at becomes;
}

-- if the only frame of a delivery is not the reply, nothing happens
pub hears_no_reply : (old new : FrameMasterState) (delivery : List Character) (found : Found) (event : FrameEvent) (said : List ℕ)
    → ((frames : List Found) → AreFrames delivery 0 frames → Alone found ≡ lone_of frames) → IsReceived old.hand found.frame event
    → ((sendings : ℕ) → event ≡ events.Answered sendings → ⊥) → new ≡ record old { hand = hand_received old.hand event }
    → said ≡ dash_line → HearsBy old delivery new said
hears_no_reply old new delivery found (events.Answered sendings) said only h other becomes is = absurd (other sendings refl)
hears_no_reply old new delivery found Nothing said only h other becomes is = record {
  event = Nothing;
  hears = rw is (nothing (λ it alone brings. h (same_reply old.hand found it (only (it ∷ []) alone) brings)));
  becomes = becomes;
}
hears_no_reply old new delivery found Retry said only h other becomes is = absurd h
hears_no_reply old new delivery found (NoReply sendings) said only h other becomes is = absurd h

-- a space after items does not change how they begin
begins_closed : (items : List ℕ) → begins_blank (items ++ 32 ∷ []) ≡ begins_blank items
begins_closed [] = refl
begins_closed (x ∷ xs) = refl

-- the items of a line that has a space after it
pub record Items (line rest : List ℕ) : Type 0 where
  pub given : List ℕ
  pub closed : rest ≡ given ++ 32 ∷ []
  pub whole : line ≡ codes "heard" ++ given

pub items_in : (line rest : List ℕ) → line ++ 32 ∷ [] ≡ codes "heard" ++ rest → Items line rest
items_in [] rest is = absurd (grind arith)
items_in (a ∷ []) rest is = absurd (grind arith)
items_in (a ∷ b ∷ []) rest is = absurd (grind arith)
items_in (a ∷ b ∷ c ∷ []) rest is = absurd (grind arith)
items_in (a ∷ b ∷ c ∷ d ∷ []) rest is = absurd (grind arith)
items_in (a ∷ b ∷ c ∷ d ∷ e ∷ given) rest is = record { given = given; closed = grind arith; whole = grind arith }

-- if the text after `heard` begins with a blank, it is the items of the line
pub are_items : (line rest : List ℕ) (h : Items line rest) → begins_blank rest ≡ true → items_of line ≡ Some h.given
are_items line rest h blank =
    let same : begins_blank h.given ≡ true = rw (h.closed, begins_closed h.given) at blank in rw (h.whole, same) refl

-- if the text after `heard` begins with something else, the line has no items
pub are_none : (line rest : List ℕ) → Items line rest → begins_blank rest ≡ false → items_of line ≡ None
are_none line rest h other =
    let same : begins_blank h.given ≡ false = rw (h.closed, begins_closed h.given) at other in rw (h.whole, same) refl
