-- The two masters of a line, and how they agree with the world of a script. Only private calls use these definitions (implementation
-- choice).
use Rattle.std.specs.Prelude.{◌≡◌, ℕ, ◌+◌, List, slice_set, Option, None, Some, IfSome, option_and_then, option_map}
use Rattle.hart_line.specs.Types.{Address, MasterId, Primary, Secondary, FrameParts, EachMaster, Reply, Request, MasterFault, Outcome}
use Rattle.hart_line.specs.Types.{Unfinished, Refused}
use Rattle.hart_master.specs.Master.{hand_sent}
use Rattle.hart_master.specs.declared.hand.Hand.{Hand}
use Rattle.hart_master.specs.declared.hand.Hand.TheVariants.{Empty, ToSend}
use Rattle.hart_line.specs.world.Step.{Accepts, hand_left, outcome_of}
use Rattle.hart_line.specs.world.World.{InHand}
use Rattle.hart_line.specs.declared.line.masters.Masters.{Masters}
use Rattle.hart_line.specs.declared.line.masters.Submitter.{Submitter}

-- The hand of a master between turns, as the code represents it: empty, or a request to be sent and how often it was sent already.
abbrev pub hand_of : Option InHand → Hand
hand_of None = Empty
hand_of (Some held) = ToSend (record { address = held.address; request = held.request; sendings = held.sendings })

-- A submitter's master has this id, this retry limit and this hand. If there is a request in hand, `place` is the number of its submission.
pub record IsSubmitter (id : MasterId) (retries : ℕ) (hand : Hand) (held : Option InHand) (submitter : Submitter) : Type 0 where
  pub reply_limit : ℕ
  pub master_is : submitter.master ≡ record { id = id; retries = retries; reply_limit = reply_limit; hand = hand }
  pub place_is : IfSome held (λ request. submitter.place ≡ request.submission)

-- A master has this request in hand, to be sent. Without a request, its hand is empty.
abbrev pub Holds : MasterId → ℕ → Option InHand → Submitter → Type 0
Holds id retries held submitter = IsSubmitter id retries (hand_of held) held submitter

-- A master has just sent the request in its hand, if there is one. The request's count of sendings is one higher, and the master awaits the
-- reply.
abbrev pub Awaits : MasterId → ℕ → Option InHand → Submitter → Type 0
Awaits id retries held submitter = IsSubmitter id retries (hand_sent (hand_of held)) held submitter

-- Each master's hand agrees with the world.
pub record AreHeld (retries : EachMaster ℕ) (hands : EachMaster (Option InHand)) (masters : Masters) : Type 0 where
  pub primary : Holds Primary retries.primary hands.primary masters.primary
  pub secondary : Holds Secondary retries.secondary hands.secondary masters.secondary

-- In its turn, a master awaits the reply to the request in its hand. The other master's hand agrees with the world.
abbrev pub AreInTurn : MasterId → EachMaster ℕ → EachMaster (Option InHand) → Masters → Type 0
AreInTurn Primary retries hands masters =
    Awaits Primary retries.primary hands.primary masters.primary × Holds Secondary retries.secondary hands.secondary masters.secondary
AreInTurn Secondary retries hands masters =
    Awaits Secondary retries.secondary hands.secondary masters.secondary × Holds Primary retries.primary hands.primary masters.primary

-- If the master refuses a submission for a fault, the first outcome of the submission is this refusal. Otherwise the first outcome is
-- unfinished, with 0 sendings.
abbrev pub first_outcome : Option MasterFault → Outcome
first_outcome None = Unfinished 0
first_outcome (Some fault) = Refused fault

-- An accepted submission puts its request into the hand with 0 sendings, and its outcome is unfinished. A refused submission does not
-- change the hand, and its outcome is the refusal.
abbrev pub Submits : Option InHand → ℕ → Address → Request → Option MasterFault → Outcome → (Option InHand → Type 0) → Type 0
Submits held place address request None outcome Left = (outcome ≡ Unfinished 0)
    × Left (Some (record { submission = place; address = address; request = request; sendings = 0 }))
Submits held place address request (Some fault) outcome Left = (outcome ≡ Refused fault) × Left held

-- The outcome that a turn gives to the request in the master's hand, if the master has one. `accepted` is the reply that was accepted in
-- this turn, if any.
abbrev pub outcome_in_turn : (retries : ℕ) → Option InHand → Option Reply → Option Outcome
outcome_in_turn retries hand accepted = option_map (λ held. outcome_of retries (held.sendings + 1) accepted) hand

-- What a master has in hand after a turn. The outcome of its request says whether the request stays in hand.
abbrev pub hand_after_turn : (retries : ℕ) → Option InHand → Option Reply → Option InHand
hand_after_turn retries hand accepted = option_and_then (λ held. hand_left held (outcome_of retries (held.sendings + 1) accepted)) hand

-- The outcome of the request in hand replaces the earlier outcome of its submission. With nothing in hand, no outcome changes.
abbrev pub outcomes_after_turn : (retries : ℕ) → Option InHand → Option Reply → List Outcome → List Outcome
outcomes_after_turn retries None accepted outcomes = outcomes
outcomes_after_turn retries (Some held) accepted outcomes =
    slice_set outcomes held.submission (outcome_of retries (held.sendings + 1) accepted)

-- A master's turn ends. The master accepts the returned frame as the reply, or accepts no reply. The request in its hand, if any, gets its
-- outcome.
pub record Concludes (who : MasterId) (retries : ℕ) (hand : Option InHand) (returned : Option FrameParts)
    (outcomes outcomes' : List Outcome) (Left : Option InHand → Type 0) : Type 0 where
  pub accepted : Option Reply
  pub accepts : Accepts who hand returned accepted
  pub outcomes_are : outcomes' ≡ outcomes_after_turn retries hand accepted outcomes
  pub left : Left (hand_after_turn retries hand accepted)
