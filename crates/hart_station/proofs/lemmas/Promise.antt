-- Sessions of a master keep the promise.
use Rattle.std.proofs.Common.{◌≡◌, ◌≤◌, ◌+◌, ℕ, Bool, true, false, List, [], ◌∷◌, ◌++◌, Option, None, Some, Ok}
use Rattle.std.proofs.Common.{append_assoc, append-nil, ap, arith, codes, cond, map, nat_le, nat_lt, refl, sym}
use Rattle.std.proofs.lemmas.Bool.Decides.{nat_tests}
use Rattle.std.proofs.lemmas.Grind.{common_steps}
use Rattle.std.proofs.lemmas.List.Elements.{All-append, All-cons, All-nil}
use Rattle.std.proofs.lemmas.List.Sums.{sum_by_push}
use Rattle.hart_values.specs.declared.master_id.MasterId.{MasterId}
use Rattle.hart_frame.specs.wire.FrameParts.{FrameParts}
use Rattle.hart_frame.specs.heard.Character.{Character}
use Rattle.std.specs.List.{flat_map}
use Rattle.hart_master.specs.FrameMaster.{event_ticked, frame_due, hand_received, hand_sent, hand_submitted, hand_ticked}
use Rattle.hart_master.specs.FrameMaster.{result_submitted}
use Rattle.hart_master.specs.Master.{time_ticked}
use Rattle.hart_master.specs.Pairing.{may_send}
use Rattle.hart_master.specs.declared.frame_event.FrameEvent.{FrameEvent}
use Rattle.hart_master.specs.declared.frame_hand.FrameHand.{FrameHand}
use Rattle.hart_master.specs.declared.frame_hand.FrameHand.TheVariants.{Answered, Awaiting, Due, Empty}
use Rattle.hart_master.specs.declared.frame_hand.FrameTransaction.{FrameTransaction}
use Rattle.hart_text.specs.Items.{ReadsAs}
use Rattle.hart_station.specs.declared.ask.Ask.{Ask}
use Rattle.hart_station.specs.declared.ask.Ask.TheVariants.{Send, Submit, Tick}
use Rattle.hart_station.specs.Ask.{ReadsAsk}
use Rattle.hart_station.specs.MasterLines as lines
use Rattle.hart_station.specs.MasterLines.{Hears, IsAskedLine, IsDueLine, IsSendLine, LineMaster, ServesMasterLine, hand_asked, items_of}
use Rattle.hart_station.specs.MasterLines.{submitted_line, ticked_line}
use Rattle.hart_station.specs.Promise.{Exchange, IsInHand, KeepsPromise, KeepsPromises, Session, answers, first, gives_up, is_busy}
use Rattle.hart_station.specs.Promise.{is_quiet, is_sending, is_turn, nothing, quiet, sends, tries_again}
use Rattle.hart_station.specs.Station as sessions
use Rattle.hart_station.specs.Station.{Serves, line_read}

-- if a line is read, it is read as it is
reads_same : (line read : List ℕ) → line_read line ≡ Some read → read ≡ line
reads_same line read is = grind (arith, common_steps)

-- a list of exchanges, with one more exchange at its end
abbrev also : List Exchange → List ℕ → List ℕ → List Exchange
also before line said = before ++ record { line = line; said = said } ∷ []

-- the earlier exchanges tell what a master has in hand
abbrev Tracks : (who : MasterId) (retries : ℕ) (before : List Exchange) → FrameHand → Type 0
Tracks who retries before Empty = Unit {0}
Tracks who retries before (Due transaction) =
    IsInHand who before transaction.request transaction.sendings × (transaction.sendings ≤ retries)
Tracks who retries before (Awaiting transaction time) =
    IsInHand who before transaction.request transaction.sendings × (1 ≤ transaction.sendings) × (transaction.sendings ≤ retries + 1)
Tracks who retries before (Answered transaction) = Unit {0}

-- after one more exchange that neither begins nor ends a request, the same request is in hand; it was sent once more if the exchange sent
-- it
goes_on : (who : MasterId) (before : List Exchange) (request : FrameParts) (sendings : ℕ) (line said : List ℕ) (sent : Bool)
    → IsInHand who before request sendings → is_turn (record { line = line; said = said }) ≡ false
    → is_sending (record { line = line; said = said }) ≡ sent → IsInHand who (also before line said) request (sendings + cond sent 1 0)
goes_on who before request sendings line said sent h turns is_sent =
    let next : Exchange = record { line = line; said = said } in
    record {
      earlier = h.earlier;
      line = h.line;
      since = h.since ++ next ∷ [];
      split = rw h.split (simp append_assoc refl);
      asked = h.asked;
      goes_on = All-append (λ exchange. is_turn exchange ≡ false) h.since (next ∷ []) h.goes_on
          (All-cons (λ exchange. is_turn exchange ≡ false) next [] turns (All-nil _));
      counted = rw (h.counted, ← is_sent) (sym (sum_by_push (λ exchange. cond (is_sending exchange) 1 0) h.since next));
    }

-- after an exchange that neither begins nor ends a request and sends nothing, the same request is in hand, sent as often
stays : (who : MasterId) (before : List Exchange) (request : FrameParts) (sendings : ℕ) (line said : List ℕ)
    → IsInHand who before request sendings → is_turn (record { line = line; said = said }) ≡ false
    → is_sending (record { line = line; said = said }) ≡ false → IsInHand who (also before line said) request sendings
stays who before request sendings line said h turns silent =
    let same : sendings + 0 ≡ sendings = omega arith in
    rw same at (goes_on who before request sendings line said false h turns silent)

-- after an exchange that concerns no request, the exchanges still tell what is in hand
tracks_on : (who : MasterId) (retries : ℕ) (before : List Exchange) (hand : FrameHand) (line said : List ℕ)
    → Tracks who retries before hand → is_turn (record { line = line; said = said }) ≡ false
    → is_sending (record { line = line; said = said }) ≡ false → Tracks who retries (also before line said) hand
tracks_on who retries before Empty line said h turns silent = tt
tracks_on who retries before (Due t) line said h turns silent = (stays who before t.request t.sendings line said h.0 turns silent, h.1)
tracks_on who retries before (Awaiting t time) line said h turns silent =
    (stays who before t.request t.sendings line said h.0 turns silent, h.1, h.2)
tracks_on who retries before (Answered t) line said h turns silent = tt

-- a step of a session: the answer keeps the promise, and the exchanges tell what is in hand afterwards
record Step (who : MasterId) (preambles retries : ℕ) (before : List Exchange) (line said : List ℕ) (hand : FrameHand) : Type 0 where
  pub keeps : KeepsPromise who preambles retries before line said
  pub tracks : Tracks who retries (also before line said) hand

-- a quiet answer that leaves what is in hand is a step
quietly : (who : MasterId) (preambles retries : ℕ) (before : List Exchange) (hand : FrameHand) (line said : List ℕ)
    → Tracks who retries before hand → is_quiet said ≡ true → is_turn (record { line = line; said = said }) ≡ false
    → is_sending (record { line = line; said = said }) ≡ false → Step who preambles retries before line said hand
quietly who preambles retries before hand line said h is turns silent = record {
  keeps = quiet said is;
  tracks = tracks_on who retries before hand line said h turns silent;
}

-- hearing a delivery is a step
hears : (who : MasterId) (preambles retries : ℕ) (before : List Exchange) (hand : FrameHand) (line items said : List ℕ)
    (delivery : List Character) (event : FrameEvent) → Tracks who retries before hand → items_of line ≡ Some items
    → ReadsAs items delivery → Hears hand delivery event said → Step who preambles retries before line said (hand_received hand event)
hears who preambles retries before Empty line items _ delivery _ h says reads (lines.answered found alone brings) = absurd brings
hears who preambles retries before (Due t) line items _ delivery _ h says reads (lines.answered found alone brings) = absurd brings
hears who preambles retries before (Answered t) line items _ delivery _ h says reads (lines.answered found alone brings) = absurd brings
hears who preambles retries before (Awaiting t time) line items _ delivery _ h says reads (lines.answered found alone brings) = record {
  keeps = answers t.request found.frame t.sendings h.0 h.1 h.2
      (record { items = items; delivery = delivery; found = found; says = says; reads = reads; alone = alone; is_frame = refl }) brings;
  tracks = tt;
}
hears who preambles retries before Empty line items _ delivery _ h says reads (lines.nothing none) =
    quietly who preambles retries before Empty line _ h refl refl refl
hears who preambles retries before (Due t) line items _ delivery _ h says reads (lines.nothing none) =
    quietly who preambles retries before (Due t) line _ h refl refl refl
hears who preambles retries before (Awaiting t time) line items _ delivery _ h says reads (lines.nothing none) =
    quietly who preambles retries before (Awaiting t time) line _ h refl refl refl
hears who preambles retries before (Answered t) line items _ delivery _ h says reads (lines.nothing none) =
    quietly who preambles retries before (Answered t) line _ h refl refl refl

-- after a request was taken, it is in hand and not sent yet
takes : (who : MasterId) (before : List Exchange) (line : List ℕ) (request : FrameParts) → ReadsAsk who line (Ok (Submit request))
    → IsInHand who (also before line (codes "ok\n")) request 0
takes who before line request asked = record {
  earlier = before;
  line = line;
  since = [];
  split = refl;
  asked = asked;
  goes_on = All-nil _;
  counted = refl;
}

-- submitting a request while nothing is in hand is a step
submits_idle : (who : MasterId) (preambles retries : ℕ) (before : List Exchange) (line : List ℕ) (request : FrameParts) (may : Bool)
    → may_send request ≡ may → ReadsAsk who line (Ok (Submit request))
    → Step who preambles retries before line (submitted_line (result_submitted Empty request)) (hand_submitted Empty request)
submits_idle who preambles retries before line request true may asked =
    rw may (record { keeps = quiet (codes "ok\n") refl; tracks = (takes who before line request asked, omega arith) })
submits_idle who preambles retries before line request false may asked =
    rw may (quietly who preambles retries before Empty line _ tt refl refl refl)

submits_again : (who : MasterId) (preambles retries : ℕ) (before : List Exchange) (t : FrameTransaction) (line : List ℕ)
    (request : FrameParts) (may : Bool) → may_send request ≡ may → ReadsAsk who line (Ok (Submit request))
    → Step who preambles retries before line (submitted_line (result_submitted (Answered t) request)) (hand_submitted (Answered t) request)
submits_again who preambles retries before t line request true may asked =
    rw may (record { keeps = quiet (codes "ok\n") refl; tracks = (takes who before line request asked, omega arith) })
submits_again who preambles retries before t line request false may asked =
    rw may (quietly who preambles retries before (Answered t) line _ tt refl refl refl)

submits : (who : MasterId) (preambles retries : ℕ) (before : List Exchange) (hand : FrameHand) (line : List ℕ) (request : FrameParts)
    → Tracks who retries before hand → ReadsAsk who line (Ok (Submit request))
    → Step who preambles retries before line (submitted_line (result_submitted hand request)) (hand_submitted hand request)
submits who preambles retries before Empty line request h asked =
    submits_idle who preambles retries before line request (may_send request) refl asked
submits who preambles retries before (Answered t) line request h asked =
    submits_again who preambles retries before t line request (may_send request) refl asked
submits who preambles retries before (Due t) line request h asked = record {
  keeps = is_busy t.request t.sendings h.0;
  tracks = tracks_on who retries before (Due t) line _ h refl refl;
}
submits who preambles retries before (Awaiting t time) line request h asked = record {
  keeps = is_busy t.request t.sendings h.0;
  tracks = tracks_on who retries before (Awaiting t time) line _ h refl refl;
}

-- asking for the message that is due is a step
asks_due : (asker : LineMaster) (before : List Exchange) (hand : FrameHand) (line said : List ℕ)
    → Tracks asker.who asker.master.retries before hand → IsDueLine asker.preambles (frame_due hand) said
    → Step asker.who asker.preambles asker.master.retries before line said (hand_sent hand)
asks_due asker before Empty line said h is = rw is (quietly _ _ _ before Empty line lines.dash_line h refl refl refl)
asks_due asker before (Awaiting t time) line said h is =
    rw is (quietly _ _ _ before (Awaiting t time) line lines.dash_line h refl refl refl)
asks_due asker before (Answered t) line said h is = rw is (quietly _ _ _ before (Answered t) line lines.dash_line h refl refl refl)
asks_due asker before (Due t) line said h is = record {
  keeps = sends t.request t.sendings said h.0 h.1 is;
  tracks = (
    goes_on asker.who before t.request t.sendings line said true h.0 (rw is.whole refl) (rw is.whole refl),
    omega arith,
    omega (arith, h.1),
  );
}

-- letting time pass while a reply is awaited is a step
waits : (who : MasterId) (preambles retries limit : ℕ) (before : List Exchange) (t : FrameTransaction) (time count : ℕ) (line : List ℕ)
    (early few : Bool) → Tracks who retries before (Awaiting t time) → nat_lt (time_ticked time count) limit ≡ early
    → nat_le t.sendings retries ≡ few
    → Step who preambles retries before line (ticked_line (event_ticked retries limit (Awaiting t time) count))
    (hand_ticked retries limit (Awaiting t time) count)
waits who preambles retries limit before t time count line true few h early _ =
    rw early (quietly who preambles retries before (Awaiting t (time_ticked time count)) line _ h refl refl refl)
waits who preambles retries limit before t time count line false true h late few =
    let fits : t.sendings ≤ retries = grind (arith, nat_tests) in
    rw (late, few) (record {
      keeps = tries_again t.request t.sendings h.0 h.1 fits;
      tracks = (stays who before t.request t.sendings line _ h.0 refl refl, fits);
    })
waits who preambles retries limit before t time count line false false h late many =
    let all : t.sendings ≡ retries + 1 = grind (arith, nat_tests, h.2) in
    rw (late, many, all) (record { keeps = gives_up t.request (rw all at h.0); tracks = tt })

-- letting time pass is a step
ticks : (who : MasterId) (preambles retries limit : ℕ) (before : List Exchange) (hand : FrameHand) (count : ℕ) (line : List ℕ)
    → Tracks who retries before hand
    → Step who preambles retries before line (ticked_line (event_ticked retries limit hand count)) (hand_ticked retries limit hand count)
ticks who preambles retries limit before Empty count line h = quietly who preambles retries before Empty line _ h refl refl refl
ticks who preambles retries limit before (Due t) count line h = quietly who preambles retries before (Due t) line _ h refl refl refl
ticks who preambles retries limit before (Answered t) count line h =
    quietly who preambles retries before (Answered t) line _ h refl refl refl
ticks who preambles retries limit before (Awaiting t time) count line h =
    waits who preambles retries limit before t time count line (nat_lt (time_ticked time count) limit)
    (nat_le t.sendings retries) h refl refl

-- doing what a line asks is a step
obeys : (asker : LineMaster) (before : List Exchange) (line said : List ℕ) (ask : Ask)
    → Tracks asker.who asker.master.retries before asker.master.hand → ReadsAsk asker.who line (Ok ask) → IsAskedLine asker ask said
    → Step asker.who asker.preambles asker.master.retries before line said (hand_asked asker.master ask)
obeys asker before line said (Submit request) h asked is =
    rw is (submits asker.who asker.preambles asker.master.retries before asker.master.hand line request h asked)
obeys asker before line said Send h asked is = asks_due asker before asker.master.hand line said h is
obeys asker before line said (Tick count) h asked is =
    rw is (ticks asker.who asker.preambles asker.master.retries asker.master.reply_limit before asker.master.hand count line h)

-- a master answered a line in a step, and only what it has in hand may have changed
record Stepped (asker next : LineMaster) (before : List Exchange) (line said : List ℕ) : Type 0 where
  pub who : next.who ≡ asker.who
  pub preambles : next.preambles ≡ asker.preambles
  pub retries : next.master.retries ≡ asker.master.retries
  pub step : Step asker.who asker.preambles asker.master.retries before line said next.master.hand

serves : (asker next : LineMaster) (before : List Exchange) (line said : List ℕ) (read : Option (List ℕ))
    → Tracks asker.who asker.master.retries before asker.master.hand → line_read line ≡ read → ServesMasterLine asker read next said
    → Stepped asker next before line said
serves asker _ before line _ None h is lines.too_long = record {
  who = refl;
  preambles = refl;
  retries = refl;
  step = quietly asker.who asker.preambles asker.master.retries before asker.master.hand line _ h refl refl refl;
}
serves asker _ before line said (Some _) h is (lines.heard read items delivery event _ says reads heard) = record {
  who = refl;
  preambles = refl;
  retries = refl;
  step = hears asker.who asker.preambles asker.master.retries before asker.master.hand line items said delivery event h
      (rw (reads_same line read is) at says) reads heard;
}
serves asker _ before line _ (Some _) h is (lines.bad_hex read items chars place says bad) = record {
  who = refl;
  preambles = refl;
  retries = refl;
  step = quietly asker.who asker.preambles asker.master.retries before asker.master.hand line _ h refl refl refl;
}
serves asker _ before line said (Some _) h is (lines.asked read ask _ none asked answer) = record {
  who = refl;
  preambles = refl;
  retries = refl;
  step = obeys asker before line said ask h (rw (reads_same line read is) at asked) answer;
}
serves asker _ before line _ (Some _) h is (lines.bad_word read fault none bad) = record {
  who = refl;
  preambles = refl;
  retries = refl;
  step = quietly asker.who asker.preambles asker.master.retries before asker.master.hand line _ h refl refl refl;
}

-- each answer of a session keeps the promise
keeps_all : (asker after : LineMaster) (exchanges done before later : List Exchange) (exchange : Exchange)
    → Session asker exchanges after → Tracks asker.who asker.master.retries done asker.master.hand
    → exchanges ≡ before ++ exchange ∷ later
    → KeepsPromise asker.who asker.preambles asker.master.retries (done ++ before) exchange.line exchange.said
keeps_all asker _ _ done [] later exchange (nothing _) h is = absurd (grind arith)
keeps_all asker _ _ done (b ∷ before) later exchange (nothing _) h is = absurd (grind arith)
keeps_all asker after _ done [] later exchange (first _ next _ here more answer on) h is =
    let same : here ≡ exchange = grind arith in
    rw (append-nil, ← same) (serves asker next done here.line here.said _ h refl answer).step.keeps
keeps_all asker after _ done (b ∷ before) later exchange (first _ next _ here more answer on) h is =
    let same : here ≡ b = grind arith in
    let rest : more ≡ before ++ exchange ∷ later = grind arith in
    let stepped = serves asker next done here.line here.said _ h refl answer in
    let order : (done ++ here ∷ []) ++ before ≡ done ++ b ∷ before = rw same (simp append_assoc refl) in
    rw (stepped.who, stepped.preambles, stepped.retries, order) at
    (keeps_all next after more (done ++ here ∷ []) before later exchange on
    (rw (← stepped.who, ← stepped.retries) at stepped.step.tracks) rest)

-- the exchanges of a session
record Exchanges (asker after : LineMaster) (lines : List (List ℕ)) (text : List ℕ) : Type 0 where
  pub exchanges : List Exchange
  pub session : Session asker exchanges after
  pub lines_are : lines ≡ map (λ exchange. exchange.line) exchanges
  pub text_is : text ≡ flat_map (λ exchange. exchange.said) exchanges

exchanges_of : (asker after : LineMaster) (lines : List (List ℕ)) (text : List ℕ) → Serves ServesMasterLine asker lines after text
    → Exchanges asker after lines text
exchanges_of asker _ _ _ (sessions.nothing _) = record { exchanges = []; session = nothing asker; lines_are = refl; text_is = refl }
exchanges_of asker after _ _ (sessions.first _ next _ line lines said text answer on) =
    let more = exchanges_of next after lines text on in
    let here : Exchange = record { line = line; said = said } in
    record {
      exchanges = here ∷ more.exchanges;
      session = first asker next after here more.exchanges answer more.session;
      lines_are = ap (λ ls. line ∷ ls) more.lines_are;
      text_is = ap (λ t. said ++ t) more.text_is;
    }

-- a session that begins with nothing in hand keeps the promise
pub keeps_promises : (asker after : LineMaster) (lines : List (List ℕ)) (text : List ℕ) → asker.master.hand ≡ Empty
    → Serves ServesMasterLine asker lines after text → KeepsPromises asker lines text
keeps_promises asker after lines text idle served =
    let all = exchanges_of asker after lines text served in
    record {
      exchanges = all.exchanges;
      after = after;
      session = all.session;
      lines_are = all.lines_are;
      text_is = all.text_is;
      kept = λ before later exchange is.
          keeps_all asker after all.exchanges [] before later exchange all.session (rw idle tt) is;
    }
