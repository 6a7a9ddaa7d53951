-- What `hart master` promises of a whole session (implementation choice).
use Rattle.std.specs.Prelude.{◌≡◌, ℕ, ◌+◌, ◌≤◌, ◌||◌, All, Bool, true, false, not, List, [], ◌∷◌, ◌++◌, codes, count_by, length, map}
use Rattle.std.specs.Prelude.{take, Ok}
use Rattle.std.specs.List.{flat_map}
use Rattle.std.specs.Str.{bytes_eq}
use Rattle.hart_values.specs.declared.master_id.MasterId.{MasterId}
use Rattle.hart_frame.specs.declared.heard.found.Found.{Found}
use Rattle.hart_frame.specs.heard.Character.{Character}
use Rattle.hart_frame.specs.heard.Frames.{AreFrames}
use Rattle.hart_frame.specs.wire.FrameParts.{FrameParts}
use Rattle.hart_master.specs.Acceptance.{IsReplyFrame}
use Rattle.hart_text.specs.Items.{ReadsAs}
use Rattle.hart_station.specs.declared.ask.Ask.TheVariants.{Submit}
use Rattle.hart_station.specs.Ask.{ReadsAsk}
use Rattle.hart_station.specs.MasterLines.{IsSendLine, LineMaster, ServesMasterLine, answered_line, items_of}
use Rattle.hart_station.specs.Station.{line_read}
use Rattle.hart_station.specs.Lines.{line_of}
use Rattle.std.specs.Prelude.{Some, decimal}

-- A line and its answer.
pub record Exchange : Type 0 where
  pub line : List ℕ
  pub said : List ℕ

-- A session: the master answers each line in the state to which the earlier lines led.
pub data Session : LineMaster → List Exchange → LineMaster → Type 0 where
  nothing : (asker : LineMaster) → Session asker [] asker
  first : (asker next after : LineMaster) (exchange : Exchange) (exchanges : List Exchange)
      → ServesMasterLine asker (line_read exchange.line) next exchange.said → Session next exchanges after
      → Session asker (exchange ∷ exchanges) after

-- Whether a text begins with a word.
abbrev pub begins : List ℕ → List ℕ → Bool
begins word text = bytes_eq (take (length word) text) word

-- Whether an answer sends a message.
abbrev pub is_sending : Exchange → Bool
is_sending exchange = begins (codes "send ") exchange.said

-- Whether an answer says that a request was taken, answered or given up.
abbrev pub is_turn : Exchange → Bool
is_turn exchange =
    begins (codes "answered ") exchange.said || begins (codes "noreply ") exchange.said || bytes_eq exchange.said (codes "ok\n")

-- After these exchanges this request is in hand, and was sent `sendings` times. A line asked for the request, and the master took the
-- request. Since then the request was neither answered nor given up, and no other request was taken.
pub record IsInHand (who : MasterId) (before : List Exchange) (request : FrameParts) (sendings : ℕ) : Type 0 where
  pub earlier : List Exchange
  pub line : List ℕ
  pub since : List Exchange
  pub split : before ≡ earlier ++ record { line = line; said = codes "ok\n" } ∷ since
  pub asked : ReadsAsk who line (Ok (Submit request))
  pub goes_on : All (λ exchange. is_turn exchange ≡ false) since
  pub counted : sendings ≡ count_by is_sending since

-- A line says that a delivery was heard, and this frame is the only frame of the delivery.
pub record SaysHeard (line : List ℕ) (frame : FrameParts) : Type 0 where
  pub items : List ℕ
  pub delivery : List Character
  pub found : Found
  pub says : items_of line ≡ Some items
  pub reads : ReadsAs items delivery
  pub alone : AreFrames delivery 0 (found ∷ [])
  pub is_frame : frame ≡ found.frame

-- Whether an answer says nothing about a request in hand: it is not `send` with a message, `answered`, `retry`, `noreply`, or the refusal
-- of a request because another is pending.
abbrev pub is_quiet : List ℕ → Bool
is_quiet said = not (begins (codes "send ") said || begins (codes "answered ") said || begins (codes "retry") said
    || begins (codes "noreply ") said || begins (codes "refused: a request is pending") said)

-- What an answer says of a request is true of the request that is in hand after the earlier exchanges. The request is sent at most
-- `retries + 1` times. In an answer `answered`, the reply is the only frame of the delivery in this line. The request is due again at most
-- `retries` times, and is given up after `retries + 1` sendings. A new request is refused as pending only while the request is in hand.
pub data KeepsPromise (who : MasterId) (preambles retries : ℕ) (before : List Exchange) (line : List ℕ) : List ℕ → Type 0 where
  quiet : (said : List ℕ) → is_quiet said ≡ true → KeepsPromise who preambles retries before line said
  sends : (request : FrameParts) (sendings : ℕ) (said : List ℕ) → IsInHand who before request sendings → sendings ≤ retries
      → IsSendLine preambles request said → KeepsPromise who preambles retries before line said
  answers : (request reply : FrameParts) (sendings : ℕ) → IsInHand who before request sendings → 1 ≤ sendings → sendings ≤ retries + 1
      → SaysHeard line reply → IsReplyFrame request reply
      → KeepsPromise who preambles retries before line (answered_line sendings reply.payload)
  tries_again : (request : FrameParts) (sendings : ℕ) → IsInHand who before request sendings → 1 ≤ sendings → sendings ≤ retries
      → KeepsPromise who preambles retries before line (line_of (codes "retry" ∷ []))
  gives_up : (request : FrameParts) → IsInHand who before request (retries + 1)
      → KeepsPromise who preambles retries before line (line_of (codes "noreply" ∷ decimal (retries + 1) ∷ []))
  is_busy : (request : FrameParts) (sendings : ℕ) → IsInHand who before request sendings
      → KeepsPromise who preambles retries before line (codes "refused: a request is pending\n")

-- The lines and their answers are a session of this master, and each answer keeps the promise.
pub record KeepsPromises (asker : LineMaster) (lines : List (List ℕ)) (text : List ℕ) : Type 0 where
  pub exchanges : List Exchange
  pub after : LineMaster
  pub session : Session asker exchanges after
  pub lines_are : lines ≡ map (λ exchange. exchange.line) exchanges
  pub text_is : text ≡ flat_map (λ exchange. exchange.said) exchanges
  pub kept : (before later : List Exchange) (exchange : Exchange) → exchanges ≡ before ++ exchange ∷ later
      → KeepsPromise asker.who asker.preambles asker.master.retries before exchange.line exchange.said
