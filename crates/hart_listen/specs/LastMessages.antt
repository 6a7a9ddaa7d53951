-- The last request of each master, until a reply ends its row (implementation choice).
use Rattle.std.specs.Prelude.{◌≡◌, ◌<◌, ◌++◌, if◌then◌else◌, ℕ, Bool, true, List, [], ◌∷◌, Option, None, Some, IfSome}
use Rattle.std.specs.Prelude.{map, replicate, reverse}
use Rattle.hart_values.specs.declared.each_master.EachMaster.{EachMaster}
use Rattle.hart_values.specs.declared.master_id.MasterId.{MasterId}
use Rattle.hart_values.specs.declared.master_id.MasterId.TheVariants.{Primary, Secondary}
use Rattle.hart_frame.specs.declared.heard.found.Found.{Found}
use Rattle.hart_frame.specs.heard.Sighting.{Message, Seen}
use Rattle.hart_frame.specs.wire.FrameParts.{FrameParts, reply_parts}
use Rattle.hart_listen.specs.declared.last_messages.LastRequest.{LastRequest}
use Rattle.hart_listen.specs.Before.{answered, leaves_open, repeats}

-- The kept request of each master, if there is one.
abbrev pub LastMessages : Type 0
LastMessages = EachMaster (Option LastRequest)

-- A kept request as a `Found`. Its stop is not kept, and nothing depends on it.
abbrev pub found_in : LastRequest → Found
found_in request = record { start = request.start; stop = request.start; frame = request.frame }

-- A reply to a kept request with response code 32, busy. It stands for all replies that leave the request open.
abbrev pub busy_reply : LastRequest → Found
busy_reply request = record { start = request.start; stop = request.start; frame = reply_parts request.frame (32 ∷ 0 ∷ []) }

-- The reply that leaves a kept request open, if there is one.
abbrev pub open_reply : Bool → LastRequest → List Found
open_reply is_left_open request = if is_left_open then busy_reply request ∷ [] else []

-- From the last message back: the reply that leaves a kept request open, the request, and one copy of it for each counted message before.
abbrev pub listed : Option LastRequest → List Found
listed None = []
listed (Some request) =
    open_reply request.is_left_open request ++ found_in request ∷ replicate request.sent_before (found_in request)

-- The messages that the kept requests of both masters stand for, as sightings, from the first one on.
abbrev pub recalled : LastMessages → List Seen
recalled last = map Message (reverse (listed last.primary)) ++ map Message (reverse (listed last.secondary))

-- A kept request is one of this master, and fewer than `most` messages before it are counted.
pub record IsOwn (master : MasterId) (most : ℕ) (request : LastRequest) : Type 0 where
  pub own : request.frame.master ≡ master
  pub few : request.sent_before < most

-- The kept requests are those of their masters, and fewer than `most` messages before each are counted.
abbrev pub KeepsOwn : ℕ → LastMessages → Type 0
KeepsOwn most last = IfSome last.primary (IsOwn Primary most) × IfSome last.secondary (IsOwn Secondary most)

-- No message was heard.
abbrev pub no_messages : LastMessages
no_messages = record { primary = None; secondary = None }

-- Only private calls use the definitions from here on.

-- The kept request after one more reply: the same one, left open, if the reply leaves it open, and otherwise none.
abbrev pub after_reply : Option LastRequest → FrameParts → Option LastRequest
after_reply None reply = None
after_reply (Some request) reply =
    if leaves_open request.frame reply then Some (record request { is_left_open = true }) else None

-- Two lists of messages, from the last one back, agree if they say the same of every frame that comes next.
abbrev pub Agree : List Found → List Found → Type 0
Agree one other = (frame : FrameParts) → (answered frame one ≡ answered frame other) × (repeats frame one ≡ repeats frame other)
