-- Which request a message answers, and which sending of its request it is, by the messages before it (implementation choice).
use Rattle.std.specs.Prelude.{◌≡◌, ◌+◌, ◌++◌, ◌==◌, ◌&&◌, ◌||◌, not, nat_le, if◌then◌else◌, ℕ, Bool, true, false, List, [], ◌∷◌}
use Rattle.std.specs.Prelude.{Option, None, Some, reverse}
use Rattle.std.specs.List.{filter, flat_map, prefix_len}
use Rattle.std.specs.Bool.{beq}
use Rattle.std.specs.Str.{bytes_eq}
use Rattle.hart_values.specs.declared.address.Address.{Address}
use Rattle.hart_values.specs.declared.address.Address.TheVariants.{Polling, Unique}
use Rattle.hart_values.specs.declared.master_id.MasterId.{MasterId}
use Rattle.hart_values.specs.declared.master_id.MasterId.TheVariants.{Primary, Secondary}
use Rattle.hart_frame.specs.declared.heard.found.Found.{Found}
use Rattle.hart_frame.specs.declared.wire.kind.FrameKind.{FrameKind}
use Rattle.hart_frame.specs.declared.wire.kind.FrameKind.TheVariants.{Ack, Stx}
use Rattle.hart_frame.specs.heard.Sighting.{Message, Missed, Seen}
use Rattle.hart_frame.specs.wire.FrameParts.{FrameParts}
use Rattle.hart_explain.specs.declared.before.Before.{Before}

-- Whether two masters are the same.
abbrev pub same_master : MasterId → MasterId → Bool
same_master Primary Primary = true
same_master Secondary Secondary = true
same_master _ _ = false

-- Whether two addresses are the same.
abbrev pub same_address : Address → Address → Bool
same_address (Polling one) (Polling other) = one == other
same_address (Unique one) (Unique other) =
    (one.expanded_type == other.expanded_type) && (one.device_id == other.device_id)
same_address _ _ = false

-- Whether a frame is a request.
abbrev pub is_request : FrameKind → Bool
is_request Stx = true
is_request Ack = false

-- Whether two frames have the same address bytes: the same master, the same burst bit and the same address.
abbrev pub same_ends : FrameParts → FrameParts → Bool
same_ends one other =
    same_master one.master other.master && beq one.burst other.burst && same_address one.address other.address

-- Whether two frames have the same expansion bytes, the same command and the same payload.
abbrev pub same_content : FrameParts → FrameParts → Bool
same_content one other =
    bytes_eq one.expansion other.expansion && (one.command == other.command) && bytes_eq one.payload other.payload

-- Whether two frames are the same request: both are requests, and all their parts are the same.
abbrev pub same_request : FrameParts → FrameParts → Bool
same_request one other = is_request one.kind && is_request other.kind && same_ends one other && same_content one other

-- The list with the message of a sighting, if that message is a request of this master or a reply to this master. Otherwise the list is
-- empty.
abbrev pub message_of : MasterId → Seen → List Found
message_of master (Message found) = if same_master found.frame.master master then found ∷ [] else []
message_of master (Missed place miss header) = []

-- The requests of a master and the replies to it among some sightings, the last message first.
abbrev pub messages_back : MasterId → List Seen → List Found
messages_back master seen = reverse (flat_map (message_of master) seen)

-- Whether `request` is a request to the address of `frame`.
abbrev pub asks_device : FrameParts → FrameParts → Bool
asks_device request frame = is_request request.kind && same_address request.address frame.address

-- Whether a frame is a reply to a request: a reply with its address and command.
abbrev pub replies_to : (request frame : FrameParts) → Bool
replies_to request frame =
    asks_device request frame && not (is_request frame.kind) && (request.command == frame.command)

-- The start of the request that a frame answers: the last earlier message, if the frame is a reply to it. Otherwise `None`.
abbrev pub answered : FrameParts → List Found → Option ℕ
answered frame [] = None
answered frame (last ∷ earlier) = if replies_to last.frame frame then Some last.start else None

-- Whether the payload of a reply has communication faults.
abbrev pub has_faults : List ℕ → Bool
has_faults [] = false
has_faults (first ∷ others) = nat_le 128 first

-- Whether the payload of a reply has response code 32, busy.
abbrev pub is_busy : List ℕ → Bool
is_busy [] = false
is_busy (first ∷ others) = first == 32

-- Whether a frame leaves a request open: it is a reply with the request's address, and has either communication faults and any command, or
-- the request's command and response code 32.
abbrev pub leaves_open : (request frame : FrameParts) → Bool
leaves_open request frame =
    asks_device request frame && not (is_request frame.kind)
    && (has_faults frame.payload || ((request.command == frame.command) && is_busy frame.payload))

-- How many messages right before a frame are the same request as the frame. Replies that leave it open do not count.
abbrev pub repeats : FrameParts → List Found → ℕ
repeats frame messages =
    prefix_len (λ message. same_request message.frame frame) (filter (λ message. not (leaves_open frame message.frame)) messages)

-- What the earlier sightings say of a sighting. Only messages of the same master count. They do not say how many preamble bytes it has.
abbrev pub before_of : List Seen → Seen → Before
before_of earlier (Message found) =
    let messages = messages_back found.frame.master earlier in
    record { answers = answered found.frame messages; sending = 1 + repeats found.frame messages; preambles = None }
before_of earlier (Missed place miss header) = record { answers = None; sending = 1; preambles = None }

-- Two lists of earlier sightings are alike if replacing one by the other never changes what they say of later sightings.
abbrev pub AreAlike : List Seen → List Seen → Type 0
AreAlike one other = (between : List Seen) (seen : Seen) → before_of (one ++ between) seen ≡ before_of (other ++ between) seen
