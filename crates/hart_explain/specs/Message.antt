-- A message, in words and as members of an object of JSON (implementation choice).
use Rattle.std.specs.Prelude.{◌++◌, [], ◌∷◌, ℕ, Bool, false, true, List, Option, None, Some, codes, decimal, if◌then◌else◌, nat_lt}
use Rattle.serde_json.specs.Data.{Data, boolean, null}
use Rattle.hart_frame.specs.declared.heard.found.Found.{Found}
use Rattle.hart_frame.specs.declared.wire.kind.FrameKind.{FrameKind}
use Rattle.hart_frame.specs.declared.wire.kind.FrameKind.TheVariants.{Stx, Ack}
use Rattle.hart_frame.specs.wire.FrameParts.{FrameParts}
use Rattle.hart_frame.specs.wire.Header.{header_of}
use Rattle.hart_explain.specs.declared.before.Before.{Before}
use Rattle.hart_explain.specs.Header.{command_members, header_words, speaker_members}
use Rattle.hart_explain.specs.Json.{Named, count, hex, named, reading_members}
use Rattle.hart_explain.specs.Reading.{reading_of_reply, reading_of_request}
use Rattle.hart_explain.specs.Status.{status_lines, status_members}
use Rattle.hart_explain.specs.Words.{bytes_line, reading_lines, said_line}

-- The words for a request that is sent again: the number of its consecutive sendings so far.
abbrev pub sending_words : FrameKind → Before → List ℕ
sending_words Stx before = if nat_lt 1 before.sending then codes ", sending " ++ decimal before.sending else []
sending_words Ack before = []

-- The line of a message: in decimal the place of its delimiter and the place after its check byte, then the words of its header and of its
-- sending, and a line feed.
abbrev pub message_line : Before → Found → List ℕ
message_line before found =
    decimal found.start ++ codes "-" ++ decimal found.stop ++ codes ": " ++ header_words (header_of found.frame)
    ++ sending_words found.frame.kind before ++ 10 ∷ []

-- The line of a burst bit, if the bit is set.
abbrev pub burst_line : Bool → List ℕ
burst_line false = []
burst_line true = said_line (codes "burst bit") (codes "set")

-- The lines of a payload. The payload of an STX is its data. The payload of an ACK is two status bytes and then its data.
abbrev pub payload_lines : FrameKind → ℕ → List ℕ → List ℕ
payload_lines Stx command payload = reading_lines command payload (reading_of_request command payload)
payload_lines Ack command (first ∷ second ∷ bytes) =
    status_lines command first second ++ reading_lines command bytes (reading_of_reply command (first ∷ second ∷ bytes))
payload_lines Ack command _ = []

-- The paragraph of a message is its line, and then the lines of its burst bit, its expansion bytes and its payload.
unfoldable pub paragraph : Before → Found → List ℕ
paragraph before found =
    message_line before found ++ burst_line found.frame.burst ++ bytes_line (codes "expansion bytes") found.frame.expansion
    ++ payload_lines found.frame.kind found.frame.command found.frame.payload

-- The members of a payload. The payload of an STX is its data. The payload of an ACK is two status bytes and then its data.
abbrev pub payload_members : FrameKind → ℕ → List ℕ → List Named
payload_members Stx command payload = reading_members command payload (reading_of_request command payload)
payload_members Ack command (first ∷ second ∷ bytes) =
    status_members command first second ++ reading_members command bytes (reading_of_reply command (first ∷ second ∷ bytes))
payload_members Ack command _ = []

-- A count as a number. If there is no count, the value is null.
abbrev pub count_or_null : Option ℕ → Data
count_or_null None = null
count_or_null (Some value) = count value

-- The member that is known from earlier messages. For a request it is the number of its consecutive sendings so far. For a reply it is the
-- start of the request that it answers. That request must be the last earlier message of the same master; otherwise the value is null.
abbrev pub before_member : FrameKind → Before → Named
before_member Stx before = named "sending" (count before.sending)
before_member Ack before = named "answers" (count_or_null before.answers)

-- The members of a frame: its header, its burst bit, its expansion bytes and its payload.
abbrev pub frame_members : FrameParts → List Named
frame_members frame =
    speaker_members (header_of frame)
    ++ (named "burst" (boolean frame.burst) ∷ named "expansion" (hex frame.expansion) ∷ command_members frame.command)
    ++ payload_members frame.kind frame.command frame.payload

-- The member of the number of preamble bytes of a message. If the number is not known, there is no member.
abbrev pub preambles_members : Option ℕ → List Named
preambles_members None = []
preambles_members (Some preambles) = named "preambles" (count preambles) ∷ []

-- The members of a message: the place of its delimiter, the place after its check byte, the number of its preamble bytes, what its frame
-- says, and what is known from earlier messages.
abbrev pub message_members : Before → Found → List Named
message_members before found =
    named "start" (count found.start) ∷ named "stop" (count found.stop)
    ∷ preambles_members before.preambles ++ (frame_members found.frame ++ before_member found.frame.kind before ∷ [])
