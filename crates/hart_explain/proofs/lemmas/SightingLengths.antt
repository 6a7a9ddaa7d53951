-- The greatest number of characters in the text of a sighting, in words and as a line of JSON.
use Rattle.std.proofs.Common.{◌≡◌, ◌≤◌, ◌<◌, ◌+◌, ◌*◌, ℕ, Bool, true, false, List, [], ◌∷◌, ◌++◌, Option, None, Some, IfSome}
use Prim.Native.String.{String}
use Rattle.std.proofs.Common.{ap, append-nil, append_assoc, arith, codes, subst, length, length-append, nat_le, refl}
use Rattle.std.proofs.Math.Nat.{mul-suc}
use Rattle.std.proofs.lemmas.Bool.{and_parts, leb-true}
use Rattle.std.proofs.lemmas.Grind.{common_steps, flat_map-append}
use Rattle.std.specs.List.{flat_map, list_all}
use Rattle.std.specs.Prelude.{decimal, if◌then◌else◌, nat_lt}
use Rattle.hex.specs.Hex.{encode_upper}
use Rattle.hex.proofs.HexLemmas.{length-encode_with}
use Rattle.serde_json.specs.Data.{Data, boolean, null, string}
use Rattle.serde_json.specs.Written.{compact_text}
use Rattle.hart_values.specs.address.DeviceNumbers.{DeviceNumbers}
use Rattle.hart_values.specs.declared.address.Address.{Address}
use Rattle.hart_values.specs.declared.address.Address.TheVariants.{Polling, Unique}
use Rattle.hart_values.specs.declared.master_id.MasterId.{MasterId}
use Rattle.hart_values.specs.declared.master_id.MasterId.TheVariants.{Primary, Secondary}
use Rattle.hart_commands.specs.Commands.{command_name}
use Rattle.hart_frame.specs.declared.heard.found.Found.{Found}
use Rattle.hart_frame.specs.declared.heard.miss.Miss.{Miss}
use Rattle.hart_frame.specs.declared.wire.kind.FrameKind.{FrameKind}
use Rattle.hart_frame.specs.declared.wire.kind.FrameKind.TheVariants.{Ack, Stx}
use Rattle.hart_frame.specs.heard.Sighting.{Message}
use Rattle.hart_frame.specs.wire.FrameParts.{FrameParts}
use Rattle.hart_frame.specs.wire.Header.{HeaderParts, header_of}
use Rattle.hart_explain.specs.declared.before.Before.{Before}
use Rattle.hart_commands.specs.Codes.{code_name}
use Rattle.hart_explain.specs.Header.{address_word, command_members, device_words, ends_members, header_words, kind_name, master_name}
use Rattle.hart_explain.specs.Header.{header_value, master_words, named_number, speaker_members, who_words}
use Rattle.hart_explain.specs.Json.{Named, count, further_member, further_members, hex, name_or_null, named, object_of}
use Rattle.hart_explain.specs.Json.{reading_members, word}
use Rattle.hart_explain.specs.Reading.{Reading}
use Rattle.hart_explain.specs.Message.{before_member, burst_line, frame_members, message_line, message_members, paragraph}
use Rattle.hart_explain.specs.Message.{preambles_members}
use Rattle.hart_explain.specs.Message.{payload_lines, payload_members, sending_words}
use Rattle.hart_explain.specs.Miss.{miss_members, reason_members, seems_line, seems_value}
use Rattle.hart_explain.specs.Sighting.{data_of, date_words, time_members}
use Rattle.hart_commands.specs.StatusBits.{NamedBit, comm_faults, device_states}
use Rattle.hart_explain.specs.Status.{fault_members, is_set, names_value, names_words, response_members, set_names, status_lines}
use Rattle.hart_explain.specs.Status.{status_members}
use Rattle.hart_explain.specs.Words.{bytes_line, name_words, said_line}
use Rattle.hart_explain.proofs.lemmas.Bounded.{command_name-short}
use Rattle.hart_explain.proofs.lemmas.Extended.{extended_nothing, extended_on}
use Rattle.hart_explain.proofs.lemmas.Lengths.{bytes-line-fits, decimal_byte, name-fits}
use Rattle.hart_explain.proofs.lemmas.JsonLengths.{code_name-short, named-fits, object-fits, string-fits}
use Rattle.hart_explain.proofs.lemmas.Json.{items-is}

-- whether a named bit has a name of at most 40 characters
is_short_bit : NamedBit → Bool
is_short_bit bit = nat_le (length bit.name) 40

one-name-fits : (f : List ℕ → List ℕ) (each : ℕ) → ((name : List ℕ) → length name ≤ 40 → length (f name) ≤ each)
    → (set : Bool) (name : List ℕ) → length name ≤ 40 → length (flat_map f (if set then name ∷ [] else [])) ≤ each
one-name-fits f each fit true name short = simp length-append (omega (arith, fit name short))
one-name-fits f each fit false name short = omega arith

names-fit : (f : List ℕ → List ℕ) (each : ℕ) → ((name : List ℕ) → length name ≤ 40 → length (f name) ≤ each)
    → (byte : ℕ) (bits : List NamedBit) → list_all is_short_bit bits ≡ true
    → length (flat_map f (set_names byte bits)) ≤ each * length bits
unfolding is_short_bit
names-fit f each fit byte [] short = omega arith
names-fit f each fit byte (bit ∷ bits) short =
    let parts = and_parts (nat_le (length bit.name) 40) (list_all is_short_bit bits) short in
    let first = one-name-fits f each fit (is_set byte bit) bit.name (leb-true (length bit.name) 40 parts.0) in
    let rest = names-fit f each fit byte bits parts.1 in
    simp (flat_map-append, length-append, mul-suc) (omega (arith, first, rest))

-- the words of some names are short if the names are
joined-names-fit : (names : List (List ℕ)) → length (names_words names) ≤ length (flat_map (λ name. codes ", " ++ name) names) + 4
joined-names-fit [] = omega arith
joined-names-fit (name ∷ others) = simp length-append (omega arith)

further-name-fits : (name : List ℕ) → length name ≤ 40 → length (codes ", " ++ name) ≤ 42
further-name-fits name short = omega (arith, short)

set-names-fit : (byte : ℕ) (bits : List NamedBit) → list_all is_short_bit bits ≡ true → length bits ≤ 8
    → length (names_words (set_names byte bits)) ≤ 340
set-names-fit byte bits short few =
    let all = names-fit (λ name. codes ", " ++ name) 42 further-name-fits byte bits short in
    omega (arith, joined-names-fit (set_names byte bits), all, few)

states-fit : (byte : ℕ) → length (names_words (set_names byte device_states)) ≤ 340
unfolding is_short_bit
states-fit byte = set-names-fit byte device_states refl (omega arith)

faults-fit : (byte : ℕ) → length (names_words (set_names byte comm_faults)) ≤ 340
unfolding is_short_bit
faults-fit byte = set-names-fit byte comm_faults refl (omega arith)

-- if two texts are short, so is the one that a test chooses
either-fits : (test : Bool) (one other : List ℕ) (most : ℕ) → length one ≤ most → length other ≤ most
    → length (if test then one else other) ≤ most
either-fits true one other most fits fit = fits
either-fits false one other most fits fit = fit

-- the lines of two status bytes have at most 500 characters
pub status-fits : (command first second : ℕ) → first < 256 → length (status_lines command first second) ≤ 500
status-fits command first second small =
    let number = decimal_byte first small in
    let name = name-fits command first in
    let states = states-fit second in
    let faults = faults-fit first in
    either-fits (nat_lt first 128)
    (said_line (codes "response code") (named_number first (code_name command first))
    ++ said_line (codes "device status") (names_words (set_names second device_states)))
    (said_line (codes "communication faults") (names_words (set_names first comm_faults))) 500
    (simp length-append (omega (arith, number, name, states))) (simp length-append (omega (arith, faults)))

-- the lines of two status bytes and of the data after them have at most 6,800 characters
pub reply-fits : (status rest : List ℕ) → length status ≤ 500 → length rest ≤ 6300 → length (status ++ rest) ≤ 6800
reply-fits status rest first second = simp length-append (omega (arith, first, second))

-- the words of an address are short if the word of the address is
device-fits : (broadcast : List ℕ) (address : Address) → length broadcast ≤ 18 → length (address_word address) ≤ 21
    → length (device_words broadcast address) ≤ 51
device-fits broadcast (Polling number) few short = simp length-append (omega (arith, short))
device-fits broadcast (Unique numbers) few short = grind (arith, common_steps, length-append)

master-fits : (master : MasterId) → length (master_words master) ≤ 20
master-fits Primary = omega arith
master-fits Secondary = omega arith

who-fits : (kind : FrameKind) (master : MasterId) (address : Address) → length (address_word address) ≤ 21
    → length (who_words kind master address) ≤ 110
who-fits Stx master address short =
    simp length-append (omega (arith, master-fits master, device-fits (codes "all devices") address (omega arith) short))
who-fits Ack master address short =
    simp length-append (omega (arith, master-fits master, device-fits (codes "one of all devices") address (omega arith) short))

-- the words for the name of a command are short
command-name-fits : (name : Option (List ℕ)) → IfSome name (λ name. length name ≤ 64) → length (name_words name) ≤ 66
command-name-fits None short = omega arith
command-name-fits (Some name) short = omega (arith, short)

pub header-fits : (header : HeaderParts) → length (address_word header.address) ≤ 21 → header.command < 256
    → length (header_words header) ≤ 200
header-fits header short small =
    let who = who-fits header.kind header.master header.address short in
    let number = decimal_byte header.command small in
    let name = command-name-fits (command_name header.command) (command_name-short header.command) in
    simp length-append (omega (arith, who, number, name))

-- the word of a unique address is short
pub unique_short : (numbers : DeviceNumbers) → length (address_word (Unique numbers)) ≤ 21
unique_short numbers = grind (arith, common_steps, length-encode_with)

-- the rules for the word of an address that is printed piece by piece
pub ruleset addresses = (extended_on, extended_nothing, append_assoc, append-nil, unique_short)

-- the line of a burst bit has at most 20 characters
pub burst-line-fits : (burst : Bool) → length (burst_line burst) ≤ 20
burst-line-fits true = omega arith
burst-line-fits false = omega arith

-- the line of at most three bytes has at most 40 characters
pub bytes-fit : (name bytes : List ℕ) → length name ≤ 20 → length bytes ≤ 3 → length (bytes_line name bytes) ≤ 40
bytes-fit name bytes short few = omega (arith, bytes-line-fits name bytes, short, few)

-- the lines of a message
pub message-line-fits : (before : Before) (found : Found) → length (decimal found.start) ≤ 20 → length (decimal found.stop) ≤ 20
    → length (header_words (header_of found.frame)) ≤ 200 → length (sending_words found.frame.kind before) ≤ 30
    → length (message_line before found) ≤ 290
message-line-fits before found start stop header sending =
    let words = simp length-append at header in simp length-append (omega (arith, start, stop, words, sending))

pub paragraph-fits : (before : Before) (found : Found) → length (message_line before found) ≤ 290 → length found.frame.expansion ≤ 3
    → length (payload_lines found.frame.kind found.frame.command found.frame.payload) ≤ 6800 → length (paragraph before found) ≤ 7240
unfolding paragraph
paragraph-fits before found line few payload =
    let line = simp length-append at line in
    let expansion = bytes-fit (codes "expansion bytes") found.frame.expansion (omega arith) few in
    simp length-append (omega (arith, line, burst-line-fits found.frame.burst, expansion, payload))

pub seems-line-fits : (header : Option HeaderParts) → IfSome header (λ header. length (header_words header) ≤ 200)
    → length (seems_line header) ≤ 220
seems-line-fits None short = omega arith
seems-line-fits (Some header) short = let words = simp length-append at short in simp length-append (omega (arith, words))

-- a date of at most 32 bytes, with a space, has at most 33 characters
pub date-fits : (date : List ℕ) → length date ≤ 32 → length (date_words date) ≤ 33
date-fits [] short = omega arith
date-fits (byte ∷ word) short = simp length-append (omega (arith, short))

-- members whose text has at most `most` bytes
pub record Fit (members : List Named) (most : ℕ) : Type 0 where
  pub fit : length (further_members members) ≤ most

-- a value whose text has at most `most` bytes
pub record Fits (value : Data) (most : ℕ) : Type 0 where
  pub fits : length (compact_text value) ≤ most

-- if two lists of members are short, they are short together
pub no-members : Fit [] 0
no-members = record { fit = omega arith }

pub member-then : {value : Data} {others : List Named} {most rest : ℕ} (name : List ℕ) → Fits value most → Fit others rest
    → Fit (record { name = name; value = value } ∷ others) (4 + 6 * length name + most + rest)
member-then {value} name fits fit = record { fit = simp length-append (omega (arith, named-fits name value, fits.fits, fit.fit)) }

pub members-then : {one other : List Named} {most rest : ℕ} → Fit one most → Fit other rest → Fit (one ++ other) (most + rest)
members-then fits fit = record { fit = simp (flat_map-append, length-append) (omega (arith, fits.fit, fit.fit)) }

pub fewer : {members : List Named} {most : ℕ} (more : ℕ) → Fit members most → most ≤ more → Fit members more
fewer more fit few = record { fit = omega (arith, fit.fit, few) }

-- the values of members are short
pub number-fits : (number most : ℕ) → length (decimal number) ≤ most → Fits (count number) most
number-fits number most few = record { fits = few }

pub text-fits : (text : List ℕ) (most : ℕ) → length text ≤ most → Fits (string text) (6 * most + 2)
text-fits text most few = record { fits = omega (arith, string-fits text, few) }

pub bytes-value-fits : (bytes : List ℕ) (most : ℕ) → length bytes ≤ most → Fits (hex bytes) (12 * most + 2)
bytes-value-fits bytes most few =
    record { fits = grind (arith, length-encode_with, string-fits (encode_upper bytes), few) }

pub null-fits : Fits null 4
null-fits = record { fits = omega arith }

name-value-fits : (name : Option (List ℕ)) (most : ℕ) → IfSome name (λ name. length name ≤ most) → Fits (name_or_null name) (6 * most + 4)
name-value-fits None most short = record { fits = omega arith }
name-value-fits (Some name) most short = record { fits = omega (arith, string-fits name, short) }

kind-fits : (kind : FrameKind) → Fits (string (kind_name kind)) 44
kind-fits Stx = text-fits (codes "request") 7 (omega arith)
kind-fits Ack = text-fits (codes "reply") 7 (omega arith)

master-value-fits : (master : MasterId) → Fits (string (master_name master)) 56
master-value-fits Primary = text-fits (codes "primary") 9 (omega arith)
master-value-fits Secondary = text-fits (codes "secondary") 9 (omega arith)

burst-fits : (burst : Bool) → Fits (boolean burst) 5
burst-fits true = record { fits = omega arith }
burst-fits false = record { fits = omega arith }

-- the members of a header are short
pub ends-fit : (master : MasterId) (address : Address) → length (address_word address) ≤ 21 → Fit (ends_members master address) 270
ends-fit master address short =
    member-then (codes "master") (master-value-fits master)
    (member-then (codes "address") (text-fits (address_word address) 21 short) no-members)

pub command-fits : (command : ℕ) → command < 256 → Fit (command_members command) 513
command-fits command small =
    member-then (codes "command") (number-fits command 3 (decimal_byte command small))
    (member-then (codes "command_name") (name-value-fits (command_name command) 64 (command_name-short command)) no-members)

pub header-value-fits : (header : HeaderParts) → length (further_members (ends_members header.master header.address)) ≤ 270
    → header.command < 256 → Fits (header_value header) 900
header-value-fits header ends small =
    let ends : Fit (ends_members header.master header.address) 270 = record { fit = ends } in
    let all = members-then (member-then (codes "kind") (kind-fits header.kind) ends) (command-fits header.command small) in
    record { fits = omega (arith, object-fits (speaker_members header ++ command_members header.command), all.fit) }

-- the names of the bits that are set are short, as a list of strings
list-of-fits : (names : List (List ℕ))
    → length (compact_text (names_value names)) ≤ length (flat_map (λ name. 44 ∷ [] ++ compact_text (string name)) names) + 2
list-of-fits [] = omega arith
list-of-fits (first ∷ others) =
    let later = simp length-append at (ap length (items-is string others)) in simp length-append (omega (arith, later))

string-in-list-fits : (name : List ℕ) → length name ≤ 40 → length (44 ∷ [] ++ compact_text (string name)) ≤ 243
string-in-list-fits name short = omega (arith, string-fits name, short)

names-value-fits : (byte : ℕ) (bits : List NamedBit) → list_all is_short_bit bits ≡ true → length bits ≤ 8
    → Fits (names_value (set_names byte bits)) 1946
names-value-fits byte bits short few =
    let all = names-fit (λ name. 44 ∷ [] ++ compact_text (string name)) 243 string-in-list-fits byte bits short in
    record { fits = omega (arith, list-of-fits (set_names byte bits), all, few) }

-- the members of two status bytes have at most 2,435 characters
response-fits : (command first second : ℕ) → first < 256 → Fit (response_members command first second) 2435
unfolding is_short_bit
response-fits command first second small =
    member-then (codes "response_code") (number-fits first 3 (decimal_byte first small))
    (member-then (codes "response") (name-value-fits (code_name command first) 23 (code_name-short command first))
    (member-then (codes "device_status") (names-value-fits second device_states refl (omega arith))
    (member-then (codes "communication_faults") null-fits no-members)))

faults-data-fit : (first : ℕ) → Fit (fault_members first) 2435
unfolding is_short_bit
faults-data-fit first =
    fewer 2435 (member-then (codes "response_code") null-fits (member-then (codes "response") null-fits
    (member-then (codes "device_status") null-fits
    (member-then (codes "communication_faults") (names-value-fits first comm_faults refl (omega arith)) no-members)))) (omega arith)

either-members-fit : (test : Bool) (one other : List Named) (most : ℕ) → Fit one most → Fit other most
    → Fit (if test then one else other) most
either-members-fit true one other most fits fit = fits
either-members-fit false one other most fits fit = fit

pub status-data-fits : (command first second : ℕ) → first < 256 → Fit (status_members command first second) 2501
status-data-fits command first second small =
    member-then (codes "status") (bytes-value-fits (first ∷ second ∷ []) 2 (omega arith))
    (either-members-fit (nat_lt first 128) (response_members command first second) (fault_members first) 2435
    (response-fits command first second small) (faults-data-fit first))

-- if a reading has short members, so has an equal reading
pub same-reading-fits : (command : ℕ) (bytes : List ℕ) (one other : Reading) (most : ℕ) → one ≡ other
    → length (further_members (reading_members command bytes one)) ≤ most
    → length (further_members (reading_members command bytes other)) ≤ most
same-reading-fits command bytes one other most same few =
    subst (λ (reading : Reading). length (further_members (reading_members command bytes reading)) ≤ most) same few

-- the members of a frame are short if those of its payload are
pub frame-fits : (frame : FrameParts) → length (further_members (ends_members frame.master frame.address)) ≤ 270
    → length frame.expansion ≤ 3 → frame.command < 256
    → length (further_members (payload_members frame.kind frame.command frame.payload)) ≤ 14501
    → length (further_members (frame_members frame)) ≤ 15600
frame-fits frame ends few small payload =
    let ends : Fit (ends_members frame.master frame.address) 270 = record { fit = ends } in
    let payload : Fit (payload_members frame.kind frame.command frame.payload) 14501 = record { fit = payload } in
    let speaker = member-then (codes "kind") (kind-fits frame.kind) ends in
    let middle =
    member-then (codes "burst") (burst-fits frame.burst)
    (member-then (codes "expansion") (bytes-value-fits frame.expansion 3 few) (command-fits frame.command small)) in
    let all = members-then (members-then speaker middle) payload in omega (arith, all.fit)

-- the member of a date of at most 32 bytes is short
time-fits : (date : List ℕ) → length date ≤ 32 → Fit (time_members date) 222
time-fits [] short = record { fit = omega arith }
time-fits (byte ∷ word) short = member-then (codes "time") (text-fits (byte ∷ word) 32 short) no-members

-- an object with a type, a date and further members is short if the further members are
typed-fits : (kind : String) (date : List ℕ) (others : List Named) (most : ℕ) → length (codes kind) ≤ 7 → length date ≤ 32
    → Fit others most → length (compact_text (object_of (named "type" (word kind) ∷ time_members date ++ others))) ≤ 296 + most
typed-fits kind date others most short dated few =
    let all = member-then (codes "type") (text-fits (codes kind) 7 short) (members-then (time-fits date dated) few) in
    omega (arith, object-fits (named "type" (word kind) ∷ time_members date ++ others), all.fit)

pub message-fits : (date : List ℕ) (before : Before) (found : Found) → length date ≤ 32 → length (decimal found.start) ≤ 20
    → length (decimal found.stop) ≤ 20 → length (further_members (preambles_members before.preambles)) ≤ 33
    → length (further_members (frame_members found.frame)) ≤ 15600
    → length (further_member (before_member found.frame.kind before)) ≤ 66
    → length (compact_text (data_of date before (Message found))) ≤ 16300
message-fits date before found short start stop counted frame sending =
    let counted : Fit (preambles_members before.preambles) 33 = record { fit = counted } in
    let frame : Fit (frame_members found.frame) 15600 = record { fit = frame } in
    let last : Fit (before_member found.frame.kind before ∷ []) 66 = record { fit = simp append-nil sending } in
    let places =
    member-then (codes "start") (number-fits found.start 20 start)
    (member-then (codes "stop") (number-fits found.stop 20 stop) (members-then counted (members-then frame last))) in
    let all = typed-fits "message" date (message_members before found) _ (omega arith) short places in omega (arith, all)

pub miss-fits : (date : List ℕ) (place : ℕ) (miss : Miss) (header : Option HeaderParts) → length date ≤ 32
    → length (decimal place) ≤ 20 → length (further_members (reason_members miss)) ≤ 600
    → length (further_member (named "seems" (seems_value header))) ≤ 1000
    → length (compact_text (object_of (named "type" (word "miss") ∷ time_members date ++ miss_members place miss header))) ≤ 16300
miss-fits date place miss header short number reason seems =
    let reason : Fit (reason_members miss) 600 = record { fit = reason } in
    let last : Fit (named "seems" (seems_value header) ∷ []) 1000 = record { fit = simp append-nil seems } in
    let members =
    member-then (codes "start") (number-fits place 20 number)
    (member-then (codes "place") (number-fits place 20 number) (members-then reason last)) in
    let all = typed-fits "miss" date (miss_members place miss header) _ (omega arith) short members in omega (arith, all)

pub seems-fits : (header : Option HeaderParts) → IfSome header (λ header. length (compact_text (header_value header)) ≤ 900)
    → length (further_member (named "seems" (seems_value header))) ≤ 1000
seems-fits None short = omega (arith, named-fits (codes "seems") null)
seems-fits (Some header) short = omega (arith, named-fits (codes "seems") (header_value header), short)
