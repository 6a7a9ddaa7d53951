-- The header with which bytes begin.
use Rattle.hart_frame.proofs.Common.{◌≡◌, ◌↔◌, ℕ, ◌+◌, ◌/◌, ◌%◌, ◌<◌, Bool, List, ◌∷◌, ◌++◌, Some, ◌∙◌, get_or, length, take, drop, sym}
use Rattle.hart_frame.proofs.Common.{arith, append_assoc, length-append, nat_tests, get_or_append_left, get_or_at, Address}
use Rattle.hart_frame.proofs.Common.{take-append-drop, IsAddressBytes, MasterId, BeginsWithBody, address_type, delimiter_of, kind_code}
use Rattle.hart_frame.proofs.Common.{FrameParts, HeaderParts, header_in, command_place, delimiter_in, IsDelimiter, HasDelimiter}
use Rattle.std.specs.Prelude.{IsSome}
use Rattle.hart_frame.specs.wire.Header.{address_in, header_of, master_in}
use Rattle.hart_frame.proofs.lemmas.wire.Refusal.{says}
use Rattle.hart_frame.proofs.lemmas.wire.UnambiguousBodies.{address_type-lt, kind_code-is, spread}

-- If the address bytes of a master and an address stand after the delimiter, the bytes have this master and this address.
pub address_read : (bytes xs : List ℕ) (master : MasterId) (burst : Bool) (address : Address) → IsAddressBytes master burst address xs
    → ((k : ℕ) → k < length xs → get_or bytes (1 + k) 0 ≡ get_or xs k 0) → delimiter_in bytes / 128 ≡ address_type address
    → (master_in bytes ≡ master) × (address_in bytes ≡ address)
address_read bytes xs master burst address is at type = grind (arith, nat_tests, at 0, at 1, at 2, at 3, at 4)

-- These parts stand in bytes as a header: the kind in the delimiter, then the address, and the command after the expansion bytes.
pub record StandsAsHeader (bytes : List ℕ) (parts : HeaderParts) : Type 0 where
  pub delimiter : IsDelimiter (delimiter_in bytes)
  pub within : command_place bytes < length bytes
  pub kind : kind_code parts.kind ≡ delimiter_in bytes % 8
  pub form : delimiter_in bytes / 128 ≡ address_type parts.address
  pub burst : Bool
  pub address : List ℕ
  pub address_bytes : IsAddressBytes parts.master burst parts.address address
  pub stands : (k : ℕ) → k < length address → get_or bytes (1 + k) 0 ≡ get_or address k 0
  pub command : parts.command ≡ get_or bytes (command_place bytes) 0

pub header_read : (bytes : List ℕ) (parts : HeaderParts) → StandsAsHeader bytes parts → header_in bytes ≡ Some parts
unfolding header_in
header_read bytes parts is = grind (arith, nat_tests, address_read)

-- Bytes that begin with a body have the header of its frame.
pub headers_are_those_of_frames-body : (bytes : List ℕ) (f : FrameParts) (len : ℕ) → BeginsWithBody bytes f len
    → header_in bytes ≡ Some (header_of f)
headers_are_those_of_frames-body bytes f len begins =
    let part = begins.body.checked_part in
    let said = says bytes f len begins in
    let whole = sym (take-append-drop len bytes) ∙ spread f (take len bytes) (drop len bytes) begins.body in
    let prefix : List ℕ = delimiter_of f ∷ part.address ++ f.expansion in
    let rest : List ℕ = length f.payload ∷ (f.payload ++ begins.body.check ∷ drop len bytes) in
    let split : bytes ≡ prefix ++ f.command ∷ rest = whole ∙ simp append_assoc in
    let count : length prefix ≡ command_place bytes = grind (arith, length-append, said.place) in
    let command : get_or bytes (command_place bytes) 0 ≡ f.command = grind (arith, get_or_at) in
    let stands : StandsAsHeader bytes (header_of f) = grind (arith, get_or_append_left, kind_code-is, address_type-lt) in
    header_read bytes (header_of f) stands

-- Bytes have a header exactly if they begin with an STX or ACK delimiter and reach the command.
pub headers_are_those_of_frames-exactly : (bytes : List ℕ)
    → IsSome (header_in bytes) ↔ (HasDelimiter bytes × (command_place bytes < length bytes))
unfolding header_in
headers_are_those_of_frames-exactly bytes = grind (arith, nat_tests)

-- Bytes that follow do not change the header if the command is reached already, or if the first byte is no delimiter.
pub header_sure : (xs ys : List ℕ) → 0 < length xs → (IsDelimiter (delimiter_in xs) → command_place xs < length xs)
    → header_in (xs ++ ys) ≡ header_in xs
unfolding header_in
header_sure xs ys some reach = grind (arith, nat_tests, length-append, get_or_append_left)

pub headers_are_those_of_frames-stays : (xs ys : List ℕ) (parts : HeaderParts) → header_in xs ≡ Some parts
    → header_in (xs ++ ys) ≡ Some parts
headers_are_those_of_frames-stays xs ys parts is = grind (arith, headers_are_those_of_frames-exactly xs, header_sure xs ys)
