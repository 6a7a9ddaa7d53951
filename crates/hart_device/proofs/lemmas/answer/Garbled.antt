-- The communication faults of characters, bit by bit. A list of characters has at most one garbled request, and it is decided whether it
-- has one.
use Rattle.std.proofs.Common.{◌≡◌, ℕ, ◌+◌, ◌%◌, ◌^◌, ◌<◌, ◌==◌, not, List, [], ◌∷◌, length, map, take, get_or, count_by, refl, arith}
use Rattle.std.proofs.Common.{bit_and, bit_xor, nat_lt, if◌then◌else◌, ◌∙◌, ◌*◌, ◌&&◌, ◌⊎◌, inl, inr, ◌++◌, drop, Bool, true, false, ap}
use Rattle.std.proofs.Common.{Option, None, Some, MatchOption, sym}
use Rattle.std.proofs.lemmas.Bool.Decides.{nat_tests}
use Rattle.std.proofs.lemmas.Grind.{common_steps}
use Rattle.std.proofs.lemmas.List.Sums.{sum_by-cons, sum_by_more}
use Rattle.std.proofs.lemmas.Nat.Bits.{and_pow, bit_at_xor, bit_at-lt}
use Rattle.std.specs.Int.{bit_at}
use Rattle.std.specs.List.{list_any, list_all}
use Rattle.hart_frame.specs.heard.Character.{Character}
use Rattle.hart_frame.specs.wire.Parity.{bit_count}
use Rattle.hart_device.specs.answer.Garbled.{has_fault, has_odd_bit, BeginsWithGarbled, HasGarbled, IsAsking, communication_faults}
use Rattle.std.proofs.Math.Seq.{take-append-add}
use Rattle.std.proofs.lemmas.List.{append_assoc, drop_at, take-append-drop, take_at}
use Rattle.hart_values.specs.address.AddressBytes.{IsUniqueBytes, first_byte}
use Rattle.hart_values.specs.address.DeviceNumbers.{DeviceNumbers}
use Rattle.hart_values.specs.declared.master_id.MasterId.{MasterId}
use Rattle.hart_values.specs.declared.master_id.MasterId.TheVariants.{Primary, Secondary}
use Rattle.hart_frame.specs.heard.Place.{IsFirstStart}
use Rattle.hart_frame.proofs.lemmas.Laws.{first_starts_are_decided-decided, first_starts_are_decided-one}
use Rattle.hart_device.specs.Identity.{own_numbers}
use Rattle.hart_device.specs.declared.answer.garbled.GarbledRequest.{GarbledRequest}
use Rattle.hart_device.specs.declared.identity_parts.IdentityParts.{IdentityParts}

-- a fault is heard if a character has the bit of the fault
pub fault_found : (chars : List Character) (fault bit : ℕ) → fault ≡ 2 ^ bit
    → list_any (λ character. not (bit_and character.faults fault == 0)) chars ≡ has_fault bit chars
fault_found [] fault bit is = refl
fault_found (c ∷ chars) fault bit is =
    grind (arith, nat_tests, and_pow c.faults bit, bit_at-lt c.faults bit, fault_found chars fault bit is)

-- the bytes of characters
abbrev pub bytes_of : List Character → List ℕ
bytes_of chars = map (λ character. character.byte) chars

-- each bit of a check byte says whether an odd number of characters have the bit
abbrev pub IsCheck : List Character → ℕ → Type 0
IsCheck chars check = (bit : ℕ) → bit_at check bit ≡ bit_count bit (bytes_of chars) % 2

-- a bit is set in as many bytes as characters have it
counted : (bit : ℕ) (chars : List Character)
    → bit_count bit (bytes_of chars) ≡ count_by (λ character. bit_at character.byte bit == 1) chars
counted bit [] = refl
counted bit (c ∷ chars) = simp (sum_by-cons, counted bit chars)

-- a check byte is not 0 exactly if at least one bit is set in an odd number of characters
pub odd_is : (chars : List Character) (check : ℕ) → IsCheck chars check → check < 256 → not (check == 0) ≡ has_odd_bit chars
odd_is chars check is small = grind (arith, nat_tests, is 0, is 1, is 2, is 3, is 4, is 5, is 6, is 7)

pub IsCheck-more : (chars : List Character) (i check : ℕ) (character : Character) → i < length chars
    → character ≡ get_or chars i character → IsCheck (take i chars) check → IsCheck (take (i + 1) chars) (bit_xor check character.byte)
IsCheck-more chars i check character within is checked bit =
    grind (arith, common_steps, nat_tests, counted bit (take i chars), counted bit (take (i + 1) chars), sum_by_more, bit_at-lt, bit_at_xor)

-- whether the result is the value of which `Holds` is true, or `None` if there is no such value
abbrev pub Finds : {A : Type 0} → (A → Type 0) → Option A → Type 0
Finds Holds result = MatchOption result ((x : _) → Holds x → ⊥) Holds

-- a head has six characters
pub head_long : (identity : IdentityParts) (head : List Character) (master : MasterId) → IsAsking identity head master → length head ≡ 6
head_long identity head master is = let five = is.own.five in grind (arith, common_steps)

-- a head names one master
asking_one : (identity : IdentityParts) (head : List Character) (master other : MasterId) → IsAsking identity head master
    → IsAsking identity head other → master ≡ other
asking_one identity head master other p q = let five = p.own.five in let same = q.own.five in grind (arith, common_steps)

-- the head of a garbled request is its first six characters
pub head_first : (identity : IdentityParts) (chars : List Character) (request : GarbledRequest)
    (begins : BeginsWithGarbled identity chars request) → begins.head ≡ take 6 chars
head_first identity chars request begins =
    rw (begins.parts, append_assoc) (sym (take_at begins.head _ 6 (head_long _ _ _ begins.asking)))

pub tail_after : (identity : IdentityParts) (chars : List Character) (request : GarbledRequest)
    (begins : BeginsWithGarbled identity chars request)
    → drop 6 chars ≡ begins.command ∷ begins.byte_count ∷ begins.after ++ begins.rest
tail_after identity chars request begins = rw (begins.parts, append_assoc) (drop_at begins.head _ 6 (head_long _ _ _ begins.asking))

same_tail : (a b c d : Character) (after rest other more : List Character) → (a ∷ b ∷ after) ++ rest ≡ (c ∷ d ∷ other) ++ more
    → length after ≡ b.byte + 1 → length other ≡ d.byte + 1 → (a ≡ c) × (b ≡ d) × (after ≡ other)
same_tail a b c d after rest other more same long other_long =
    grind (arith, take_at after rest (b.byte + 1), take_at other more (d.byte + 1))

begins_one : (identity : IdentityParts) (chars : List Character) (request other : GarbledRequest)
    → BeginsWithGarbled identity chars request → BeginsWithGarbled identity chars other → request ≡ other
begins_one identity chars request other p q =
    let head : p.head ≡ q.head = head_first _ _ _ p ∙ sym (head_first _ _ _ q) in
    let tail = sym (tail_after _ _ _ p) ∙ tail_after _ _ _ q in
    let master : request.master ≡ other.master = asking_one identity p.head _ _ p.asking (rw head q.asking) in
    let same = same_tail p.command p.byte_count q.command q.byte_count p.after p.rest q.after q.rest tail p.long q.long in
    let command : request.command ≡ other.command = rw (p.command_is, q.command_is, same.0) refl in
    let faults : request.faults ≡ other.faults = rw (p.faults_are, q.faults_are, head, same.0, same.1, same.2) refl in
    grind (arith, master, command, faults)

-- a garbled request is its head and the characters after the head
take_whole : (chars tail : List Character) (command byte_count : Character) (n : ℕ) → drop 6 chars ≡ command ∷ byte_count ∷ tail
    → take (9 + n) chars ≡ take 6 chars ++ command ∷ byte_count ∷ take (n + 1) tail
take_whole chars tail command byte_count n is =
    grind (arith, common_steps, take-append-drop 6 chars, take-append-add (take 6 chars) (drop 6 chars) (n + 3))

-- the characters after a head make it a garbled request
pub begins_from : (identity : IdentityParts) (chars tail : List Character) (request : GarbledRequest) (command byte_count : Character)
    → IsAsking identity (take 6 chars) request.master → drop 6 chars ≡ command ∷ byte_count ∷ tail → byte_count.byte < length tail
    → request.command ≡ command.byte → request.faults ≡ communication_faults (take (9 + byte_count.byte) chars)
    → BeginsWithGarbled identity chars request
begins_from identity chars tail request command byte_count asking is long command_is faults_are = record {
  head = take 6 chars;
  command = command;
  byte_count = byte_count;
  after = take (byte_count.byte + 1) tail;
  rest = drop (byte_count.byte + 1) tail;
  asking = asking;
  parts = grind (arith, take-append-drop 6 chars, take-append-drop (byte_count.byte + 1) tail, append_assoc);
  long = grind (arith, common_steps);
  command_is = command_is;
  faults_are = faults_are ∙ ap communication_faults (take_whole chars tail command byte_count byte_count.byte is);
}

-- a head is decided by its bytes
abbrev is_asking : IdentityParts → List Character → Bool
is_asking identity (delimiter ∷ a ∷ b ∷ c ∷ d ∷ e ∷ []) =
    list_all (λ character. (character.faults == 0) && nat_lt character.byte 256) (delimiter ∷ a ∷ b ∷ c ∷ d ∷ e ∷ [])
    && (delimiter.byte == 0x82) && (256 * (a.byte % 64) + b.byte == (own_numbers identity).expanded_type)
    && (65536 * c.byte + 256 * d.byte + e.byte == identity.device_id)
is_asking identity head = false

-- each byte is the first byte of an address with some master bit and burst bit
first_of : (first : ℕ) → first < 256 → (master : MasterId) × (burst : Bool) × (first ≡ first_byte master burst (first % 64))
first_of first small = (if nat_lt first 128 then Secondary else Primary, not (nat_lt (first % 128) 64), grind (arith, nat_tests))

unique_if : (first low high middle last : ℕ) (numbers : DeviceNumbers)
    → (first < 256) × (low < 256) × (high < 256) × (middle < 256) × (last < 256)
    → 256 * (first % 64) + low ≡ numbers.expanded_type → 65536 * high + 256 * middle + last ≡ numbers.device_id
    → (master : MasterId) × (burst : Bool) × IsUniqueBytes master burst numbers (first ∷ low ∷ high ∷ middle ∷ last ∷ [])
unique_if first low high middle last numbers small type id =
    let top = first_of first small.0 in (top.0, top.1, grind (arith, top.2))

asking_if : (identity : IdentityParts) (head : List Character) → is_asking identity head ≡ true
    → (master : MasterId) × IsAsking identity head master
asking_if identity (delimiter ∷ a ∷ b ∷ c ∷ d ∷ e ∷ []) is =
    let small : (a.byte < 256) × (b.byte < 256) × (c.byte < 256) × (d.byte < 256) × (e.byte < 256) = grind (arith, nat_tests) in
    let own = unique_if a.byte b.byte c.byte d.byte e.byte (own_numbers identity) small (grind (arith, nat_tests))
    (grind (arith, nat_tests)) in
    (own.0, record { burst = own.1; address = _; own = own.2; head_is = grind (arith, nat_tests) })
asking_if identity _ is = let none : ⊥ = grind arith in absurd none

if_asking : (identity : IdentityParts) (head : List Character) (master : MasterId) → IsAsking identity head master
    → is_asking identity head ≡ true
if_asking identity head master is = rw (is.head_is, is.own.five) (grind (arith, nat_tests))

begins_decided : (identity : IdentityParts) (chars : List Character)
    → (result : Option GarbledRequest) × Finds (BeginsWithGarbled identity chars) result
begins_decided identity chars = by_head (is_asking identity (take 6 chars)) (drop 6 chars) refl refl
  where
    by_head : (asks : Bool) (tail : List Character) → is_asking identity (take 6 chars) ≡ asks → drop 6 chars ≡ tail
        → (result : Option GarbledRequest) × Finds (BeginsWithGarbled identity chars) result
    by_head true (command ∷ byte_count ∷ tail) asks is =
        let asking = asking_if identity (take 6 chars) asks in by_length asking.0 asking.1 command byte_count tail is _ refl
      where
        by_length : (master : MasterId) → IsAsking identity (take 6 chars) master → (command byte_count : Character)
            (tail : List Character) → drop 6 chars ≡ command ∷ byte_count ∷ tail → (fits : Bool)
            → nat_lt byte_count.byte (length tail) ≡ fits
            → (result : Option GarbledRequest) × Finds (BeginsWithGarbled identity chars) result
        by_length master asking command byte_count tail is true fits = (
          Some (record {
            master = master;
            command = command.byte;
            faults = communication_faults (take (9 + byte_count.byte) chars);
          }),
          begins_from identity chars tail _ command byte_count asking is (grind (arith, nat_tests)) refl refl,
        )
        by_length master asking command byte_count tail is false fits = (
          None,
          λ request begins. let after = tail_after identity chars request begins in
              grind (arith, common_steps, nat_tests, begins.long),
        )
    by_head true tail asks is =
        (None, λ request begins. let after = tail_after identity chars request begins in grind (arith, common_steps))
    by_head false tail asks is = (
      None,
      λ request begins. let head = head_first identity chars request begins in
          grind (arith, common_steps, if_asking identity (take 6 chars) request.master, begins.asking),
    )

-- if a list has a first start, its garbled request begins there
pub has_at : (identity : IdentityParts) (chars : List Character) (request : GarbledRequest) (start : ℕ) → IsFirstStart start chars
    → HasGarbled identity chars request → BeginsWithGarbled identity (drop start chars) request
has_at identity chars request start first has =
    rw (first_starts_are_decided-one start has.start chars first has.first_start) has.begins

pub garbled_one : (identity : IdentityParts) (chars : List Character) (request other : GarbledRequest)
    → HasGarbled identity chars request → HasGarbled identity chars other → request ≡ other
garbled_one identity chars request other p q =
    begins_one identity (drop q.start chars) request other (has_at identity chars request q.start q.first_start p) q.begins

-- a list has the garbled request that begins at its first start, and no other one
pub at_start : (identity : IdentityParts) (chars : List Character) (start : ℕ) (result : Option GarbledRequest) → IsFirstStart start chars
    → Finds (BeginsWithGarbled identity (drop start chars)) result → Finds (HasGarbled identity chars) result
at_start identity chars start None first none = λ request has. none request (has_at identity chars request start first has)
at_start identity chars start (Some request) first begins = record { start = start; first_start = first; begins = begins }

pub garbled_decided : (identity : IdentityParts) (chars : List Character)
    → ((request : GarbledRequest) × HasGarbled identity chars request)
    ⊎ ((request : GarbledRequest) → HasGarbled identity chars request → ⊥)
garbled_decided identity chars = elim (first_starts_are_decided-decided chars) [
  | inr none ↦ inr (λ request has. none has.start has.first_start.start)
  | inl first ↦
      let begins = begins_decided identity (drop first.0 chars) in go begins.0 (at_start identity chars first.0 begins.0 first.1 begins.1)
]
  where
    go : (result : Option GarbledRequest) → Finds (HasGarbled identity chars) result
        → ((request : GarbledRequest) × HasGarbled identity chars request)
        ⊎ ((request : GarbledRequest) → HasGarbled identity chars request → ⊥)
    go None none = inr none
    go (Some request) has = inl (request, has)
