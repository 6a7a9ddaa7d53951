-- The words of `hart encode` and `hart request` can be read in only one way, and a message has only one line.
use Rattle.std.proofs.Common.{◌≡◌, ◌⊎◌, ℕ, List, Result, Ok, Err, arith, inl, inr, refl}
use Rattle.std.proofs.lemmas.Grind.{common_steps}
use Rattle.hart_values.specs.declared.address.Address.{Address}
use Rattle.hart_values.specs.declared.master_id.MasterId.{MasterId}
use Rattle.hart_frame.specs.wire.FrameParts.{FrameParts}
use Rattle.hart_frame.proofs.lemmas.Laws.{bodies_are_unambiguous-one_body}
use Rattle.hart_line.specs.script.Words.{HasNoValue, IsAddressWord, IsCommandWord, IsDataWord, IsWho}
use Rattle.hart_request.specs.declared.fault.BadField.{BadField}
use Rattle.hart_station.specs.declared.fault.TextFault.{TextFault}
use Rattle.hart_station.specs.declared.fault.TextFault.TheVariants as faults
use Rattle.hart_station.specs.Encode.{IsFirstBad, MessageWords, WordsOutcome}
use Rattle.hart_station.specs.Request.{HasBadField, IsFirstBadWord, ReadOutcome, RequestWords}
use Rattle.hart_station.specs.Lines.{IsMessageLine}

-- the message of a frame has only one line
pub messages_have_one_line : (frame : FrameParts) (preambles : ℕ) (xs ys : List ℕ) → IsMessageLine frame preambles xs
    → IsMessageLine frame preambles ys → xs ≡ ys
messages_have_one_line frame preambles xs ys p q =
    let bodies =
    bodies_are_unambiguous-one_body frame p.is_message.body q.is_message.body p.is_message.is_body q.is_message.is_body in cc

-- if a word is the first bad word, the words before it have values
pub bad_parts : (words : MessageWords) (number : ℕ) → IsFirstBad words number
    → ((number ≡ 1) × HasNoValue (IsWho words.who))
    ⊎ ((number ≡ 2) × ((master : MasterId) × IsWho words.who master) × HasNoValue (IsAddressWord words.address))
    ⊎ ((number ≡ 3) × ((master : MasterId) × IsWho words.who master) × ((address : Address) × IsAddressWord words.address address)
    × HasNoValue (IsCommandWord words.command))
    ⊎ ((number ≡ 4) × ((master : MasterId) × IsWho words.who master) × ((address : Address) × IsAddressWord words.address address)
    × ((command : ℕ) × IsCommandWord words.command command) × HasNoValue (IsDataWord words.payload))
bad_parts words _ (IsFirstBad.bad_who none) = inl (refl, none)
bad_parts words _ (IsFirstBad.bad_address master who none) = inr (inl (refl, (master, who), none))
bad_parts words _ (IsFirstBad.bad_command master address who is none) = inr (inr (inl (refl, (master, who), (address, is), none)))
bad_parts words _ (IsFirstBad.bad_data master address command who is asks none) =
    inr (inr (inr (refl, (master, who), (address, is), (command, asks), none)))

-- if a word of `hart request` is the first bad word, the words before it have values
pub bad_word_parts : (words : RequestWords) (number : ℕ) → IsFirstBadWord words number
    → ((number ≡ 1) × HasNoValue (IsWho words.who))
    ⊎ ((number ≡ 2) × ((master : MasterId) × IsWho words.who master) × HasNoValue (IsAddressWord words.address))
    ⊎ ((number ≡ 3) × ((master : MasterId) × IsWho words.who master) × ((address : Address) × IsAddressWord words.address address)
    × HasNoValue (IsCommandWord words.command))
bad_word_parts words _ (IsFirstBadWord.bad_who none) = inl (refl, none)
bad_word_parts words _ (IsFirstBadWord.bad_address master who none) = inr (inl (refl, (master, who), none))
bad_word_parts words _ (IsFirstBadWord.bad_command master address who is none) = inr (inr (refl, (master, who), (address, is), none))

-- if the words of `hart encode` have a fault, a word is bad
words_fault : (words : MessageWords) (fault : TextFault) → WordsOutcome words (Err fault)
    → (number : ℕ) × (fault ≡ faults.BadWord number) × IsFirstBad words number
words_fault words (faults.BadHex place) h = absurd h
words_fault words (faults.BadWord number) h = (number, refl, h)
words_fault words (faults.BadField bad) h = absurd h

-- words of `hart encode` can be read in only one way
pub one_read : (words : MessageWords) (a b : Result FrameParts TextFault) → WordsOutcome words a → WordsOutcome words b → a ≡ b
one_read words (Ok f) (Ok g) h k = let same : f ≡ g = grind (arith, common_steps) in rw same refl
one_read words (Ok f) (Err y) h k = let bad = words_fault words y k in absurd (grind (arith, bad_parts words bad.0 bad.2))
one_read words (Err x) (Ok g) h k = let bad = words_fault words x h in absurd (grind (arith, bad_parts words bad.0 bad.2))
one_read words (Err x) (Err y) h k =
    let p = words_fault words x h in
    let q = words_fault words y k in
    let same : p.0 ≡ q.0 = grind (arith, bad_parts words p.0 p.2, bad_parts words q.0 q.2) in rw (p.1, q.1, same) refl

-- words of `hart request` are read as a frame, have a first bad word, or have a bad field
data IsRead (words : RequestWords) : Result FrameParts TextFault → Type 0 where
  frame : (frame : FrameParts) → ReadOutcome words (Ok frame) → IsRead words (Ok frame)
  word : (number : ℕ) → IsFirstBadWord words number → IsRead words (Err (faults.BadWord number))
  field : (bad : BadField) → HasBadField words bad → IsRead words (Err (faults.BadField bad))

is_read : (words : RequestWords) (read : Result FrameParts TextFault) → ReadOutcome words read → IsRead words read
is_read words (Ok it) h = frame it h
is_read words (Err (faults.BadHex place)) h = absurd h
is_read words (Err (faults.BadWord number)) h = word number h
is_read words (Err (faults.BadField bad)) h = field bad h

one_outcome : (words : RequestWords) (a b : Result FrameParts TextFault) → IsRead words a → IsRead words b → a ≡ b
one_outcome words _ _ (frame f h) (frame g k) = let same : f ≡ g = grind (arith, common_steps) in rw same refl
one_outcome words _ _ (frame f h) (word n k) = absurd (grind (arith, bad_word_parts words n k))
one_outcome words _ _ (frame f h) (field b k) = absurd (grind (arith, common_steps))
one_outcome words _ _ (word m h) (frame g k) = absurd (grind (arith, bad_word_parts words m h))
one_outcome words _ _ (word m h) (word n k) =
    let same : m ≡ n = grind (arith, bad_word_parts words m h, bad_word_parts words n k) in rw same refl
one_outcome words _ _ (word m h) (field b k) = absurd (grind (arith, bad_word_parts words m h))
one_outcome words _ _ (field a h) (frame g k) = absurd (grind (arith, common_steps))
one_outcome words _ _ (field a h) (word n k) = absurd (grind (arith, bad_word_parts words n k))
one_outcome words _ _ (field a h) (field b k) = let same : a ≡ b = grind (arith, common_steps) in rw same refl

-- words of `hart request` can be read in only one way
pub one_named_read : (words : RequestWords) (a b : Result FrameParts TextFault) → ReadOutcome words a → ReadOutcome words b → a ≡ b
one_named_read words a b h k = one_outcome words a b (is_read words a h) (is_read words b k)
