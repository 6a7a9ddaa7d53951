-- Items that are read up to sixteen at a time.
use Rattle.std.proofs.Common.{◌≡◌, ◌≢◌, ◌↔◌, ◌+◌, ◌*◌, ◌<◌, ◌≤◌, ℕ, zero, suc, Bool, true, false, IsTrue, bit_and, refl, arith, List, []}
use Rattle.std.proofs.Common.{◌∷◌, length, drop, take, get_or, append-nil}
use Rattle.std.proofs.lemmas.List.{drop_more}
use mir.Val.{bool_byte}
use Rattle.hex.specs.Hex.{is_hex_digit}
use Rattle.hart_frame.specs.heard.Character.{Character, faultless}
use Rattle.hart_text.specs.Digits.{AreDigitsOf}
use Rattle.hart_text.specs.Item.{Plain}
use Rattle.hart_text.specs.Digits.{AreLeading, ArePairLanes, AreSeparatorLanes}
use Rattle.hart_text.specs.Items.{BeginsWith, IsSeparator, Item, ReadsUpTo, Separator, nothing, piece}
use Rattle.hart_text.proofs.lemmas.Items.{ReadsUpTo-on}
use Rattle.hart_text.proofs.lemmas.Lanes.{both}

-- a digit is no `!`
digit_is_no_mark : (byte : ℕ) → IsTrue (is_hex_digit byte) → byte ≢ 33
digit_is_no_mark byte digit mark = let no : IsTrue (is_hex_digit 33) = rw mark at digit in cc no

-- two digits without a `!` after them are read as a byte, followed by what comes after them
item_before : (high low next byte : ℕ) (rest bytes last : List ℕ) → AreDigitsOf byte high low → next ≢ 33
    → ReadsUpTo (next ∷ rest) (faultless bytes) last → ReadsUpTo (high ∷ low ∷ next ∷ rest) (faultless (byte ∷ bytes)) last
item_before high low next byte rest bytes last digits none reads =
    grind (arith, piece (high ∷ low ∷ next ∷ rest) (Item (Plain high low)) (next ∷ rest) (faultless bytes) last)

-- two digits and a separator are read as a byte, followed by what comes after them
spaced_before : (high low gap byte : ℕ) (rest bytes last : List ℕ) → AreDigitsOf byte high low → IsSeparator gap
    → ReadsUpTo rest (faultless bytes) last → ReadsUpTo (high ∷ low ∷ gap ∷ rest) (faultless (byte ∷ bytes)) last
spaced_before high low gap byte rest bytes last digits separator reads =
    grind (arith, item_before high low gap byte rest bytes last, piece (gap ∷ rest) (Separator gap) rest (faultless bytes) last)

-- the first `count` items of a text, each with one separator after it, denote these bytes
abbrev pub AreSpaced : ℕ → List ℕ → List ℕ → Type 0
AreSpaced count text bytes = (lane : ℕ) → lane < count
    → AreDigitsOf (get_or bytes lane 0) (get_or text (3 * lane) 0) (get_or text (3 * lane + 1) 0)
    × IsSeparator (get_or text (3 * lane + 2) 0)

-- if items with one separator after each denote bytes, the items after the first denote the bytes after the first
spaced_later : (count a b c x : ℕ) (text bytes : List ℕ) → AreSpaced (suc count) (a ∷ b ∷ c ∷ text) (x ∷ bytes) → AreSpaced count text bytes
spaced_later count a b c x text bytes are lane below =
    let at = are (suc lane) (omega (arith, below)) in
    let first : 3 * suc lane ≡ suc (suc (suc (3 * lane))) = omega arith in
    let second : 3 * suc lane + 1 ≡ suc (suc (suc (3 * lane + 1))) = omega arith in
    let third : 3 * suc lane + 2 ≡ suc (suc (suc (3 * lane + 2))) = omega arith in
    rw (third, second, first) at at

-- items with one separator after each are read as their bytes
pub spaced_read : (count : ℕ) (text bytes : List ℕ) → 3 * count ≤ length text → count ≤ length bytes → AreSpaced count text bytes
    → ReadsUpTo text (faultless (take count bytes)) (drop (3 * count) text)
spaced_read zero text bytes long few are = nothing text
spaced_read (suc count) (a ∷ b ∷ c ∷ text) (x ∷ bytes) long few are =
    let past : 3 * suc count ≡ suc (suc (suc (3 * count))) = omega arith in
    let later = spaced_read count text bytes (omega (arith, long)) (omega (arith, few)) (spaced_later count a b c x text bytes are) in
    rw past (spaced_before a b c x text (take count bytes) (drop (3 * count) text) (are 0 (omega arith)).0 (are 0 (omega arith)).1 later)
spaced_read (suc count) text [] long few are = absurd (omega (arith, few))
spaced_read (suc count) [] (x ∷ bytes) long few are = absurd (omega (arith, long))
spaced_read (suc count) (a ∷ []) (x ∷ bytes) long few are = absurd (omega (arith, long))
spaced_read (suc count) (a ∷ b ∷ []) (x ∷ bytes) long few are = absurd (omega (arith, long))

-- two digits and two separators are read as a byte, followed by what comes after them
wide_before : (high low gap next byte : ℕ) (rest bytes last : List ℕ) → AreDigitsOf byte high low → IsSeparator gap → IsSeparator next
    → ReadsUpTo rest (faultless bytes) last → ReadsUpTo (high ∷ low ∷ gap ∷ next ∷ rest) (faultless (byte ∷ bytes)) last
wide_before high low gap next byte rest bytes last digits first second reads =
    let after : ReadsUpTo (next ∷ rest) (faultless bytes) last =
    grind (arith, piece (next ∷ rest) (Separator next) rest (faultless bytes) last) in
    spaced_before high low gap byte (next ∷ rest) bytes last digits first after

-- the first `count` items of a text, each with two separators after it, denote these bytes
abbrev pub AreWide : ℕ → List ℕ → List ℕ → Type 0
AreWide count text bytes = (lane : ℕ) → lane < count
    → AreDigitsOf (get_or bytes lane 0) (get_or text (4 * lane) 0) (get_or text (4 * lane + 1) 0)
    × IsSeparator (get_or text (4 * lane + 2) 0) × IsSeparator (get_or text (4 * lane + 3) 0)

-- if items with two separators after each denote bytes, the items after the first denote the bytes after the first
wide_later : (count a b c d x : ℕ) (text bytes : List ℕ) → AreWide (suc count) (a ∷ b ∷ c ∷ d ∷ text) (x ∷ bytes)
    → AreWide count text bytes
wide_later count a b c d x text bytes are lane below =
    let at = are (suc lane) (omega (arith, below)) in
    let first : 4 * suc lane ≡ suc (suc (suc (suc (4 * lane)))) = omega arith in
    let second : 4 * suc lane + 1 ≡ suc (suc (suc (suc (4 * lane + 1)))) = omega arith in
    let third : 4 * suc lane + 2 ≡ suc (suc (suc (suc (4 * lane + 2)))) = omega arith in
    let fourth : 4 * suc lane + 3 ≡ suc (suc (suc (suc (4 * lane + 3)))) = omega arith in
    rw (fourth, third, second, first) at at

-- items with two separators after each are read as their bytes
pub wide_read : (count : ℕ) (text bytes : List ℕ) → 4 * count ≤ length text → count ≤ length bytes → AreWide count text bytes
    → ReadsUpTo text (faultless (take count bytes)) (drop (4 * count) text)
wide_read zero text bytes long few are = nothing text
wide_read (suc count) (a ∷ b ∷ c ∷ d ∷ text) (x ∷ bytes) long few are =
    let past : 4 * suc count ≡ suc (suc (suc (suc (4 * count)))) = omega arith in
    let later = wide_read count text bytes (omega (arith, long)) (omega (arith, few)) (wide_later count a b c d x text bytes are) in
    let (digits, gap, next) = are 0 (omega arith) in
    rw past (wide_before a b c d x text (take count bytes) (drop (4 * count) text) digits gap next later)
wide_read (suc count) text [] long few are = absurd (omega (arith, few))
wide_read (suc count) [] (x ∷ bytes) long few are = absurd (omega (arith, long))
wide_read (suc count) (a ∷ []) (x ∷ bytes) long few are = absurd (omega (arith, long))
wide_read (suc count) (a ∷ b ∷ []) (x ∷ bytes) long few are = absurd (omega (arith, long))
wide_read (suc count) (a ∷ b ∷ c ∷ []) (x ∷ bytes) long few are = absurd (omega (arith, long))

-- the first `count` items of a text, with nothing between them, denote these bytes
abbrev pub AreDense : ℕ → List ℕ → List ℕ → Type 0
AreDense count text bytes = (lane : ℕ) → lane < count
    → AreDigitsOf (get_or bytes lane 0) (get_or text (2 * lane) 0) (get_or text (2 * lane + 1) 0)

-- if items with nothing between them denote bytes, the items after the first denote the bytes after the first
dense_later : (count a b x : ℕ) (text bytes : List ℕ) → AreDense (suc count) (a ∷ b ∷ text) (x ∷ bytes) → AreDense count text bytes
dense_later count a b x text bytes are lane below =
    let at = are (suc lane) (omega (arith, below)) in
    let first : 2 * suc lane ≡ suc (suc (2 * lane)) = omega arith in
    let second : 2 * suc lane + 1 ≡ suc (suc (2 * lane + 1)) = omega arith in
    rw (second, first) at at

-- if no `!` follows the last of several items, no `!` follows the first one
no_mark_next : (count : ℕ) (text bytes : List ℕ) → AreDense count text bytes → get_or text (2 * count) 0 ≢ 33 → get_or text 0 0 ≢ 33
no_mark_next zero text bytes are none = none
no_mark_next (suc count) text bytes are none = digit_is_no_mark (get_or text 0 0) (are 0 (omega arith)).0.0

-- items with nothing between them are read as their bytes
pub dense_read : (count : ℕ) (text bytes : List ℕ) → 2 * count < length text → count ≤ length bytes → AreDense count text bytes
    → get_or text (2 * count) 0 ≢ 33 → ReadsUpTo text (faultless (take count bytes)) (drop (2 * count) text)
dense_read zero text bytes long few are none = nothing text
dense_read (suc count) (a ∷ b ∷ c ∷ text) (x ∷ bytes) long few are none =
    let past : 2 * suc count ≡ suc (suc (2 * count)) = omega arith in
    let later = dense_later count a b x (c ∷ text) bytes are in
    let end : get_or (c ∷ text) (2 * count) 0 ≢ 33 = rw past at none in
    let reads = dense_read count (c ∷ text) bytes (omega (arith, long)) (omega (arith, few)) later end in
    let next = no_mark_next count (c ∷ text) bytes later end in
    rw past (item_before a b c x text (take count bytes) (drop (2 * count) (c ∷ text)) (are 0 (omega arith)) next reads)
dense_read (suc count) text [] long few are none = absurd (omega (arith, few))
dense_read (suc count) [] (x ∷ bytes) long few are none = absurd (omega (arith, long))
dense_read (suc count) (a ∷ []) (x ∷ bytes) long few are none = absurd (omega (arith, long))
dense_read (suc count) (a ∷ b ∷ []) (x ∷ bytes) long few are none = absurd (omega (arith, long))

-- the leading lanes that are set show how many items with one separator after each begin the text
pub spaced_are : (text high low after bytes : List ℕ) (digits gaps count : ℕ) → ArePairLanes high low bytes digits
    → AreSeparatorLanes after gaps → AreLeading (bit_and digits gaps) count
    → ((lane : ℕ) → lane < 16 → get_or high lane 0 ≡ get_or text (3 * lane) 0)
    → ((lane : ℕ) → lane < 16 → get_or low lane 0 ≡ get_or text (3 * lane + 1) 0)
    → ((lane : ℕ) → lane < 16 → get_or after lane 0 ≡ get_or text (3 * lane + 2) 0) → AreSpaced count text bytes
spaced_are text high low after bytes digits gaps count pairs separators first at_high at_low at_after lane below =
    let within : lane < 16 = omega (arith, below, first.few) in
    let (are, gap) = ((both digits gaps _ _ pairs.digits separators).bits lane within).0 (first.set lane below) in
    rw (← at_high lane within, ← at_low lane within, ← at_after lane within) (pairs.byte lane within are, gap)

-- the leading lanes that are set show how many items with two separators after each begin the text
pub wide_are : (text high low after next bytes : List ℕ) (digits gaps ends count : ℕ) → ArePairLanes high low bytes digits
    → AreSeparatorLanes after gaps → AreSeparatorLanes next ends → AreLeading (bit_and digits (bit_and gaps ends)) count
    → ((lane : ℕ) → lane < 16 → get_or high lane 0 ≡ get_or text (4 * lane) 0)
    → ((lane : ℕ) → lane < 16 → get_or low lane 0 ≡ get_or text (4 * lane + 1) 0)
    → ((lane : ℕ) → lane < 16 → get_or after lane 0 ≡ get_or text (4 * lane + 2) 0)
    → ((lane : ℕ) → lane < 16 → get_or next lane 0 ≡ get_or text (4 * lane + 3) 0) → AreWide count text bytes
wide_are text high low after next bytes digits gaps ends count pairs separators others first at_high at_low at_after at_next lane below =
    let within : lane < 16 = omega (arith, below, first.few) in
    let parted = both gaps ends _ _ separators others in
    let (are, (gap, end)) = ((both digits (bit_and gaps ends) _ _ pairs.digits parted).bits lane within).0 (first.set lane below) in
    rw (← at_high lane within, ← at_low lane within, ← at_after lane within, ← at_next lane within) (pairs.byte lane within are, gap, end)

-- the leading lanes that are set show how many items with nothing between them begin the text
pub dense_are : (text high low bytes : List ℕ) (digits count : ℕ) → ArePairLanes high low bytes digits → AreLeading digits count
    → ((lane : ℕ) → lane < 16 → get_or high lane 0 ≡ get_or text (2 * lane) 0)
    → ((lane : ℕ) → lane < 16 → get_or low lane 0 ≡ get_or text (2 * lane + 1) 0) → AreDense count text bytes
dense_are text high low bytes digits count pairs first at_high at_low lane below =
    let within : lane < 16 = omega (arith, below, first.few) in
    let are = (pairs.digits.bits lane within).0 (first.set lane below) in
    rw (← at_high lane within, ← at_low lane within) (pairs.byte lane within are)

-- if a text is read up to a separator, it is also read up to the place after this separator
pub gap_after : (text : List ℕ) (chars : List Character) (place : ℕ) → place < length text → IsSeparator (get_or text place 0)
    → ReadsUpTo text chars (drop place text) → ReadsUpTo text chars (drop (place + 1) text)
gap_after text chars place below gap reads =
    let rest = drop (place + 1) text in
    let first : drop place text ≡ get_or text place 0 ∷ rest = drop_more text place 0 below in
    let gap_first = get_or text place 0 ∷ rest in
    let begins : BeginsWith gap_first (Separator (get_or text place 0)) rest = record { valid = gap; spelled = refl; whole = tt } in
    let one = piece gap_first (Separator (get_or text place 0)) rest [] rest begins (nothing rest) in
    rw (← append-nil chars) (ReadsUpTo-on text chars (drop place text) [] rest reads (rw first one))

-- if the byte after what was read is a separator, it is read too
pub dense_on : (text : List ℕ) (chars : List Character) (place : ℕ) (is : Bool) → place < length text
    → (IsTrue is ↔ IsSeparator (get_or text place 0)) → ReadsUpTo text chars (drop place text)
    → (place + bool_byte is ≤ length text) × ReadsUpTo text chars (drop (place + bool_byte is) text)
dense_on text chars place true below so reads = (omega (arith, below), gap_after text chars place below (so.0 refl) reads)
dense_on text chars place false below so reads =
    let same : place + 0 ≡ place = omega arith in (omega (arith, below), rw same reads)
