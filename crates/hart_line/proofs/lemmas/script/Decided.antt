-- Every text is a script or has a first bad line: what its lines say is decided word by word.
use Rattle.hart_line.proofs.Common.{◌≡◌, ◌<◌, ◌≤◌, ◌⊎◌, ℕ, ◌+◌, suc, List, [], ◌∷◌, length, take, Option, None, Some, Bool, true, false}
use Rattle.hart_line.proofs.Common.{AreDigits, inl, inr, refl, arith, codes, slice_get, Chars, Clean, Lost, LineEvent, Noise, Protect}
use Rattle.hart_line.proofs.Common.{Restart, Submit, Turn, Request, Address, MasterId, cases_eq, AreItems, BeginsWithItem, Faulty}
use Rattle.hart_line.proofs.Common.{IsItemsWord, Item, NoItemBegins, Plain, byte_of, item_meaning, AreEvents, HasFirstBadLine, IsBadLine}
use Rattle.hart_line.proofs.Common.{IsLegWord, IsScript, Says, is_skipped, lines_in_words, request_of, HasNoValue, address_of, who_of, zero}
use Rattle.hart_line.proofs.Common.{cases_lt, bytes_eq-Decides, bytes_eq}
use Rattle.hart_frame.specs.heard.Character.{AreFaultBits, IsFaultBit}
use Rattle.std.specs.Bool.{Decides}
use Rattle.std.specs.Int.{bit_at}
use Rattle.hart_line.proofs.lemmas.script.Items.{after_item, before_items, items_begin}
use Rattle.hart_line.proofs.lemmas.script.Rows.{no_leg, no_noise, no_turn, says_none}

-- A statement is proved or refuted.
abbrev Decided : Type 0 → Type 0
Decided P = P ⊎ (P → ⊥)

-- A property holds for some value, or for no value.
abbrev OneOrNone : {T : Type 0} → (T → Type 0) → Type 0
OneOrNone {T} IsValue = ((value : T) × IsValue value) ⊎ HasNoValue IsValue

-- A property that holds for the given word and for every other word holds for each word.
is_or_not : (P : List ℕ → Type 0) (given word : List ℕ) → P given → ((word ≡ given → ⊥) → P word) → P word
is_or_not P given word is other = by (bytes_eq word given) (bytes_eq-Decides word given)
  where
    by : (same : Bool) → Decides same (word ≡ given) → P word
    by true told = rw (told.0 refl) is
    by false told = other (λ same. let never = told.1 same in cc)

-- ITEMS
-- The bits 0, 2, 3 and 7 of a byte are no fault bits.
fault_bit_or_not : (faults bit : ℕ) → bit < 8 → Decided (bit_at faults bit ≡ 1 → IsFaultBit bit)
fault_bit_or_not faults bit below =
    grind (arith, cases_eq bit 6, cases_eq bit 5, cases_eq bit 4, cases_eq bit 1, cases_eq (bit_at faults bit) 1)

-- If a property is decided for each number below a bound, it is decided whether it holds for all these numbers.
all_below : (P : ℕ → Type 0) → (bound : ℕ) → ((k : ℕ) → k < bound → Decided (P k)) → Decided ((k : ℕ) → k < bound → P k)
all_below P zero each = inl (λ k below. absurd (omega (arith, below)))
all_below P (suc n) each = elim (each n (omega arith)) [
  | inr none ↦ inr (λ all. none (all n (omega arith)))
  | inl last ↦ elim (all_below P n (λ k below. each k (omega (arith, below)))) [
    | inr none ↦ inr (λ all. none (λ k below. all k (omega (arith, below))))
    | inl others ↦ inl (λ k below. grind (arith, cases_eq k n))
  ]
]

fault_bits_or_not : (faults : ℕ) → Decided (AreFaultBits faults)
fault_bits_or_not faults =
    grind (arith, cases_lt faults 256, all_below (λ bit. bit_at faults bit ≡ 1 → IsFaultBit bit) 8 (fault_bit_or_not faults))

digits_or_not : (high low : ℕ) → Decided (AreDigits high low)
digits_or_not high low = grind arith

plain_or_not : (high low : ℕ) (tail : List ℕ) → Decided (BeginsWithItem (high ∷ low ∷ tail) (Plain high low) tail)
plain_or_not high low [] = grind (arith, digits_or_not high low)
plain_or_not high low (next ∷ tail) = grind (arith, digits_or_not high low, cases_eq next 33)

faulty_or_not : (high low mark a b : ℕ) (tail : List ℕ)
    → Decided (BeginsWithItem (high ∷ low ∷ mark ∷ a ∷ b ∷ tail) (Faulty high low a b) tail)
faulty_or_not high low mark a b tail =
    let none = cases_eq (byte_of a b) 0 in let bits = fault_bits_or_not (byte_of a b) in
    grind (arith, digits_or_not high low, digits_or_not a b, cases_eq mark 33, none, bits)

-- A text begins with an item, or with no item.
item_or_none : (text : List ℕ) → ((item : Item) × (tail : List ℕ) × BeginsWithItem text item tail) ⊎ NoItemBegins text
item_or_none (high ∷ low ∷ mark ∷ a ∷ b ∷ tail) =
    grind (arith, plain_or_not high low (mark ∷ a ∷ b ∷ tail), faulty_or_not high low mark a b tail)
item_or_none (high ∷ low ∷ tail) = grind (arith, plain_or_not high low tail)
item_or_none text = inr (λ item tail begins. grind arith)

items_or_none : (bound : ℕ) (word : List ℕ) → length word ≤ bound → OneOrNone (AreItems word)
items_or_none bound [] within = inl ([], record { items = []; valid = tt; spelled = refl; means = refl })
items_or_none zero (byte ∷ word) within = absurd (omega (arith, within))
items_or_none (suc bound) (byte ∷ word) within = elim (item_or_none (byte ∷ word)) [
  | inr none ↦ inr (λ chars are. let begins = items_begin (byte ∷ word) chars (λ is. cc) are in none begins.0 begins.1 begins.2)
  | inl (item, tail, begins) ↦ elim (items_or_none bound tail (grind (arith, begins.spelled))) [
    | inl more ↦ inl (item_meaning item ∷ more.0, before_items (byte ∷ word) item tail more.0 begins more.1)
    | inr none ↦ inr (λ chars are. let more = after_item (byte ∷ word) item tail chars begins are in none more.0 more.1)
  ]
]

items_word_or_none : (word : List ℕ) → OneOrNone (IsItemsWord word)
items_word_or_none [] = inr (λ chars said. said.0 refl)
items_word_or_none (byte ∷ word) = elim (items_or_none (length (byte ∷ word)) (byte ∷ word) (omega arith)) [
  | inl are ↦ inl (are.0, ((λ is. cc), are.1))
  | inr none ↦ inr (λ chars said. none chars said.1)
]

-- EVENTS
leg_or_none : (word : List ℕ) → OneOrNone (IsLegWord word)
leg_or_none word =
    let Leg = λ (w : List ℕ). OneOrNone (IsLegWord w) in
    is_or_not Leg (codes "ok") word (inl (Clean, refl)) (λ ok.
    is_or_not Leg (codes "lost") word (inl (Lost, refl)) (λ lost. elim (items_word_or_none word) [
      | inl chars ↦ inl (Chars chars.0, chars.1)
      | inr none ↦ inr (no_leg word (ok, lost) none)
    ]))

submission_or_none : (words : List (List ℕ)) → OneOrNone (Says (codes "submit" ∷ words))
submission_or_none (master ∷ to ∷ command ∷ payload) = by (who_of master) (address_of to) (request_of command payload) refl refl refl
  where
    by : (who : Option MasterId) (address : Option Address) (request : Option Request) → who_of master ≡ who → address_of to ≡ address
        → request_of command payload ≡ request → OneOrNone (Says (codes "submit" ∷ master ∷ to ∷ command ∷ payload))
    by (Some who) (Some address) (Some request) a b c = inl (Submit who address request, (master, to, command, payload, refl, a, b, c))
    by who address request a b c = inr (λ event said. grind arith)
submission_or_none words = inr (λ event said. grind arith)

turn_or_none : (words : List (List ℕ)) → OneOrNone (Says (codes "turn" ∷ words))
turn_or_none (master ∷ first ∷ second ∷ []) = by (who_of master) refl (leg_or_none first) (leg_or_none second)
  where
    by : (who : Option MasterId) → who_of master ≡ who → OneOrNone (IsLegWord first) → OneOrNone (IsLegWord second)
        → OneOrNone (Says (codes "turn" ∷ master ∷ first ∷ second ∷ []))
    by (Some who) is (inl up) (inl down) = inl (Turn who up.0 down.0, (master, first, second, refl, is, up.1, down.1))
    by None is up down = inr (λ event said. grind arith)
    by who is (inr none) down = inr (no_turn master first second first (inl refl) none)
    by who is up (inr none) = inr (no_turn master first second second (inr refl) none)
turn_or_none words = inr (λ event said. grind arith)

switch_or_none : (words : List (List ℕ)) → OneOrNone (Says (codes "protect" ∷ words))
switch_or_none (word ∷ []) =
    let Switch = λ (w : List ℕ). OneOrNone (Says (codes "protect" ∷ w ∷ [])) in
    is_or_not Switch (codes "on") word (inl (Protect true, refl)) (λ on.
    is_or_not Switch (codes "off") word (inl (Protect false, refl)) (λ off. inr (λ event said. grind arith)))
switch_or_none words = inr (λ event said. grind arith)

noise_or_none : (words : List (List ℕ)) → OneOrNone (Says (codes "noise" ∷ words))
noise_or_none (word ∷ []) = elim (items_word_or_none word) [
  | inl chars ↦ inl (Noise chars.0, (word, refl, chars.1))
  | inr none ↦ inr (no_noise word none)
]
noise_or_none words = inr (λ event said. grind arith)

restart_or_none : (words : List (List ℕ)) → OneOrNone (Says (codes "restart" ∷ words))
restart_or_none [] = inl (Restart, refl)
restart_or_none (word ∷ words) = inr (λ event said. grind arith)

event_or_none : (first : List ℕ) (words : List (List ℕ)) → OneOrNone (Says (first ∷ words))
event_or_none first words =
    let Row = λ (word : List ℕ). OneOrNone (Says (word ∷ words)) in
    is_or_not Row (codes "submit") first (submission_or_none words) (λ submit.
    is_or_not Row (codes "turn") first (turn_or_none words) (λ turn.
    is_or_not Row (codes "protect") first (switch_or_none words) (λ protect.
    is_or_not Row (codes "noise") first (noise_or_none words) (λ noise.
    is_or_not Row (codes "restart") first (restart_or_none words) (λ restart.
    inr (says_none first words (submit, turn, protect, noise, restart)))))))

-- LINES
-- If any lines say events, this line and then those lines say events too.
abbrev GoesBefore : List (List ℕ) → Type 0
GoesBefore words = (lines : List (List (List ℕ))) (events : List LineEvent) → AreEvents lines events
    → (all : List LineEvent) × AreEvents (words ∷ lines) all

line_or_bad : (words : List (List ℕ)) → GoesBefore words ⊎ IsBadLine words
line_or_bad [] = inl (λ lines events are. (events, are))
line_or_bad (first ∷ rest) = by (is_skipped (first ∷ rest)) refl
  where
    by : (skipped : Bool) → is_skipped (first ∷ rest) ≡ skipped → GoesBefore (first ∷ rest) ⊎ IsBadLine (first ∷ rest)
    by true is = inl (λ lines events are. (events, rw is are))
    by false is = elim (event_or_none first rest) [
      | inl said ↦ inl (λ lines events are. (said.0 ∷ events, rw is (said.1, are)))
      | inr none ↦ inr (is, none)
    ]

-- Either all lines say events, or one line is bad and the lines before it say events.
lines_or_bad : (lines : List (List (List ℕ))) → ((events : List LineEvent) × AreEvents lines events)
    ⊎ ((before : ℕ) × (words : List (List ℕ)) × (events : List LineEvent) × (slice_get lines before ≡ Some words) × IsBadLine words
    × AreEvents (take before lines) events)
lines_or_bad [] = inl ([], tt)
lines_or_bad (words ∷ lines) = elim (line_or_bad words) [
  | inr bad ↦ inr (0, words, [], refl, bad, tt)
  | inl more ↦ elim (lines_or_bad lines) [
    | inl said ↦ inl (more lines said.0 said.1)
    | inr (before, first, events, is, bad, good) ↦ (let all = more (take before lines) events good in
        inr (suc before, first, all.0, is, bad, all.1))
  ]
]

pub every_text_is_a_script_or_has_a_first_bad_line : (text : List ℕ)
    → ((events : List LineEvent) × IsScript text events) ⊎ ((number : ℕ) × HasFirstBadLine text number)
every_text_is_a_script_or_has_a_first_bad_line text = elim (lines_or_bad (lines_in_words text)) [
  | inl said ↦ inl said
  | inr (before, words, events, is, bad, good) ↦ inr (
    before + 1,
    record { before = before; words = words; events = events; counted = refl; is = is; bad = bad; good = good },
  )
]
