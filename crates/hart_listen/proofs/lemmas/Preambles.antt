-- How many preamble bytes stand right before places and sightings.
use Rattle.std.proofs.Common.{◌≡◌, ◌≤◌, ◌<◌, ◌+◌, ◌-◌, ◌∙◌, ℕ, zero, suc, All, Bool, true, false, List, [], ◌∷◌, ◌++◌, length}
use Rattle.std.proofs.Common.{drop, take, refl, sym, Option, Some, ap, arith}
use Rattle.std.proofs.Common.{inl, inr, append-nil, append_assoc, length-append, length-drop, replicate, reverse}
use Rattle.std.proofs.Math.Seq.{take-add}
use Rattle.std.proofs.lemmas.Bool.Decides.{nat_tests}
use Rattle.std.proofs.lemmas.Grind.{flat_map-append}
use Rattle.std.proofs.lemmas.List.{length-reverse, map-append, reverse-append, take-append-le, take_more}
use Rattle.std.proofs.lemmas.List.Elements.{All-head, All-tail, All-weaker}
use Rattle.std.proofs.lemmas.List.Sums.{prefix_len-le-length}
use Rattle.std.specs.List.{flat_map, prefix_len}
use Rattle.hart_explain.specs.Message.{paragraph, sending_words}
use Rattle.hart_explain.specs.Sighting.{seen_text}
use Rattle.hart_explain.specs.declared.before.Before.{Before}
use Rattle.std.specs.Prelude.{◌&&◌, ◌==◌, cond, get_or, min, slice_index}
use Rattle.hart_frame.specs.declared.wire.kind.FrameKind.{FrameKind}
use Rattle.hart_frame.specs.declared.wire.kind.FrameKind.TheVariants.{Ack, Stx}
use Rattle.hart_frame.specs.heard.Character.{Character, faultless}
use Rattle.hart_frame.specs.heard.Miss.{is_preamble}
use Rattle.hart_frame.specs.heard.Sighting.{Message, Missed, Seen}
use Rattle.hart_text.specs.Heard.{Date, Heard, HeardChar, Silence, after_chars, stretches}
use Rattle.hart_text.proofs.lemmas.Heard.{count}
use Rattle.hart_listen.specs.Dated.{Dated, dated_after, dated_one, words_of}
use Rattle.hart_listen.specs.Gaps.{seen_place}
use Rattle.hart_listen.specs.Listener.{total}
use Rattle.hart_listen.specs.Preambles.{after_preambles, counted, counted_one, last_preambles, last_stop, own_preambles, preambles_in}
use Rattle.hart_listen.specs.Preambles.{preambles_at, preambles_of, stop_after, stop_of, told_of}
use Rattle.hart_listen.specs.Sightings.{date_of}
use Rattle.hart_listen.proofs.lemmas.Dates.{date_before, same_within, total_count}
use Rattle.hart_listen.proofs.lemmas.HeldDates.{before_or_not}
use Rattle.hart_listen.proofs.lemmas.InStretches.{after_nothing, after_twice, one_stretch, total_on}

-- a test and `true` is the test
and_true : (test : Bool) → (test && true) ≡ test
and_true true = refl
and_true false = refl

-- how many elements pass at the front depends on the later ones only by how many of them pass
prefix_same : (p : Character → Bool) (xs ys zs : List Character) → prefix_len p ys ≡ prefix_len p zs
    → prefix_len p (xs ++ ys) ≡ prefix_len p (xs ++ zs)
prefix_same p [] ys zs same = same
prefix_same p (x ∷ xs) ys zs same = ap (λ n. cond (p x) (1 + n) 0) (prefix_same p xs ys zs same)

-- how many preamble bytes characters end with depends on the first ones only by how many preamble bytes these end with
pub last_same : (xs ys more : List Character) → last_preambles xs ≡ last_preambles ys
    → last_preambles (xs ++ more) ≡ last_preambles (ys ++ more)
last_same xs ys more same =
    rw (reverse-append xs more, reverse-append ys more) (prefix_same is_preamble (reverse more) (reverse xs) (reverse ys) same)

pub last_pushed : (xs : List Character) (c : Character)
    → last_preambles (xs ++ c ∷ []) ≡ cond (is_preamble c) (1 + last_preambles xs) 0
last_pushed xs c = rw (reverse-append xs (c ∷ [])) refl

pub last_few : (xs : List Character) → last_preambles xs ≤ length xs
last_few xs = omega (arith, prefix_len-le-length is_preamble (reverse xs), length-reverse xs)

-- preamble bytes end with all of them
replicate_pushed : (n : ℕ) (c : Character) → replicate (suc n) c ≡ replicate n c ++ c ∷ []
replicate_pushed zero c = refl
replicate_pushed (suc n) c = ap (λ xs. c ∷ xs) (replicate_pushed n c)

pub last_all : (n : ℕ) → last_preambles (after_preambles n []) ≡ n
last_all zero = refl
last_all (suc n) =
    let intact : Character = record { byte = 255; faults = 0 } in
    let last : last_preambles (replicate n intact) ≡ n = rw append-nil at (last_all n) in
    let more : 1 + n ≡ suc n = omega arith in
    rw (append-nil, replicate_pushed n intact) (last_pushed (replicate n intact) intact ∙ (ap (λ k. 1 + k) last ∙ more))

-- characters that come before others may be replaced by the preamble bytes that they end with
pub kept_before : (preambles : ℕ) (before more : List Character) → preambles ≡ last_preambles before
    → last_preambles (after_preambles preambles more) ≡ last_preambles (before ++ more)
kept_before preambles before more is =
    let intact : Character = record { byte = 255; faults = 0 } in
    let all : last_preambles (replicate preambles intact) ≡ preambles = rw append-nil at (last_all preambles) in
    last_same (replicate preambles intact) before more (all ∙ is)

-- the preamble bytes at the end of the first bytes, and one byte more
abbrev pub last_of_first : ℕ → List ℕ → ℕ → ℕ
last_of_first preambles bytes place = last_preambles (after_preambles preambles (faultless (take place bytes)))

pub byte_pushed : (preambles : ℕ) (bytes : List ℕ) (place : ℕ) → place < length bytes → last_of_first preambles bytes (place + 1)
    ≡ cond (get_or bytes place 0 == 255) (1 + last_of_first preambles bytes place) 0
byte_pushed preambles bytes place below =
    let intact : Character = record { byte = 255; faults = 0 } in
    let next : Character = record { byte = get_or bytes place 0; faults = 0 } in
    let first = faultless (take place bytes) in
    let more : faultless (take (place + 1) bytes) ≡ first ++ next ∷ [] =
    ap faultless (take_more bytes place 0 below) ∙ map-append _ (take place bytes) (get_or bytes place 0 ∷ []) in
    let test : is_preamble next ≡ (get_or bytes place 0 == 255) = and_true _ in
    rw (more, ← append_assoc (replicate preambles intact) first (next ∷ []))
    (rw test at (last_pushed (replicate preambles intact ++ first) next))

-- preamble bytes at the end are counted all
last_more : (n : ℕ) (xs : List Character)
    → last_preambles (xs ++ replicate n (record { byte = 255; faults = 0 })) ≡ n + last_preambles xs
last_more zero xs = rw append-nil (omega arith)
last_more (suc n) xs =
    let intact : Character = record { byte = 255; faults = 0 } in
    let order : xs ++ intact ∷ replicate n intact ≡ (xs ++ intact ∷ []) ++ replicate n intact =
    sym (append_assoc xs (intact ∷ []) (replicate n intact)) in
    let first : last_preambles (xs ++ intact ∷ []) ≡ 1 + last_preambles xs = last_pushed xs intact in
    omega (arith, ap last_preambles order, last_more n (xs ++ intact ∷ []), first)

pub usual_counted : (preambles : ℕ) (bytes rest : List ℕ) → bytes ≡ rest ++ (255 ∷ 255 ∷ 255 ∷ 255 ∷ 255 ∷ [])
    → last_preambles (after_preambles preambles (faultless bytes)) ≡ 5 + last_preambles (after_preambles preambles (faultless rest))
usual_counted preambles bytes rest is =
    let intact : Character = record { byte = 255; faults = 0 } in
    let usual : List ℕ = 255 ∷ 255 ∷ 255 ∷ 255 ∷ 255 ∷ [] in
    let parts : faultless bytes ≡ faultless rest ++ replicate 5 intact = ap faultless is ∙ map-append _ rest usual in
    let order : after_preambles preambles (faultless rest ++ replicate 5 intact)
    ≡ after_preambles preambles (faultless rest) ++ replicate 5 intact =
    sym (append_assoc (replicate preambles intact) (faultless rest) (replicate 5 intact)) in
    ap (λ xs. last_preambles (after_preambles preambles xs)) parts
    ∙ (ap last_preambles order ∙ last_more 5 (after_preambles preambles (faultless rest)))

-- the characters of the first bytes are the first characters
pub first_bytes : (held : List ℕ) (used : ℕ) → faultless (take used held) ≡ take used (faultless held)
first_bytes held zero = refl
first_bytes [] (suc n) = refl
first_bytes (byte ∷ held) (suc n) = ap (λ xs. record { byte = byte; faults = 0 } ∷ xs) (first_bytes held n)

pub at_held : (preambles first : ℕ) (held : List ℕ) (place : ℕ)
    → preambles_at preambles first (faultless held) (first + place) ≡ last_of_first preambles held place
at_held preambles first held place =
    let same : first + place - first ≡ place = omega arith in
    ap (λ k. last_preambles (after_preambles preambles (take k (faultless held)))) same
    ∙ ap (λ xs. last_preambles (after_preambles preambles xs)) (sym (first_bytes held place))

-- places in the last one of some stretches
pub in_part : (earlier : List (List Character)) (chars : List Character) (later : List (List Character)) (k : ℕ) → k < length chars
    → preambles_in (earlier ++ chars ∷ later) (total earlier + k) ≡ last_preambles (take k chars)
in_part [] chars later k below = grind (arith, nat_tests, below)
in_part (first ∷ earlier) chars later k below =
    let place : length first + total earlier + k - length first ≡ total earlier + k = omega arith in
    let after : length first ≤ length first + total earlier + k = omega arith in
    let rest = in_part earlier chars later k below in
    grind (arith, nat_tests, place, after, rest)

-- places before it
before_part : (earlier one other : List (List Character)) (place : ℕ) → place < total earlier
    → preambles_in (earlier ++ one) place ≡ preambles_in (earlier ++ other) place
before_part [] one other place below = absurd (omega (arith, below))
before_part (first ∷ earlier) one other place below = elim (before_or_not place (length first)) [
  | inl within ↦ grind (arith, nat_tests, within)
  | inr after ↦
      let rest = before_part earlier one other (place - length first) (omega (arith, below, after)) in grind (arith, nat_tests, after, rest)
]

-- a character that was heard first belongs to the first stretch
put_before : (c : Character) (heard : List Heard)
    → ((earlier : List (List Character)) × (chars : List Character)
    × ((more : List Heard) → stretches (heard ++ more) ≡ earlier ++ after_chars chars (stretches more)))
    → (earlier : List (List Character)) × (chars : List Character)
    × ((more : List Heard) → stretches (HeardChar c ∷ heard ++ more) ≡ earlier ++ after_chars chars (stretches more))
put_before c heard ([], chars, is) =
    ([], c ∷ chars, λ more. ap (after_chars (c ∷ [])) (is more) ∙ after_twice (c ∷ []) chars (stretches more))
put_before c heard (first ∷ earlier, chars, is) =
    ((c ∷ first) ∷ earlier, chars, λ more. ap (after_chars (c ∷ [])) (is more))

-- what was heard has a last stretch, to which later characters are added
splits : (heard : List Heard) → (earlier : List (List Character)) × (chars : List Character)
    × ((more : List Heard) → stretches (heard ++ more) ≡ earlier ++ after_chars chars (stretches more))
splits [] = ([], [], λ more. sym (after_nothing more))
splits (Silence ∷ heard) =
    let (earlier, chars, is) = splits heard in ([] ∷ earlier, chars, λ more. ap (λ parts. [] ∷ parts) (is more))
splits (Date word ∷ heard) = splits heard
splits (HeardChar c ∷ heard) = put_before c heard (splits heard)

-- what is heard later changes no number of preamble bytes before what was heard
pub preambles_before : (heard more : List Heard) (place : ℕ) → place < count heard
    → preambles_of (heard ++ more) place ≡ preambles_of heard place
preambles_before heard more place below =
    let (earlier, chars, is) = splits heard in
    let (next, later, parts) = one_stretch more in
    let whole : stretches heard ≡ earlier ++ chars ∷ [] = rw (append-nil heard, append-nil chars) at (is []) in
    let grown : stretches (heard ++ more) ≡ earlier ++ (chars ++ next) ∷ later =
    is more ∙ ap (λ xs. earlier ++ after_chars chars xs) parts in
    let all : total (stretches heard) ≡ total (earlier ++ chars ∷ []) = ap total whole in
    let few : place < total earlier + length chars = omega (arith, below, total_count heard, all, total_on earlier (chars ∷ [])) in
    elim (before_or_not place (total earlier)) [
      | inl early ↦ rw (whole, grown) (before_part earlier ((chars ++ next) ∷ later) (chars ∷ []) place early)
      | inr after ↦
          let k = place - total earlier in
          let at : place ≡ total earlier + k = omega (arith, after) in
          let short : k < length chars = omega (arith, after, few) in
          let long : k < length (chars ++ next) = omega (arith, short, length-append chars next) in
          let same : take k (chars ++ next) ≡ take k chars = take-append-le k chars next (omega (arith, short)) in
          rw (whole, grown) (ap (preambles_in (earlier ++ (chars ++ next) ∷ later)) at
          ∙ (in_part earlier (chars ++ next) later k long
          ∙ (ap last_preambles same
          ∙ (sym (in_part earlier chars [] k short) ∙ ap (preambles_in (earlier ++ chars ∷ [])) (sym at)))))
    ]

-- sightings and later ones, counted, are both counted in one list
pub counted_then : (preambles : ℕ → ℕ) (date : ℕ → List ℕ) (earlier seen : List Seen) (later : List Dated)
    → counted preambles earlier (dated_after date earlier seen ++ later)
    ≡ counted preambles earlier (dated_after date earlier seen) ++ counted preambles (earlier ++ seen) later
counted_then preambles date earlier [] later = ap (λ xs. counted preambles xs later) (sym (append-nil earlier))
counted_then preambles date earlier (s ∷ seen) later =
    let after = earlier ++ s ∷ [] in
    ap (λ xs. counted_one preambles earlier (dated_one date earlier s) ∷ xs)
    (counted_then preambles date after seen later
    ∙ ap (λ xs. counted preambles after (dated_after date after seen) ++ counted preambles xs later) (append_assoc earlier (s ∷ []) seen))

-- the place after the last message, when one more sighting is seen
pub stop_pushed : (earlier : List Seen) (s : Seen) → last_stop (earlier ++ s ∷ []) ≡ stop_after (last_stop earlier) s
stop_pushed earlier (Message found) =
    ap (λ xs. slice_index (reverse xs) 0) (flat_map-append stop_of earlier (Message found ∷ []))
    ∙ ap (λ xs. slice_index xs 0) (reverse-append (flat_map stop_of earlier) (found.stop ∷ []))
stop_pushed earlier (Missed place miss header) =
    ap (λ xs. slice_index (reverse xs) 0)
    (flat_map-append stop_of earlier (Missed place miss header ∷ []) ∙ append-nil (flat_map stop_of earlier))

-- two ways of counting count the same before a sighting
abbrev pub CountAlike : (f g : ℕ → ℕ) → Seen → Type 0
CountAlike f g s = f (seen_place s) ≡ g (seen_place s)

own_same : (f g : ℕ → ℕ) (before : List Seen) (s : Seen) → CountAlike f g s → own_preambles f before s ≡ own_preambles g before s
own_same f g before (Message found) same = ap (λ n. Some (min n (found.start - last_stop before))) same
own_same f g before (Missed place miss header) same = refl

pub counted_same : (f g : ℕ → ℕ) (before : List Seen) (date : ℕ → List ℕ) (earlier seen : List Seen) → All (CountAlike f g) seen
    → counted f before (dated_after date earlier seen) ≡ counted g before (dated_after date earlier seen)
counted_same f g before date earlier [] same = refl
counted_same f g before date earlier (s ∷ seen) same =
    let later =
    counted_same f g (before ++ s ∷ []) date (earlier ++ s ∷ []) seen (All-tail (CountAlike f g) s seen same) in
    rw (own_same f g before s (All-head (CountAlike f g) s seen same), later) refl

-- words say nothing of preamble bytes
sending_same : (kind : FrameKind) (before : Before) (preambles : Option ℕ)
    → sending_words kind (record before { preambles = preambles }) ≡ sending_words kind before
sending_same Stx before preambles = refl
sending_same Ack before preambles = refl

said_same : (before : Before) (preambles : Option ℕ) (s : Seen)
    → seen_text (record before { preambles = preambles }) s ≡ seen_text before s
unfolding paragraph
said_same before preambles (Message found) = rw (sending_same found.frame.kind before preambles) refl
said_same before preambles (Missed place miss header) = refl

pub words_same : (preambles : ℕ → ℕ) (earlier : List Seen) (told : List Dated)
    → flat_map words_of (counted preambles earlier told) ≡ flat_map words_of told
words_same preambles earlier [] = refl
words_same preambles earlier (d ∷ told) =
    rw (said_same d.before (own_preambles preambles earlier d.seen) d.seen, words_same preambles (earlier ++ d.seen ∷ []) told) refl

-- sightings of what was heard keep their dates and their preamble bytes, whatever is heard later
dates_stay : (heard more : List Heard) (seen : List Seen) → All (λ s. seen_place s < count heard) seen
    → dated_after (date_of heard) [] seen ≡ dated_after (date_of (heard ++ more)) [] seen
dates_stay heard more seen within =
    same_within (date_of heard) (date_of (heard ++ more)) (count heard) (λ place below. sym (date_before [] heard more place below)) seen
    within

pub counts_stay : (heard more : List Heard) (seen : List Seen) → All (λ s. seen_place s < count heard) seen
    → told_of heard seen ≡ told_of (heard ++ more) seen
counts_stay heard more seen within =
    counted_same (preambles_of heard) (preambles_of (heard ++ more)) [] (date_of heard) [] seen
    (All-weaker (λ (s : Seen). seen_place s < count heard) (CountAlike (preambles_of heard) (preambles_of (heard ++ more)))
    (λ s below. sym (preambles_before heard more (seen_place s) below)) seen within)
    ∙ ap (counted (preambles_of (heard ++ more)) []) (dates_stay heard more seen within)

-- the preamble bytes right before a held character are those of its stretch
pub held_preambles : (preambles : ℕ) (earlier : List (List Character)) (chars held : List Character) (base first k : ℕ)
    → preambles ≡ last_preambles (take base chars) → base ≤ length chars → held ≡ drop base chars → first ≡ total earlier + base
    → k < length held → preambles_in (earlier ++ chars ∷ []) (first + k) ≡ last_preambles (after_preambles preambles (take k held))
held_preambles preambles earlier chars held base first k is within held_is first_is below =
    let at : first + k ≡ total earlier + (base + k) = omega (arith, first_is) in
    let short : base + k < length chars = omega (arith, below, ap length held_is, length-drop base chars) in
    let parts : take (base + k) chars ≡ take base chars ++ take k held =
    take-add base k chars ∙ ap (λ xs. take base chars ++ take k xs) (sym held_is) in
    ap (preambles_in (earlier ++ chars ∷ [])) at
    ∙ (in_part earlier chars [] (base + k) short
    ∙ (ap last_preambles parts ∙ sym (kept_before preambles (take base chars) (take k held) is)))
