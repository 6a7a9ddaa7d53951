-- What was heard is told as far as it is decided, step by step.
use Rattle.std.proofs.Common.{◌≡◌, ◌≤◌, ◌<◌, ◌+◌, ◌∙◌, ℕ, All, Bool, false, true, List, [], ◌∷◌, ◌++◌, length, map, drop, take, refl, sym}
use Rattle.std.proofs.Common.{◌-◌, ap, arith, inl, inr}
use Rattle.std.proofs.Common.{append-nil, append_assoc, length-append, length-drop}
use Rattle.std.proofs.Math.Seq.{take-add}
use Rattle.std.proofs.lemmas.List.{drop-append-le, drop-drop, map-append, take-append-le}
use Rattle.std.proofs.lemmas.List.Elements.{All-map, All-weaker}
use Rattle.hart_frame.specs.heard.Character.{Character}
use Rattle.hart_frame.specs.heard.Sighting.{AreSightings, Seen, SeesOn, moved_seen}
use Rattle.hart_frame.proofs.lemmas.scan.SightingLaws.{all as seen_to_the_end, grown, onward}
use Rattle.hart_frame.proofs.lemmas.scan.SightingLaws.{some as some_list}
use Rattle.hart_text.specs.Heard.{Date, Heard, Silence, after_chars, heard_chars, stretches}
use Rattle.hart_text.proofs.lemmas.Heard.{count}
use Rattle.hart_listen.specs.Before.{AreAlike}
use Rattle.hart_listen.specs.Dated.{Dated, dated_after}
use Rattle.hart_listen.specs.Gaps.{seen_place}
use Rattle.hart_listen.specs.LastMessages.{recalled}
use Rattle.hart_listen.specs.Dates.{date_from}
use Rattle.hart_listen.specs.Listener.{HasTold, Stands, dated_from, total}
use Rattle.hart_listen.specs.Past.{no_past}
use Rattle.hart_listen.specs.Preambles.{after_preambles, counted, last_preambles, last_stop, preambles_at, preambles_in, preambles_of}
use Rattle.hart_listen.specs.Preambles.{told_of}
use Rattle.hart_listen.specs.Sightings.{AreSightingsFrom, AreSightingsOf, ComeFirst, date_of}
use Rattle.hart_listen.specs.declared.listener.Listener.{Listener}
use Rattle.hart_listen.specs.declared.past.Past.{Past}
use Rattle.hart_listen.proofs.lemmas.Dated.{alike_same, alike_then, dated_more, told_more}
use Rattle.hart_listen.proofs.lemmas.Dates.{all_first, date_before, date_chars, date_later, date_silence, moved_place, same_from}
use Rattle.hart_listen.proofs.lemmas.Dates.{stretches_within, total_count}
use Rattle.hart_listen.proofs.lemmas.HeldDates.{before_or_not}
use Rattle.hart_listen.proofs.lemmas.InStretches.{after_nothing, after_twice, one_seen, one_stretch, seen_on, some_seen}
use Rattle.hart_listen.proofs.lemmas.InStretches.{stretches_chars, total_on}
use Rattle.hart_listen.proofs.lemmas.Preambles.{CountAlike, counted_same, counted_then, counts_stay, held_preambles, kept_before}
use Rattle.hart_listen.proofs.lemmas.Sightings.{sees_rest}

-- adding nothing changes no number
pub plus_zero : (n : ℕ) → n + 0 ≡ n
plus_zero n = omega arith

zero_plus : (n : ℕ) → 0 + n ≡ n
zero_plus n = omega arith

-- nothing was heard yet
pub stands_none : (t : Listener) → t.first ≡ 0 → t.held ≡ [] → ((place : ℕ) → date_from t place ≡ []) → t.past ≡ no_past
    → HasTold false t [] []
stands_none t first held undated is = record {
  earlier = [];
  chars = [];
  splits = λ more. sym (after_nothing more);
  before = [];
  are_before = refl;
  base = 0;
  within_chars = omega arith;
  first_is = omega (arith, first);
  held_is = rw held refl;
  seen = [];
  sees = λ more later closed are. are;
  within = omega arith;
  dates = λ place from. undated place;
  alike = alike_same _ _ (ap (λ (past : Past). recalled past.last) is);
  stop = ap (λ (past : Past). past.stop) is;
  preambles = ap (λ (past : Past). past.preambles) is;
  told = refl;
}

-- the preamble bytes right before a held character are those of all that was heard
stands_preambles : (Told : List Dated → Type 0) (past : Past) (date : ℕ → List ℕ) (first : ℕ) (held : List Character) (used : ℕ)
    (ended : Bool) (heard : List Heard) → Stands Told past date first held used ended heard → (s : Seen) → seen_place s < length held
    → CountAlike (preambles_of heard) (preambles_at past.preambles first held) (moved_seen first s)
stands_preambles Told past date first held used ended heard s seen below =
    let whole : stretches heard ≡ s.earlier ++ s.chars ∷ [] = rw (append-nil heard, append-nil s.chars) at (s.splits []) in
    let place = moved_place first seen in
    let same : seen_place (moved_seen first seen) - first ≡ seen_place seen = omega (arith, place) in
    ap (preambles_of heard) place
    ∙ (ap (λ parts. preambles_in parts (first + seen_place seen)) whole
    ∙ (held_preambles past.preambles s.earlier s.chars held s.base first (seen_place seen) s.preambles s.within_chars s.held_is s.first_is
    below
    ∙ ap (λ k. last_preambles (after_preambles past.preambles (take k held))) (sym same)))

-- more of the held characters are told
pub stands_on : (Told After : List Dated → Type 0) (x y : Past) (date : ℕ → List ℕ) (first : ℕ) (held : List Character)
    (used to : ℕ) (ended : Bool) (heard : List Heard) (given : List Seen) → Stands Told x date first held used ended heard
    → SeesOn held ended used given to → to ≤ length held → All (λ s. seen_place s < length held) given
    → ((earlier : List Seen) (list : List Dated) → x.stop ≡ last_stop earlier → Told list
    → After (list ++ counted (preambles_at x.preambles first held) earlier (dated_from x.last date first given)))
    → AreAlike (recalled y.last) (recalled x.last ++ map (moved_seen first) given)
    → ((earlier : List Seen) → x.stop ≡ last_stop earlier → y.stop ≡ last_stop (earlier ++ map (moved_seen first) given))
    → y.preambles ≡ x.preambles → Stands After y date first held to ended heard
stands_on Told After x y date first held used to ended heard given s sees within below tells alike stop preambles =
    let place = total s.earlier in
    let begun = s.before ++ map (moved_seen place) s.seen in
    let whole = s.before ++ map (moved_seen place) (s.seen ++ map (moved_seen s.base) given) in
    let old = dated_after (date_of heard) [] begun in
    let next = dated_from x.last (date_of heard) first given in
    let given_is : dated_from x.last date first given ≡ next = same_from x.last date (date_of heard) first s.dates given in
    let all : old ++ next ≡ dated_after (date_of heard) [] whole =
    ap (λ at. old ++ dated_from x.last (date_of heard) at given) s.first_is
    ∙ dated_more x.last (date_of heard) s.before s.seen given place s.base s.alike in
    let counts : counted (preambles_at x.preambles first held) begun (dated_from x.last date first given)
    ≡ counted (preambles_of heard) begun next =
    ap (counted (preambles_at x.preambles first held) begun) given_is
    ∙ sym (counted_same (preambles_of heard) (preambles_at x.preambles first held) begun (date_of heard) (recalled x.last)
    (map (moved_seen first) given)
    (All-map (CountAlike (preambles_of heard) (preambles_at x.preambles first held)) (moved_seen first) given
    (All-weaker (λ (s : Seen). seen_place s < length held)
    (λ one. CountAlike (preambles_of heard) (preambles_at x.preambles first held) (moved_seen first one))
    (λ one. stands_preambles Told x date first held used ended heard s one) given below))) in
    let told : counted (preambles_of heard) [] old ++ counted (preambles_of heard) begun next
    ≡ counted (preambles_of heard) [] (dated_after (date_of heard) [] whole) =
    sym (counted_then (preambles_of heard) (date_of heard) [] begun next) ∙ ap (counted (preambles_of heard) []) all in
    record {
      earlier = s.earlier;
      chars = s.chars;
      splits = s.splits;
      before = s.before;
      are_before = s.are_before;
      base = s.base;
      within_chars = s.within_chars;
      first_is = s.first_is;
      held_is = s.held_is;
      seen = s.seen ++ map (moved_seen s.base) given;
      sees = onward s.chars ended 0 (s.base + used) (s.base + to) s.seen (map (moved_seen s.base) given) s.sees
          (sees_rest s.chars ended s.base used to given s.within_chars (rw s.held_is at sees));
      within = within;
      dates = s.dates;
      alike = alike_then s.before (recalled x.last) (recalled y.last) place s.base s.seen given s.alike (rw s.first_is at alike);
      stop = stop begun s.stop
          ∙ (ap (λ at. last_stop (begun ++ map (moved_seen at) given)) s.first_is
          ∙ ap last_stop (told_more s.before s.seen given place s.base));
      preambles = preambles ∙ s.preambles;
      told = rw (counts, told) at (tells begun _ s.stop s.told);
    }

-- what was told stands in another form, too
pub retold : (Told After : List Dated → Type 0) (past : Past) (date : ℕ → List ℕ) (first : ℕ) (held : List Character) (used : ℕ)
    (ended : Bool) (heard : List Heard) → (s : Stands Told past date first held used ended heard)
    → After (told_of heard (s.before ++ map (moved_seen (total s.earlier)) s.seen)) → Stands After past date first held used ended heard
retold Told After past date first held used ended heard s told = record {
  earlier = s.earlier;
  chars = s.chars;
  splits = s.splits;
  before = s.before;
  are_before = s.are_before;
  base = s.base;
  within_chars = s.within_chars;
  first_is = s.first_is;
  held_is = s.held_is;
  seen = s.seen;
  sees = s.sees;
  within = s.within;
  dates = s.dates;
  alike = s.alike;
  stop = s.stop;
  preambles = s.preambles;
  told = told;
}

-- the characters that were let go and the held ones are all that were heard
pub stands_count : (Told : List Dated → Type 0) (past : Past) (date : ℕ → List ℕ) (first : ℕ) (held : List Character) (used : ℕ)
    (heard : List Heard) → Stands Told past date first held used false heard → first + length held ≡ count heard
stands_count Told past date first held used heard s =
    let whole : stretches heard ≡ s.earlier ++ s.chars ∷ [] = rw (append-nil heard, append-nil s.chars) at (s.splits []) in
    let all : total (stretches heard) ≡ total (s.earlier ++ s.chars ∷ []) = ap total whole in
    omega (
      arith,
      s.first_is,
      s.within_chars,
      ap length s.held_is,
      length-drop s.base s.chars,
      total_count heard,
      all,
      total_on s.earlier (s.chars ∷ []),
    )

-- what was told comes first, whatever is heard next
pub told_first : (Told : List Dated → Type 0) (past : Past) (date : ℕ → List ℕ) (first : ℕ) (held : List Character) (used : ℕ)
    (heard : List Heard) → (s : Stands Told past date first held used false heard)
    → ComeFirst heard (s.before ++ map (moved_seen (total s.earlier)) s.seen)
told_first Told past date first held used heard s = λ more all are.
    let (next, ss, is) = one_stretch more in
    let parts : stretches (heard ++ more) ≡ s.earlier ++ (s.chars ++ next) ∷ ss =
    s.splits more ∙ ap (λ x. s.earlier ++ after_chars s.chars x) is in
    let (later, stands) = some_list (s.chars ++ next) (s.base + used) in
    let own = s.sees next later (λ never. absurd cc) stands in
    let (rest, after) = some_seen (total s.earlier + length (s.chars ++ next)) ss in
    let seen = map (moved_seen (total s.earlier)) (s.seen ++ later) ++ rest in
    let list : AreSightingsFrom 0 (s.earlier ++ (s.chars ++ next) ∷ ss) (s.before ++ seen) =
    seen_on 0 s.earlier ((s.chars ++ next) ∷ ss) s.before seen s.are_before
    (rw (zero_plus (total s.earlier)) (s.seen ++ later, own, rest, after, refl)) in
    let same = one_seen 0 (s.earlier ++ (s.chars ++ next) ∷ ss) all (s.before ++ seen) (rw parts at are) list in
    let begun = map (moved_seen (total s.earlier)) s.seen in
    let added = map (moved_seen (total s.earlier)) later in
    let order : (begun ++ added) ++ rest ≡ begun ++ (added ++ rest) = append_assoc begun added rest in (
      added ++ rest,
      same ∙ (ap (λ x. s.before ++ (x ++ rest)) (map-append _ s.seen later) ∙ (ap (λ x. s.before ++ x) order
          ∙ sym (append_assoc s.before begun (added ++ rest)))),
    )

-- sightings that come first stand at places of what was heard
pub first_within : (heard : List Heard) (seen : List Seen) → ComeFirst heard seen → All (λ s. seen_place s < count heard) seen
first_within heard seen first =
    let (all, are) = some_seen 0 (stretches (heard ++ [])) in
    let (later, is) = first [] all are in
    let same : heard ++ [] ≡ heard = append-nil heard in
    let few : 0 + total (stretches (heard ++ [])) ≤ count heard = rw same (omega (arith, total_count heard)) in
    let within = stretches_within 0 (count heard) (stretches (heard ++ [])) all few are in
    all_first (count heard) seen later (rw is at within)

-- what was told stands at places of what was heard
told_within : (Told : List Dated → Type 0) (past : Past) (date : ℕ → List ℕ) (first : ℕ) (held : List Character) (used : ℕ)
    (heard : List Heard) → (s : Stands Told past date first held used false heard)
    → All (λ s. seen_place s < count heard) (s.before ++ map (moved_seen (total s.earlier)) s.seen)
told_within Told past date first held used heard s = first_within heard _ (told_first Told past date first held used heard s)

-- the sightings of an ended last stretch come after those of the earlier stretches
pub ended_seen : (earlier : List (List Character)) (told : List Seen) (chars : List Character) (seen : List Seen)
    → AreSightingsFrom 0 earlier told → AreSightings chars 0 seen
    → AreSightingsFrom 0 (earlier ++ chars ∷ []) (told ++ map (moved_seen (total earlier)) seen)
ended_seen earlier told chars seen are_told are =
    seen_on 0 earlier (chars ∷ []) told (map (moved_seen (total earlier)) seen) are_told
    (rw (zero_plus (total earlier)) (seen, are, [], refl, sym (append-nil _)))

-- once a stretch has ended and nothing of it is held, all its sightings are told
all_told : (Told : List Dated → Type 0) (past : Past) (date : ℕ → List ℕ) (first : ℕ) (heard : List Heard)
    → (s : Stands Told past date first [] 0 true heard) → (s.base ≡ length s.chars) × AreSightings s.chars 0 s.seen
all_told Told past date first heard s =
    let end : s.base ≡ length s.chars = omega (arith, s.within_chars, ap length s.held_is, length-drop s.base s.chars) in
    (end, seen_to_the_end s.chars true s.seen (rw (plus_zero s.base, end) at s.sees))

-- what was told of an ended last stretch are the sightings of all that was heard
pub stands_all : (Told : List Dated → Type 0) (past : Past) (date : ℕ → List ℕ) (first : ℕ) (heard : List Heard)
    → (s : Stands Told past date first [] 0 true heard)
    → AreSightingsOf heard (s.before ++ map (moved_seen (total s.earlier)) s.seen)
stands_all Told past date first heard s =
    let whole : stretches heard ≡ s.earlier ++ s.chars ∷ [] = rw (append-nil heard, append-nil s.chars) at (s.splits []) in
    let (end, are) = all_told Told past date first heard s in
    rw whole (ended_seen s.earlier s.before s.chars s.seen s.are_before are)

-- more characters are held
pub stands_more : (Told : List Dated → Type 0) (past : Past) (date : ℕ → List ℕ) (first : ℕ) (held : List Character)
    (used : ℕ) (ended : Bool) (heard : List Heard) (xs : List Character) → Stands Told past date first held used false heard
    → Stands Told past date first (held ++ xs) used ended (heard ++ heard_chars xs)
stands_more Told past date first held used ended heard xs s = record {
  earlier = s.earlier;
  chars = s.chars ++ xs;
  splits = λ more.
      ap stretches (append_assoc heard (heard_chars xs) more)
      ∙ (s.splits (heard_chars xs ++ more)
      ∙ ap (λ parts. s.earlier ++ parts)
      (ap (after_chars s.chars) (stretches_chars xs more) ∙ after_twice s.chars xs (stretches more)));
  before = s.before;
  are_before = s.are_before;
  base = s.base;
  within_chars = omega (arith, s.within_chars, length-append s.chars xs);
  first_is = s.first_is;
  held_is = ap (λ ys. ys ++ xs) s.held_is ∙ sym (drop-append-le s.base s.chars xs s.within_chars);
  seen = s.seen;
  sees = grown s.chars xs ended 0 (s.base + used) s.seen s.sees;
  within = omega (arith, s.within, length-append held xs);
  dates = λ place from. s.dates place from ∙ sym (date_chars [] heard xs place);
  alike = s.alike;
  stop = s.stop;
  preambles = s.preambles ∙ ap last_preambles (sym (take-append-le s.base s.chars xs s.within_chars));
  told = rw (counts_stay heard (heard_chars xs) _ (told_within Told past date first held used heard s)) at s.told;
}

-- the told characters are let go
pub stands_let_go : (Told : List Dated → Type 0) (past : Past) (date after : ℕ → List ℕ) (first now : ℕ)
    (held : List Character) (used : ℕ) (ended : Bool) (heard : List Heard) → Stands Told past date first held used ended heard
    → now ≡ first + used → ((place : ℕ) → now ≤ place → after place ≡ date place)
    → Stands Told (record past { preambles = last_preambles (after_preambles past.preambles (take used held)) }) after now
    (drop used held) 0 ended heard
stands_let_go Told past date after first now held used ended heard s is same =
    let parts : take (s.base + used) s.chars ≡ take s.base s.chars ++ take used held =
    take-add s.base used s.chars ∙ ap (λ xs. take s.base s.chars ++ take used xs) (sym s.held_is) in
    let long = ap length s.held_is in
    record {
      earlier = s.earlier;
      chars = s.chars;
      splits = s.splits;
      before = s.before;
      are_before = s.are_before;
      base = s.base + used;
      within_chars = omega (arith, s.within_chars, s.within, long, length-drop s.base s.chars);
      first_is = omega (arith, is, s.first_is);
      held_is = ap (drop used) s.held_is ∙ drop-drop used s.base s.chars;
      seen = s.seen;
      sees = rw (plus_zero (s.base + used)) s.sees;
      within = omega arith;
      dates = λ place from. same place from ∙ s.dates place (omega (arith, is, from));
      alike = s.alike;
      stop = s.stop;
      preambles = kept_before past.preambles (take s.base s.chars) (take used held) s.preambles ∙ ap last_preambles (sym parts);
      told = s.told;
    }

-- a silence was heard
pub stands_silence : (Told : List Dated → Type 0) (past : Past) (date : ℕ → List ℕ) (first : ℕ) (heard : List Heard)
    → Stands Told past date first [] 0 true heard
    → Stands Told (record past { preambles = 0 }) date first [] 0 false (heard ++ Silence ∷ [])
stands_silence Told past date first heard s =
    let (end, are) = all_told Told past date first heard s in
    let few : 0 + total (stretches heard) ≤ count heard = omega (arith, total_count heard) in
    let within = stretches_within 0 (count heard) (stretches heard) _ few (stands_all Told past date first heard s) in
    record {
      earlier = s.earlier ++ s.chars ∷ [];
      chars = [];
      splits = λ more.
          ap stretches (append_assoc heard (Silence ∷ []) more)
          ∙ (s.splits (Silence ∷ more)
          ∙ rw (append-nil s.chars, after_nothing more, append_assoc s.earlier (s.chars ∷ []) (stretches more)) refl);
      before = s.before ++ map (moved_seen (total s.earlier)) s.seen;
      are_before = ended_seen s.earlier s.before s.chars s.seen s.are_before are;
      base = 0;
      within_chars = omega arith;
      first_is = omega (arith, s.first_is, end, total_on s.earlier (s.chars ∷ []));
      held_is = refl;
      seen = [];
      sees = λ more later closed are. are;
      within = omega arith;
      dates = λ place from. s.dates place from ∙ sym (date_silence [] heard place);
      alike = rw (append-nil _) s.alike;
      stop = rw (append-nil _) s.stop;
      preambles = refl;
      told = rw (append-nil _) (rw (counts_stay heard (Silence ∷ []) _ within) at s.told);
    }

-- a date was heard: it is the date of what comes next, and of nothing that was heard
pub stands_date : (Told : List Dated → Type 0) (past : Past) (date after : ℕ → List ℕ) (first : ℕ)
    (held : List Character) (used : ℕ) (heard : List Heard) (word : List ℕ) → Stands Told past date first held used false heard
    → ((place : ℕ) → first ≤ place → place < first + length held → after place ≡ date place)
    → ((place : ℕ) → first + length held ≤ place → after place ≡ word)
    → Stands Told past after first held used false (heard ++ Date word ∷ [])
stands_date Told past date after first held used heard word s earlier later =
    let long = stands_count Told past date first held used heard s in
    let within = told_within Told past date first held used heard s in
    record {
      earlier = s.earlier;
      chars = s.chars;
      splits = λ more. ap stretches (append_assoc heard (Date word ∷ []) more) ∙ s.splits (Date word ∷ more);
      before = s.before;
      are_before = s.are_before;
      base = s.base;
      within_chars = s.within_chars;
      first_is = s.first_is;
      held_is = s.held_is;
      seen = s.seen;
      sees = s.sees;
      within = s.within;
      dates = λ place from. elim (before_or_not place (count heard)) [
        | inl below ↦
            earlier place from (omega (arith, below, long))
            ∙ (s.dates place from ∙ sym (date_before [] heard (Date word ∷ []) place below))
        | inr beyond ↦ later place (omega (arith, beyond, long)) ∙ sym (date_later [] heard word place beyond)
      ];
      alike = s.alike;
      stop = s.stop;
      preambles = s.preambles;
      told = rw (counts_stay heard (Date word ∷ []) _ within) at s.told;
    }
