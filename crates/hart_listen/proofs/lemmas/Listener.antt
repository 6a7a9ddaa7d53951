-- Characters that are heard and told part by part.
use Rattle.std.proofs.Common.{◌≡◌, ◌≤◌, ◌<◌, ◌+◌, ◌-◌, ℕ, false, true, List, [], ◌∷◌, ◌++◌, length, map, drop, take, zero, suc}
use Rattle.std.proofs.Common.{All, refl, sym, ap, ◌∙◌, arith, get_or}
use Rattle.std.proofs.Common.{append_assoc, append-nil, length-append, length-drop}
use Rattle.std.proofs.lemmas.List.{drop-append-le, drop-drop, drop_all, get_or_default, get_or_past, map-append}
use Rattle.std.proofs.lemmas.List.Elements.{All-nil}
use Rattle.hart_frame.specs.declared.scan.sighting.After.{After}
use Rattle.hart_frame.specs.declared.scan.sighting.After.TheVariants.{Damaged, End, More}
use Rattle.hart_frame.specs.heard.Character.{Character, faultless}
use Rattle.hart_frame.specs.heard.Sighting.{IsUndecidedSighting, Seen, SeesOn, moved_seen}
use Rattle.hart_frame.specs.scan.Sighting.{AfterIsValid, heard_with, is_end}
use Rattle.hart_frame.proofs.lemmas.scan.SightingLaws.{rest as rest_is_seen}
use Rattle.hart_text.specs.Heard as reading
use Rattle.hart_text.specs.Heard.{BeginsWithMark, Date, Heard, ReadsHeard, Silence, after_chars, heard_chars, stretches}
use Rattle.hart_text.specs.Items as item
use Rattle.hart_text.specs.Items.{ReadsUpTo}
use Rattle.hart_text.proofs.lemmas.Heard.{heard_laws}
use Rattle.hart_listen.specs.Before.{AreAlike}
use Rattle.hart_listen.specs.Dated.{Dated}
use Rattle.hart_listen.specs.Dates.{date_at, date_from, kept_word}
use Rattle.hart_listen.specs.LastMessages.{KeepsOwn, recalled}
use Rattle.hart_listen.specs.Gaps.{seen_place}
use Rattle.hart_listen.specs.Preambles.{after_preambles, counted, last_preambles, last_stop, preambles_at, preambles_dropped}
use Rattle.hart_listen.specs.Listener.{DecidesNoMore, Hears, HearsDecided, HearsText, IsWaiting, StandsFor, chars_after, dated_from}
use Rattle.hart_listen.specs.Listener.{total}
use Rattle.hart_listen.specs.Past.{no_past}
use Rattle.hart_listen.specs.Sightings.{AreDecided, ComeFirst}
use Rattle.hart_listen.specs.Teller.{Moment, Tells, ToldBetween}
use Rattle.hart_listen.specs.declared.dates.Dates.{Dates}
use Rattle.hart_listen.specs.declared.listener.Listener.{Listener}
use Rattle.hart_listen.specs.declared.past.Past.{Past}
use Rattle.hart_listen.proofs.lemmas.Dated.{alike_same}
use Rattle.hart_listen.proofs.lemmas.Held.{counted_held, dropped_few, dropped_is, heard_is, long_is}
use Rattle.hart_listen.proofs.lemmas.Decided.{back, cancel, first_moved}
use Rattle.hart_listen.proofs.lemmas.InStretches.{stretches_chars}
use Rattle.hart_listen.proofs.lemmas.Sightings.{moved_twice, undecided_nothing}
use Rattle.hart_listen.proofs.lemmas.Stands.{ended_seen, plus_zero, stands_date, stands_let_go, stands_more, stands_on, stands_silence}
use Rattle.hart_listen.proofs.lemmas.Stands.{told_first}

-- the characters of two lists of bytes, joined, are those of both lists
faultless_on : (xs ys : List ℕ) → faultless (xs ++ ys) ≡ faultless xs ++ faultless ys
faultless_on xs ys = map-append _ xs ys

-- the characters of the rest of some bytes are the rest of their characters
rest_is : (held : List ℕ) (used : ℕ) → faultless (drop used held) ≡ drop used (faultless held)
rest_is held zero = refl
rest_is [] (suc n) = refl
rest_is (byte ∷ held) (suc n) = rest_is held n

-- the held bytes that stay after the decided sightings are told
stays_held : (held : List ℕ) (after : After) (used : ℕ) → ((after ≡ More → ⊥) → used ≡ length (heard_with held after))
    → faultless (drop used held) ≡ drop used (faultless held ++ chars_after after)
stays_held held More used all = rw (append-nil (faultless held)) (rest_is held used)
stays_held held (Damaged character) used all =
    let end : used ≡ length (faultless held ++ character ∷ []) = all (λ same. absurd cc) in
    let long = length-append (faultless held) (character ∷ []) in
    rw (
      drop_all used held (omega (arith, end, long, long_is held)),
      drop_all used (faultless held ++ character ∷ []) (omega (arith, end)),
    ) refl
stays_held held End used all = rw (append-nil (faultless held)) (rest_is held used)

-- no sighting is decided in the bytes that stay
waits_held : (held : List ℕ) (after : After) (used : ℕ) → ((after ≡ More → ⊥) → used ≡ length (heard_with held after))
    → (after ≡ More → IsUndecidedSighting (faultless (drop used held))) → IsUndecidedSighting (faultless (drop used held))
waits_held held More used all undecided = undecided refl
waits_held held (Damaged character) used all undecided =
    let end : used ≡ length (faultless held ++ character ∷ []) = all (λ same. absurd cc) in
    let long = length-append (faultless held) (character ∷ []) in
    rw (drop_all used held (omega (arith, end, long, long_is held))) undecided_nothing
waits_held held End used all undecided =
    let end : used ≡ length (faultless held) = all (λ same. absurd cc) in
    rw (drop_all used held (omega (arith, end, long_is held))) undecided_nothing

-- at most 268 bytes stay
pub few_stay : (held : List ℕ) (after : After) (used : ℕ) → length (heard_with held after) < used + 269 → length (drop used held) ≤ 268
few_stay held after used few =
    let long = length-append (faultless held) (chars_after after) in
    let same = long_is held in
    omega (arith, rw (heard_is held after) at few, long, same, length-drop used held)

-- the characters that stay have the same dates as before
same_place : (first used now place : ℕ) → now ≡ first + used → now ≤ place → used + (place - now) ≡ place - first
same_place first used now place is from = omega (arith, is, from)

stays_dated : (old new : Listener) (used : ℕ) → new.first ≡ old.first + used
    → ((place : ℕ) → date_at new.dates place ≡ date_at old.dates (used + place)) → (place : ℕ) → new.first ≤ place
    → date_from new place ≡ date_from old place
stays_dated old new used first dates place from =
    dates (place - new.first) ∙ ap (λ at. date_at old.dates at) (same_place old.first used new.first place first from)

-- nothing more was heard
pub hears_nothing : {T W : Type 0} (Told : ToldBetween T W) (t : Listener) (w : Moment T W) → Hears Told t t [] false w w
hears_nothing Told t w start since heard s = rw append-nil s

-- something was heard, and then something more
hears_on : {T W : Type 0} (Told : ToldBetween T W) (a b c : Listener) (xs ys : List Heard) (w w1 w2 : Moment T W)
    → Hears Told a b xs false w w1 → Hears Told b c ys false w1 w2 → Hears Told a c (xs ++ ys) false w w2
hears_on Told a b c xs ys w w1 w2 h k start since heard s =
    rw (← append_assoc heard xs ys) (k start since (heard ++ xs) (h start since heard s))

-- nothing more is told where no sighting is decided
pub decided_none : {T W : Type 0} (Told : ToldBetween T W) (first : ℕ) (held : List ℕ) (after : After) (dates : Dates)
    (x : Past) (w : Moment T W) → HearsDecided Told first held after 0 dates x x w w
decided_none Told first held after dates x w start since heard s = s

-- one more sighting was told
pub decided_next : {T W : Type 0} (Told : ToldBetween T W) (first : ℕ) (held : List ℕ) (after : After) (used to : ℕ) (dates : Dates)
    (x y z : Past) (w w1 w2 : Moment T W) (given : List Seen) → HearsDecided Told first held after used dates x y w w1
    → SeesOn (heard_with held after) (is_end after) used given to → to ≤ length (heard_with held after)
    → All (λ s. seen_place s < length (heard_with held after)) given → All (λ s. seen_place s ≤ length held) given
    → ((earlier : List Seen) → y.stop ≡ last_stop earlier
    → Tells Told w1 w2 (counted (preambles_at y.preambles first (faultless held)) earlier
    (dated_from y.last (λ place. date_at dates (place - first)) first given)))
    → AreAlike (recalled z.last) (recalled y.last ++ map (moved_seen first) given)
    → ((earlier : List Seen) → y.stop ≡ last_stop earlier → z.stop ≡ last_stop (earlier ++ map (moved_seen first) given))
    → z.preambles ≡ y.preambles → HearsDecided Told first held after to dates x z w w2
decided_next Told first held after used to dates x y z w w1 w2 given h sees within below few tells alike stop preambles
    start since heard s =
    let date : ℕ → List ℕ = λ place. date_at dates (place - first) in
    stands_on (Told start since w1) (Told start since w2) y z date first (heard_with held after) used to (is_end after) heard given
    (h start since heard s) sees within below
    (λ earlier list is so.
    rw (counted_held y.preambles first earlier held after date (recalled y.last) given few) at (tells earlier is start since list so))
    alike stop preambles

-- the search went on without a sighting
pub decided_still : {T W : Type 0} (Told : ToldBetween T W) (first : ℕ) (held : List ℕ) (after : After) (used to : ℕ) (dates : Dates)
    (x y : Past) (w w1 : Moment T W) → HearsDecided Told first held after used dates x y w w1
    → SeesOn (heard_with held after) (is_end after) used [] to → to ≤ length (heard_with held after)
    → HearsDecided Told first held after to dates x y w w1
decided_still Told first held after used to dates x y w w1 h sees within =
    decided_next Told first held after used to dates x y y w w1 w1 [] h sees within
    (All-nil (λ (s : Seen). seen_place s < length (heard_with held after))) (All-nil (λ (s : Seen). seen_place s ≤ length held))
    (λ earlier is start since list so. rw append-nil so)
    (alike_same (recalled y.last) (recalled y.last ++ []) (sym (append-nil (recalled y.last)))) (λ earlier is. rw append-nil is) refl

-- the decided sightings of what was held were told, and the rest is held
pub hears_held : {T W : Type 0} (Told : ToldBetween T W) (old new : Listener) (after : After) (used : ℕ) (mid : Past) (w w1 : Moment T W)
    → AfterIsValid after → HearsDecided Told old.first old.held after used old.dates old.past mid w w1
    → DecidesNoMore old.held after used → new.first ≡ old.first + used → new.held ≡ drop used old.held
    → new.past ≡ record mid { preambles = preambles_dropped mid.preambles old.held used }
    → ((place : ℕ) → date_at new.dates place ≡ date_at old.dates (used + place))
    → Hears Told old new (heard_chars (chars_after after)) (is_end after) w w1
hears_held Told old new after used mid w w1 valid hears decided first held past dates start since heard s =
    let more = stands_more (Told start since w) old.past (date_from old) old.first (faultless old.held) 0 (is_end after) heard
    (chars_after after) s in
    let told = hears start since (heard ++ heard_chars (chars_after after)) (rw (heard_is old.held after) more) in
    let dropped = dropped_is mid.preambles old.held after used valid decided.within
    ∙ ap (λ xs. last_preambles (after_preambles mid.preambles (take used xs))) (heard_is old.held after) in
    rw (held, past, dropped)
    (rw (stays_held old.held after used decided.all)
    (rw (heard_is old.held after) at (stands_let_go (Told start since w1) mid (date_from old) (date_from new) old.first new.first
    (heard_with old.held after) used (is_end after) (heard ++ heard_chars (chars_after after)) told first
    (stays_dated old new used first dates))))

-- what stays held waits for more
pub waits : (old new : Listener) (after : After) (used : ℕ) → DecidesNoMore old.held after used → new.first ≡ old.first + used
    → new.held ≡ drop used old.held → length new.dates.held.items ≡ length new.held → KeepsOwn (old.first + used) new.past.last
    → new.past.preambles ≤ new.first → IsWaiting new
waits old new after used decided first held dated own preambles = record {
  undecided = rw held (waits_held old.held after used decided.all decided.undecided);
  few = rw held (few_stay old.held after used decided.few);
  dated = dated;
  own = rw first own;
  preambles = preambles;
}

-- at most all characters before those that stay are preamble bytes right before them
pub few_before : (mid : Past) (old new : Listener) (used : ℕ) → mid.preambles ≤ old.first → new.first ≡ old.first + used
    → new.past ≡ record mid { preambles = preambles_dropped mid.preambles old.held used } → new.past.preambles ≤ new.first
few_before mid old new used few first past =
    let is : new.past.preambles ≡ preambles_dropped mid.preambles old.held used = ap (λ (past : Past). past.preambles) past in
    omega (arith, is, dropped_few mid.preambles old.held used, few, first)

-- what was let go and what stays held are all that was heard
pub long_stays : (old new : Listener) (after : After) (used : ℕ) → DecidesNoMore old.held after used → new.first ≡ old.first + used
    → new.held ≡ drop used old.held → new.first + length new.held ≡ old.first + length old.held + length (chars_after after)
long_stays old new after used decided first held =
    let stay = ap length (stays_held old.held after used decided.all) in
    omega (
      arith,
      first,
      ap length held,
      stay,
      long_is (drop used old.held),
      length-drop used (faultless old.held ++ chars_after after),
      length-append (faultless old.held) (chars_after after),
      long_is old.held,
      rw (heard_is old.held after) at decided.within,
    )

-- bytes without faults were held, and then told as far as they decide
pub hears_bytes : {T W : Type 0} (Told : ToldBetween T W) (old mid new : Listener) (bytes : List ℕ) (w w1 : Moment T W)
    → mid.past ≡ old.past → mid.dates ≡ old.dates → mid.first ≡ old.first → mid.held ≡ old.held ++ bytes
    → Hears Told mid new [] false w w1 → Hears Told old new (heard_chars (faultless bytes)) false w w1
hears_bytes Told old mid new bytes w w1 past dates first held h start since heard s =
    let more = stands_more (Told start since w) old.past (date_from old) old.first (faultless old.held) 0 false heard (faultless bytes) s in
    rw append-nil at (h start since (heard ++ heard_chars (faultless bytes))
    (rw (past, dates, first, held, faultless_on old.held bytes) more))

-- a silence was heard
pub hears_silence : {T W : Type 0} (Told : ToldBetween T W) (old mid new : Listener) (w w1 : Moment T W)
    → Hears Told old mid [] true w w1 → mid.held ≡ [] → new.past ≡ record mid.past { preambles = 0 } → new.dates ≡ mid.dates
    → new.first ≡ mid.first → new.held ≡ mid.held → Hears Told old new (Silence ∷ []) false w w1
hears_silence Told old mid new w w1 h none past dates first held start since heard s =
    let ended = rw (none, append-nil) at (h start since heard s) in
    rw (past, dates, first, held, none) (stands_silence (Told start since w1) mid.past (date_from mid) mid.first heard ended)

-- a new date is the date of no held character, and of all that comes next
date_here : (old new : Dates) (first long place : ℕ) → new.held ≡ old.held → length old.held.items ≡ long → first ≤ place
    → place < first + long → date_at new (place - first) ≡ date_at old (place - first)
date_here old new first long place same dated from below =
    let kept : get_or new.held.items (place - first) new.last ≡ get_or old.held.items (place - first) old.last =
    rw same (get_or_default old.held.items (place - first) new.last old.last (omega (arith, dated, from, below))) in
    ap kept_word kept

date_next : (old new : Dates) (first long place : ℕ) → new.held ≡ old.held → length old.held.items ≡ long → first + long ≤ place
    → date_at new (place - first) ≡ kept_word new.last
date_next old new first long place same dated from =
    let kept : get_or new.held.items (place - first) new.last ≡ new.last =
    rw same (get_or_past old.held.items (place - first) new.last (omega (arith, dated, from))) in
    ap kept_word kept

-- a date was heard
pub hears_date : {T W : Type 0} (Told : ToldBetween T W) (old new : Listener) (word : List ℕ) (w : Moment T W)
    → length old.dates.held.items ≡ length old.held → new.past ≡ old.past → new.first ≡ old.first → new.held ≡ old.held
    → new.dates.held ≡ old.dates.held → kept_word new.dates.last ≡ word → Hears Told old new (Date word ∷ []) false w w
hears_date Told old new word w dated kept first held same last start since heard s =
    let long : length old.dates.held.items ≡ length (faultless old.held) = dated ∙ sym (long_is old.held) in
    rw (kept, held) (rw (← first) at (stands_date (Told start since w) old.past (date_from old)
    (λ place. date_at new.dates (place - old.first)) old.first (faultless old.held) 0 heard word s
    (λ place from below. date_here old.dates new.dates old.first (length (faultless old.held)) place same long from below)
    (λ place from. date_next old.dates new.dates old.first (length (faultless old.held)) place same long from ∙ last)))

-- nothing of a text was heard yet
pub text_none_heard : {T W : Type 0} (Told : ToldBetween T W) (start : Listener) (text : List ℕ) (w : Moment T W)
    → HearsText Told start start text 0 w w
text_none_heard Told start text w = record {
  within = omega arith;
  heard = [];
  reads = reading.items text [] text (item.nothing text);
  hears = hears_nothing Told start w;
  fits = omega arith;
}

-- more of a text was heard
pub more_of_text : {T W : Type 0} (Told : ToldBetween T W) (start a b : Listener) (text : List ℕ) (place len : ℕ) (more : List Heard)
    (w w1 w2 : Moment T W) → HearsText Told start a text place w w1 → len ≤ length (drop place text)
    → ReadsHeard (drop place text) more (drop len (drop place text)) → Hears Told a b more false w1 w2
    → b.first + length b.held + length (drop len (drop place text)) ≤ a.first + length a.held + length (drop place text)
    → HearsText Told start b text (place + len) w w2
more_of_text Told start a b text place len more w w1 w2 h within reads hears fits =
    let after : drop len (drop place text) ≡ drop (place + len) text = drop-drop len place text in
    record {
      within = omega (arith, h.within, within, length-drop place text);
      heard = h.heard ++ more;
      reads = rw after at (heard_laws.on text h.heard (drop place text) more (drop len (drop place text)) h.reads reads);
      hears = hears_on Told start a b h.heard more w w1 w2 h.hears hears;
      fits = rw (← after) (omega (arith, h.fits, fits));
    }

-- the items of a text read as characters, and a mark as a mark
pub reads_items : (text rest : List ℕ) (chars : List Character) → ReadsUpTo text chars rest → ReadsHeard text (heard_chars chars) rest
reads_items text rest chars reads = reading.items text chars rest reads

pub reads_mark : (text rest : List ℕ) (m : Heard) → BeginsWithMark text m rest → ReadsHeard text (m ∷ []) rest
reads_mark text rest m begins =
    reading.mark text [] text m rest [] rest (item.nothing text) begins (reading.items rest [] rest (item.nothing rest))

-- a new listener waits for more
pub new_waits : (t : Listener) → t.held ≡ [] → t.dates.held.items ≡ [] → t.past ≡ no_past → IsWaiting t
new_waits t held dated past = record {
  undecided = rw held undecided_nothing;
  few = rw held (omega arith);
  dated = rw (held, dated) refl;
  own = rw past (tt, tt);
  preambles = rw past (omega arith);
}

-- no sighting after those told is decided
told_no_more : (Told : List Dated → Type 0) (a : Listener) (heard : List Heard) (s : StandsFor Told false a heard) → IsWaiting a
    → (next : Seen) → ComeFirst heard ((s.before ++ map (moved_seen (total s.earlier)) s.seen) ++ next ∷ []) → ⊥
told_no_more Told a heard s waiting next claim =
    let first = total s.earlier in
    waiting.undecided (back (first + s.base) next) (λ more all are.
    let whole = s.chars ++ more in
    let rest : drop s.base whole ≡ drop s.base s.chars ++ more = drop-append-le s.base s.chars more s.within_chars in
    let stands = rest_is_seen s.base whole all (rw rest (rw s.held_is at are)) in
    let sees : SeesOn s.chars false 0 s.seen s.base = rw (plus_zero s.base) at s.sees in
    let own = sees more (map (moved_seen s.base) all) (λ never. absurd cc) stands in
    let last : stretches (heard_chars more) ≡ more ∷ [] =
    rw (append-nil (heard_chars more), append-nil more) at (stretches_chars more []) in
    let parts : stretches (heard ++ heard_chars more) ≡ s.earlier ++ whole ∷ [] =
    s.splits (heard_chars more) ∙ ap (λ x. s.earlier ++ after_chars s.chars x) last in
    let seen = s.seen ++ map (moved_seen s.base) all in
    let list = ended_seen s.earlier s.before whole seen s.are_before own in
    let (later, is) = claim (heard_chars more) (s.before ++ map (moved_seen first) seen) (rw parts list) in
    let begun = map (moved_seen first) s.seen in
    let after = map (moved_seen first) (map (moved_seen s.base) all) in
    let split : s.before ++ (begun ++ after) ≡ s.before ++ (begun ++ next ∷ later) =
    ap (λ x. s.before ++ x) (sym (map-append _ s.seen (map (moved_seen s.base) all)))
    ∙ (is ∙ (append_assoc (s.before ++ begun) (next ∷ []) later ∙ append_assoc s.before begun (next ∷ later))) in
    let left : after ≡ next ∷ later =
    cancel begun after (next ∷ later) (cancel s.before (begun ++ after) (begun ++ next ∷ later) split) in
    first_moved (first + s.base) all next later (sym (moved_twice first s.base all) ∙ left))

-- what a waiting listener told are the decided sightings
pub told_decided : (Told : List Dated → Type 0) (a : Listener) (heard : List Heard) (s : StandsFor Told false a heard) → IsWaiting a
    → AreDecided heard (s.before ++ map (moved_seen (total s.earlier)) s.seen)
told_decided Told a heard s waiting = record {
  first = told_first Told a.past (date_from a) a.first _ 0 heard s;
  no_more = told_no_more Told a heard s waiting;
}
