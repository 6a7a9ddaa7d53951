-- Texts with marks: a text reads in one way, and what follows a text does not change what was read.
use Rattle.std.proofs.Common.{◌≡◌, ◌+◌, ◌*◌, ◌≤◌, ◌∙◌, ℕ, List, [], ◌∷◌, ◌++◌, length, refl, sym, ap, arith, append_assoc}
use Rattle.std.proofs.lemmas.List.{map-append}
use Rattle.hart_frame.specs.heard.Character.{Character}
use Rattle.hart_text.specs.Heard as reading
use Rattle.hart_text.specs.Heard.{BeginsWithMark, Date, Heard, HeardChar, NothingBegins, ReadsHeard, Silence, heard_chars, items}
use Rattle.hart_text.specs.Items.{Opens, ReadsUpTo}
use Rattle.hart_text.proofs.lemmas.Items.{item_laws, NoPieceBegins-nil, ReadsUpTo-few, ReadsUpTo-more, ReadsUpTo-on, goes_on, one_reading}
use Rattle.hart_text.proofs.lemmas.Items.{stays}
use Rattle.hart_text.proofs.lemmas.Marks.{mark_long, mark_more, no_piece_is_mark, one_mark}
use Rattle.hart_text.proofs.lemmas.Reads.{Laws, may_begin-nil, may_open}

-- hearing characters of two joined lists is hearing the first list and then the second
pub chars_on : (xs ys : List Character) → heard_chars (xs ++ ys) ≡ heard_chars xs ++ heard_chars ys
chars_on xs ys = map-append _ xs ys

-- a text reads in the same way up to its rest, whatever follows
heard_more : (text : List ℕ) (heard : List Heard) (rest more : List ℕ) → ReadsHeard text heard rest
    → ReadsHeard (text ++ more) heard (rest ++ more)
heard_more _ _ _ more (items text chars rest r) = items (text ++ more) chars (rest ++ more) (ReadsUpTo-more text chars rest more r)
heard_more _ _ _ more (reading.mark text chars next m rest heard last r b h) =
    reading.mark (text ++ more) chars (next ++ more) m (rest ++ more) heard (last ++ more) (ReadsUpTo-more text chars next more r)
    (mark_more next m rest more b) (heard_more rest heard last more h)

-- if a text begins with items, it reads as these items, followed by what the rest reads as
items_on : (text : List ℕ) (xs : List Character) (rest : List ℕ) (ys : List Heard) (last : List ℕ) → ReadsUpTo text xs rest
    → ReadsHeard rest ys last → ReadsHeard text (heard_chars xs ++ ys) last
items_on text xs _ _ _ r (items rest chars last k) =
    rw (← chars_on xs chars) (items text (xs ++ chars) last (ReadsUpTo-on text xs rest chars last r k))
items_on text xs _ _ _ r (reading.mark rest chars next m after heard last k b h) =
    rw (← append_assoc, ← chars_on xs chars)
    (reading.mark text (xs ++ chars) next m after heard last (ReadsUpTo-on text xs rest chars next r k) b h)

-- a text that reads up to a rest reads as what was read before the rest, followed by what the rest reads as
pub heard_on : (text : List ℕ) (xs : List Heard) (rest : List ℕ) (ys : List Heard) (last : List ℕ) → ReadsHeard text xs rest
    → ReadsHeard rest ys last → ReadsHeard text (xs ++ ys) last
heard_on _ _ _ ys last (items text chars rest r) k = items_on text chars rest ys last r k
heard_on _ _ _ ys last (reading.mark text chars next m after heard rest r b h) k =
    rw append_assoc (reading.mark text chars next m after (heard ++ ys) last r b (heard_on after heard rest ys last h k))

-- if a reading stops where nothing begins, every other reading of the text is a prefix of it
heard_goes_on : (text : List ℕ) (xs : List Heard) (rest : List ℕ) (ys : List Heard) (last : List ℕ) → ReadsHeard text xs rest
    → ReadsHeard text ys last → NothingBegins last → (between : List Heard) × ReadsHeard rest between last × (ys ≡ xs ++ between)
heard_goes_on _ _ _ _ _ (items text xs rest r) (items _ ys last k) n =
    let on = goes_on text xs rest ys last r k n.no_piece in
    (heard_chars on.between, items rest on.between last on.reads, ap heard_chars on.chars ∙ chars_on xs on.between)
heard_goes_on _ _ _ _ _ (items text xs rest r) (reading.mark _ ys next m after heard last k b h) n =
    let on = goes_on text xs rest ys next r k (no_piece_is_mark next m after b) in
    let is : heard_chars ys ≡ heard_chars xs ++ heard_chars on.between = ap heard_chars on.chars ∙ chars_on xs on.between in (
      heard_chars on.between ++ m ∷ heard,
      reading.mark rest on.between next m after heard last on.reads b h,
      rw (is, append_assoc) refl,
    )
heard_goes_on _ _ _ _ _ (reading.mark text xs next m after heard rest r b h) (items _ ys last k) n =
    let on = goes_on text xs next ys last r k n.no_piece in
    let stay = stays next on.between last on.reads (no_piece_is_mark next m after b) in
    absurd (n.no_mark m after (rw stay.1 at b))
heard_goes_on _ _ _ _ _ (reading.mark text xs next m after heard rest r b h) (reading.mark _ ys place o behind other last k c g) n =
    let same = one_reading text xs next ys place r k (no_piece_is_mark next m after b) (no_piece_is_mark place o behind c) in
    let one = one_mark next m o after behind b (rw (← same.1) at c) in
    let on = heard_goes_on after heard rest other last h (rw (← one.1) at g) n in (
      on.0,
      on.1,
      ap (λ zs. heard_chars zs ++ o ∷ other) (sym same.0)
          ∙ (ap (λ z. heard_chars xs ++ z ∷ other) (sym one.0)
          ∙ (ap (λ zs. heard_chars xs ++ m ∷ zs) on.2 ∙ sym (append_assoc (heard_chars xs) (m ∷ heard) on.0))),
    )

-- nothing is read where nothing begins
heard_stays : (rest : List ℕ) (heard : List Heard) (last : List ℕ) → ReadsHeard rest heard last → NothingBegins rest
    → (heard ≡ []) × (rest ≡ last)
heard_stays _ _ _ (items rest chars last r) n = let stay = stays rest chars last r n.no_piece in (ap heard_chars stay.0, stay.1)
heard_stays _ _ _ (reading.mark text chars next m after heard last r b h) n =
    let stay = stays text chars next r n.no_piece in absurd (n.no_mark m after (rw (← stay.1) at b))

-- the number of characters in what was heard
abbrev pub count : List Heard → ℕ
count [] = 0
count (HeardChar character ∷ heard) = 1 + count heard
count (Silence ∷ heard) = count heard
count (Date word ∷ heard) = count heard

pub count_chars : (chars : List Character) → count (heard_chars chars) ≡ length chars
count_chars [] = refl
count_chars (character ∷ chars) = omega (arith, count_chars chars)

pub count_on : (xs ys : List Heard) → count (xs ++ ys) ≡ count xs + count ys
count_on [] ys = omega arith
count_on (HeardChar character ∷ xs) ys = omega (arith, count_on xs ys)
count_on (Silence ∷ xs) ys = count_on xs ys
count_on (Date word ∷ xs) ys = count_on xs ys

-- a mark is no character
count_mark : (text : List ℕ) (m : Heard) (rest : List ℕ) (heard : List Heard) → BeginsWithMark text m rest
    → count (m ∷ heard) ≡ count heard
count_mark text (HeardChar character) rest heard never = absurd never
count_mark text Silence rest heard begins = refl
count_mark text (Date word) rest heard begins = refl

-- a text has at least two bytes before its rest for each character
pub heard_few : (text : List ℕ) (heard : List Heard) (rest : List ℕ) → ReadsHeard text heard rest
    → 2 * count heard + length rest ≤ length text
heard_few _ _ _ (items text chars rest r) = omega (arith, ReadsUpTo-few text chars rest r, count_chars chars)
heard_few _ _ _ (reading.mark text chars next m after heard last r b h) =
    omega (
      arith,
      ReadsUpTo-few text chars next r,
      mark_long next m after b,
      heard_few after heard last h,
      count_on (heard_chars chars) (m ∷ heard),
      count_mark next m after heard b,
      count_chars chars,
    )

-- a reading that leaves the whole text as its rest has read nothing
heard_still : (text : List ℕ) (heard : List Heard) (rest : List ℕ) → ReadsHeard text heard rest → length rest ≡ length text → rest ≡ text
heard_still _ _ _ (items text chars rest r) long = item_laws.still text chars rest r long
heard_still _ _ _ (reading.mark text chars next m after heard last r b h) long =
    absurd (omega (arith, long, ReadsUpTo-few text chars next r, mark_long next m after b, heard_few after heard last h))

-- no mark begins at the end of a text
no_mark_at_end : (m : Heard) (rest : List ℕ) → BeginsWithMark [] m rest → ⊥
no_mark_at_end (HeardChar character) rest never = never
no_mark_at_end Silence rest is = absurd cc
no_mark_at_end (Date word) rest (valid, is, next) = absurd cc

-- nothing begins at the end of a text
heard_none : NothingBegins []
heard_none = record { no_piece = NoPieceBegins-nil; no_mark = no_mark_at_end }

-- if a rest begins with nothing and is not open, it begins with nothing whatever follows
heard_decided : (rest more : List ℕ) → NothingBegins rest → (Opens NothingBegins rest → ⊥) → NothingBegins (rest ++ more)
heard_decided rest more stops none = record {
  no_piece = λ p tail begins. none (record { more = more; goes_on = λ other. other.no_piece p tail begins });
  no_mark = λ m after begins. none (record { more = more; goes_on = λ other. other.no_mark m after begins });
}

-- reading texts with marks obeys the laws of `Laws`
pub heard_laws : Laws ReadsHeard NothingBegins
heard_laws = record {
  more = heard_more;
  on = heard_on;
  goes_on = heard_goes_on;
  stays = heard_stays;
  shorter = λ text heard rest h. omega (arith, heard_few text heard rest h);
  still = heard_still;
  none = heard_none;
  pieces = λ text stops. stops.no_piece;
  decided = heard_decided;
}

-- the empty rest is open
pub nothing_open : Opens NothingBegins []
nothing_open = may_open ReadsHeard NothingBegins heard_laws [] may_begin-nil
