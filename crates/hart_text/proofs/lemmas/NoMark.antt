-- A text without marks is a text of items only.
use Rattle.std.proofs.Common.{◌≡◌, ◌≢◌, ◌+◌, ◌∙◌, ℕ, List, [], ◌∷◌, ◌++◌, length, refl, ap, sym, arith, append_assoc, length-append}
use Rattle.hart_frame.specs.heard.Character.{Character}
use Rattle.hart_text.specs.Heard.{BeginsWithMark, Date, HasNoMark, Heard, HeardChar, NothingBegins, ReadsHeard, Silence, heard_chars, items}
use Rattle.hart_text.specs.Heard as reading
use Rattle.hart_text.specs.Items.{HasBadHexBy, NoPieceBegins, Opens, ReadsSoFarBy, ReadsUpTo, closed, nothing, piece, spelling}
use Rattle.hart_text.proofs.lemmas.Heard.{heard_laws}
use Rattle.hart_text.proofs.lemmas.Items.{ReadsUpTo-more}
use Rattle.hart_text.proofs.lemmas.Marks.{items_open}
use Rattle.hart_text.proofs.lemmas.Reads.{may_begin-nil}

-- the rest of a text stands at its end
rest_of : (text : List ℕ) (chars : List Character) (rest : List ℕ) → ReadsUpTo text chars rest → (before : List ℕ) × (text ≡ before ++ rest)
rest_of _ _ _ (nothing rest) = ([], refl)
rest_of _ _ _ (piece text p tail chars rest h r) =
    let (before, is) = rest_of tail chars rest r in
    (spelling p ++ before, h.spelled ∙ (ap (λ xs. spelling p ++ xs) is ∙ sym (append_assoc (spelling p) before rest)))

-- no mark stands in a text without marks
no_mark_in : (before next : List ℕ) (m : Heard) (rest : List ℕ) → BeginsWithMark next m rest → HasNoMark (before ++ next) → ⊥
no_mark_in before next (HeardChar character) rest never none = never
no_mark_in before next Silence rest is none = none.no_silence before rest (ap (λ xs. before ++ xs) is)
no_mark_in before next (Date word) rest (valid, is, after) none =
    none.no_date before (word ++ rest) (ap (λ xs. before ++ xs) is)

-- a text without marks reads as characters
pub reads_plain : (text : List ℕ) (heard : List Heard) (rest : List ℕ) → ReadsHeard text heard rest → HasNoMark text
    → (chars : List Character) × (heard ≡ heard_chars chars) × ReadsUpTo text chars rest
reads_plain _ _ _ (items text chars rest r) none = (chars, refl, r)
reads_plain _ _ _ (reading.mark text chars next m rest heard last r b h) none =
    let (before, is) = rest_of text chars next r in absurd (no_mark_in before next m rest b (rw is at none))

-- bytes added to a text without marks begin no mark in it
no_mark_now : (before : List ℕ) (byte : ℕ) (rest more : List ℕ) (m : Heard) (after : List ℕ)
    → BeginsWithMark (byte ∷ rest ++ more) m after → HasNoMark (before ++ byte ∷ rest) → ⊥
no_mark_now before byte rest more (HeardChar character) after never none = never
no_mark_now before byte rest more Silence after is none =
    let same : byte ≡ 47 = cc in none.no_silence before rest (ap (λ n. before ++ n ∷ rest) same)
no_mark_now before byte rest more (Date word) after (valid, is, next) none =
    let same : byte ≡ 64 = cc in none.no_date before rest (ap (λ n. before ++ n ∷ rest) same)

-- the open rest of a text without marks is open in a text of items
open_plain : (before rest : List ℕ) → HasNoMark (before ++ rest) → Opens NothingBegins rest → Opens NoPieceBegins rest
open_plain before [] none ajar = items_open [] may_begin-nil
open_plain before (byte ∷ rest) none ajar = record {
  more = ajar.more;
  goes_on = λ stops. ajar.goes_on (record {
    no_piece = stops;
    no_mark = λ m after begins. no_mark_now before byte rest ajar.more m after begins none;
  });
}

-- so far, a text without marks reads as characters
pub so_far_plain : (text : List ℕ) (heard : List Heard) → ReadsSoFarBy ReadsHeard NothingBegins text heard → HasNoMark text
    → (chars : List Character) × (heard ≡ heard_chars chars) × ReadsSoFarBy ReadsUpTo NoPieceBegins text chars
so_far_plain text heard h none =
    let (chars, is, reads) = reads_plain text heard h.rest h.reads none in
    let (before, split) = rest_of text chars h.rest reads in (
      chars,
      is,
      record {
        rest = h.rest;
        reads = reads;
        no_piece = h.no_piece.no_piece;
        open_end = open_plain before h.rest (rw split at none) h.open_end;
      },
    )

-- a byte that is not in a text is not in the text followed by a different byte
not_after : (last byte : ℕ) → last ≢ byte → (text before rest : List ℕ) → ((p r : List ℕ) → text ≡ p ++ byte ∷ r → ⊥)
    → text ++ last ∷ [] ≡ before ++ byte ∷ rest → ⊥
not_after last byte differ [] [] rest none is = let same : last ≡ byte = cc in differ same
not_after last byte differ [] (b ∷ before) rest none is =
    omega (arith, ap length is, length-append before (byte ∷ rest))
not_after last byte differ (x ∷ text) [] rest none is =
    let same : x ≡ byte = cc in none [] text (ap (λ n. n ∷ text) same)
not_after last byte differ (x ∷ text) (b ∷ before) rest none is =
    let first : x ≡ b = cc in
    let later : text ++ last ∷ [] ≡ before ++ byte ∷ rest = cc in
    not_after last byte differ text before rest (λ p r e. none (x ∷ p) r (ap (λ ys. x ∷ ys) e)) later

-- a text without marks, followed by a space, has no mark either
pub no_mark_closed : (text : List ℕ) → HasNoMark text → HasNoMark (closed text)
no_mark_closed text none = record {
  no_silence = λ before rest is. not_after 32 47 (λ same. omega (arith, same)) text before rest none.no_silence is;
  no_date = λ before rest is. not_after 32 64 (λ same. omega (arith, same)) text before rest none.no_date is;
}

-- a list that is not empty stays so with more after it
some_more : (rest more : List ℕ) → rest ≢ [] → rest ++ more ≢ []
some_more [] more some = absurd (some refl)
some_more (n ∷ rest) more some = λ is. absurd cc

-- bad hex decided for a text read with marks is decided for the text read as items
pub bad_plain : (text : List ℕ) (heard : List Heard) (chars : List Character) (place : ℕ)
    → (k : (more : List ℕ) → HasBadHexBy ReadsHeard NothingBegins (text ++ more) heard place) → (rest : List ℕ)
    → ReadsHeard text heard rest → ReadsUpTo text chars rest → place + length rest ≡ length text → rest ≢ [] → (more : List ℕ)
    → HasBadHexBy ReadsUpTo NoPieceBegins (text ++ more) chars place
bad_plain text heard chars place k rest read reads begins some more =
    let later = k more in
    let first = heard_laws.more text heard rest more read in
    let (between, on, split) = heard_laws.goes_on (text ++ more) heard (rest ++ more) heard later.rest first later.reads later.no_piece in
    let long : length later.rest ≡ length (rest ++ more) =
    omega (arith, begins, later.begins, length-append text more, length-append rest more) in
    let still = heard_laws.still (rest ++ more) between later.rest on long in
    record {
      rest = rest ++ more;
      reads = ReadsUpTo-more text chars rest more reads;
      begins = omega (arith, begins, length-append text more, length-append rest more);
      more = some_more rest more some;
      no_piece = rw still at later.no_piece.no_piece;
    }
