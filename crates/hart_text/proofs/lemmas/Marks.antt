-- The mark that begins a text: there is one at most, and no piece begins there. The date that begins a text with a `@`, by how many visible
-- bytes follow.
use Rattle.std.proofs.Common.{◌≡◌, ◌≤◌, ◌+◌, ◌∙◌, ◌⊎◌, ◌↔◌, ℕ, All, Bool, false, true, List, [], ◌∷◌, ◌++◌, length, drop, get_or, refl, sym}
use Rattle.std.proofs.Common.{IsTrue, ap, arith, inl, inr, append-nil, append_assoc, length-append, ◌<◌, zero, suc, take}
use Rattle.std.proofs.lemmas.Grind.{common_steps}
use Rattle.std.proofs.lemmas.List.Elements.{All-cons, All-head, All-nil, All-tail}
use Rattle.hart_text.specs.Heard.{BeginsWithMark, BeginsWithSeparator, Date, Heard, HeardChar, IsDateWord, IsVisible, NothingBegins}
use Rattle.hart_text.specs.Heard.{NoMarkBegins, Silence}
use Rattle.hart_text.specs.Marks.{MayBeginDate}
use Rattle.hart_text.specs.Items.{IsSeparator, MayBegin, NoPieceBegins, Opens}
use Rattle.hart_text.proofs.lemmas.Reads.{may_begin-nil}
use Rattle.std.proofs.lemmas.List.{get_or-append-add}

-- no piece begins with a `/` or a `@`
no_piece_is_silence : (rest : List ℕ) → NoPieceBegins (47 ∷ rest)
no_piece_is_silence rest p tail h = grind (arith, common_steps)

no_piece_is_date : (rest : List ℕ) → NoPieceBegins (64 ∷ rest)
no_piece_is_date rest p tail h = grind (arith, common_steps)

pub no_piece_is_mark : (text : List ℕ) (mark : Heard) (rest : List ℕ) → BeginsWithMark text mark rest → NoPieceBegins text
no_piece_is_mark text (HeardChar character) rest never = absurd never
no_piece_is_mark text Silence rest is = rw is (no_piece_is_silence rest)
no_piece_is_mark text (Date word) rest (valid, is, next) = rw is (no_piece_is_date (word ++ rest))

-- a text begins with its mark, whatever follows
separator_more : (text more : List ℕ) → BeginsWithSeparator text → BeginsWithSeparator (text ++ more)
separator_more text more begins = record {
  byte = begins.byte;
  after = begins.after ++ more;
  separates = begins.separates;
  text_is = ap (λ xs. xs ++ more) begins.text_is;
}

pub mark_more : (text : List ℕ) (mark : Heard) (rest more : List ℕ) → BeginsWithMark text mark rest
    → BeginsWithMark (text ++ more) mark (rest ++ more)
mark_more text (HeardChar character) rest more never = absurd never
mark_more text Silence rest more is = ap (λ xs. xs ++ more) is
mark_more text (Date word) rest more (valid, is, next) = (
  valid,
  ap (λ xs. xs ++ more) is ∙ ap (λ xs. 64 ∷ xs) (append_assoc word rest more),
  separator_more rest more next,
)

-- a visible byte is no separator
pub not_both : (byte : ℕ) → IsVisible byte → IsSeparator byte → ⊥
not_both byte visible separates = grind (arith, common_steps)

-- a text begins with at most one word that a separator follows
one_word : (word other rest last : List ℕ) → All IsVisible word → All IsVisible other → BeginsWithSeparator rest
    → BeginsWithSeparator last → word ++ rest ≡ other ++ last → (word ≡ other) × (rest ≡ last)
one_word [] [] rest last p q s t is = (refl, is)
one_word [] (b ∷ other) rest last p q s t is =
    let text = s.text_is in
    let same : b ≡ s.byte = cc in
    absurd (not_both b (All-head IsVisible b other q) (rw same s.separates))
one_word (a ∷ word) [] rest last p q s t is =
    let text = t.text_is in
    let same : a ≡ t.byte = cc in
    absurd (not_both a (All-head IsVisible a word p) (rw same t.separates))
one_word (a ∷ word) (b ∷ other) rest last p q s t is =
    let first : a ≡ b = cc in
    let later : word ++ rest ≡ other ++ last = cc in
    let same = one_word word other rest last (All-tail IsVisible a word p) (All-tail IsVisible b other q) s t later in
    (rw (first, same.0) refl, same.1)

-- a text that begins with a `/` does not begin with a `@`
pub not_date : (text rest other : List ℕ) → text ≡ 47 ∷ rest → text ≡ 64 ∷ other → ⊥
not_date text rest other is also =
    let first : 47 ≡ 64 = ap (λ xs. get_or xs 0 0) (sym is ∙ also) in omega (arith, first)

one_silence : (text : List ℕ) (n : Heard) (r s : List ℕ) → text ≡ 47 ∷ r → BeginsWithMark text n s → (Silence ≡ n) × (r ≡ s)
one_silence text (HeardChar character) r s is never = absurd never
one_silence text Silence r s is also = (refl, ap (drop 1) (sym is ∙ also))
one_silence text (Date word) r s is (valid, also, next) = absurd (not_date text r (word ++ s) is also)

one_date : (text word : List ℕ) (n : Heard) (r s : List ℕ) → BeginsWithMark text (Date word) r → BeginsWithMark text n s
    → (Date word ≡ n) × (r ≡ s)
one_date text word (HeardChar character) r s begins never = absurd never
one_date text word Silence r s (valid, is, next) also = absurd (not_date text s (word ++ r) also is)
one_date text word (Date other) r s (valid, is, next) (fine, also, later) =
    let same : word ++ r ≡ other ++ s = ap (drop 1) (sym is ∙ also) in
    let one = one_word word other r s valid.visible fine.visible next later same in (ap Date one.0, one.1)

-- a text begins with at most one mark
pub one_mark : (text : List ℕ) (m n : Heard) (r s : List ℕ) → BeginsWithMark text m r → BeginsWithMark text n s → (m ≡ n) × (r ≡ s)
one_mark text (HeardChar character) n r s never also = absurd never
one_mark text Silence n r s is also = one_silence text n r s is also
one_mark text (Date word) n r s begins also = one_date text word n r s begins also

-- a mark has at least one byte
pub mark_long : (text : List ℕ) (mark : Heard) (rest : List ℕ) → BeginsWithMark text mark rest → length rest + 1 ≤ length text
mark_long text (HeardChar character) rest never = absurd never
mark_long text Silence rest is = omega (arith, ap length is)
mark_long text (Date word) rest (valid, is, next) = omega (arith, ap length is, length-append word rest)

-- two splits of one list: one of the first parts continues the other
split : (a b c d : List ℕ) → a ++ b ≡ c ++ d
    → ((x : List ℕ) × (a ≡ c ++ x) × (d ≡ x ++ b)) ⊎ ((x : List ℕ) × (c ≡ a ++ x))
split a b [] d is = inl (a, refl, sym is)
split [] b (y ∷ c) d is = inr (y ∷ c, refl)
split (x ∷ a) b (y ∷ c) d is =
    let first : x ≡ y = cc in
    let later : a ++ b ≡ c ++ d = cc in
    elim (split a b c d later) [
      | inl (z, longer, rest) ↦ inl (z, cc, rest)
      | inr (z, longer) ↦ inr (z, cc)
    ]

-- the first part of visible bytes is visible
first_visible : (xs ys : List ℕ) → All IsVisible (xs ++ ys) → All IsVisible xs
first_visible [] ys all = All-nil IsVisible
first_visible (x ∷ xs) ys all =
    All-cons IsVisible x xs (All-head IsVisible x (xs ++ ys) all) (first_visible xs ys (All-tail IsVisible x (xs ++ ys) all))

-- a space is a separator
space : BeginsWithSeparator (32 ∷ [])
space = record { byte = 32; after = []; separates = inl refl; text_is = refl }

-- the beginning of a date is open: more bytes complete it
date_opens : (text word : List ℕ) → text ≡ 64 ∷ word → length word ≤ 32 → All IsVisible word → Opens NothingBegins text
date_opens text [] is few visible =
    let one : IsDateWord (48 ∷ []) = record {
      some = omega arith;
      few = omega arith;
      visible = All-cons IsVisible 48 [] (omega arith, omega arith) (All-nil IsVisible);
    } in
    record {
      more = 48 ∷ 32 ∷ [];
      goes_on = λ stops. stops.no_mark (Date (48 ∷ [])) (32 ∷ []) (one, ap (λ xs. xs ++ 48 ∷ 32 ∷ []) is, space);
    }
date_opens text (byte ∷ word) is few visible =
    let valid : IsDateWord (byte ∷ word) = record { some = omega arith; few = few; visible = visible } in
    record {
      more = 32 ∷ [];
      goes_on = λ stops. stops.no_mark (Date (byte ∷ word)) (32 ∷ []) (valid, ap (λ xs. xs ++ 32 ∷ []) is, space);
    }

-- what may begin a piece or a date is open
pub opens : (text : List ℕ) → MayBegin text ⊎ MayBeginDate text → Opens NothingBegins text
opens text (inl may) = record { more = may.more; goes_on = λ stops. stops.no_piece may.piece may.tail may.begins }
opens text (inr begins) = date_opens text begins.word begins.text_is begins.few begins.visible

-- if no date begins or may begin, more bytes complete no date
never_date : (text more word rest : List ℕ) → NothingBegins (64 ∷ text) → (MayBeginDate (64 ∷ text) → ⊥) → IsDateWord word
    → text ++ more ≡ word ++ rest → BeginsWithSeparator rest → ⊥
never_date text more word rest stops never valid is next = elim (split text more word rest is) [
  | inl ([], same, after) ↦
      let whole : text ≡ word = same ∙ append-nil word in
      never (record { word = text; text_is = refl; few = rw whole valid.few; visible = rw whole valid.visible })
  | inl (byte ∷ xs, same, after) ↦
      let begins = next.text_is in
      let own : byte ≡ next.byte = cc in
      stops.no_mark (Date word) (byte ∷ xs) (
        valid,
        ap (λ ys. 64 ∷ ys) same,
        record { byte = byte; after = xs; separates = rw own next.separates; text_is = refl },
      )
  | inr (xs, same) ↦
      let visible = first_visible text xs (rw same at valid.visible) in
      let long = ap length same in
      never (record {
        word = text;
        text_is = refl;
        few = omega (arith, long, length-append text xs, valid.few);
        visible = visible;
      })
]

-- if no mark begins or may begin, more bytes complete no mark
never_mark : (text more : List ℕ) (mark : Heard) (rest : List ℕ) → NothingBegins text → (MayBegin text → ⊥)
    → (MayBeginDate text → ⊥) → BeginsWithMark (text ++ more) mark rest → ⊥
never_mark [] more mark rest stops none never begins = none may_begin-nil
never_mark (byte ∷ text) more (HeardChar character) rest stops none never begins = begins
never_mark (byte ∷ text) more Silence rest stops none never is =
    let same : byte ≡ 47 = cc in stops.no_mark Silence text (ap (λ n. n ∷ text) same)
never_mark (byte ∷ text) more (Date word) rest stops none never (valid, is, next) =
    let same : byte ≡ 64 = cc in
    let later : text ++ more ≡ word ++ rest = cc in
    never_date text more word rest (rw same at stops) (rw same at never) valid later next

-- where neither a piece nor a date may begin, nothing is open
pub never_opens : (text : List ℕ) → NothingBegins text → (MayBegin text → ⊥) → (MayBeginDate text → ⊥) → Opens NothingBegins text → ⊥
never_opens text stops none never ajar = ajar.goes_on (record {
  no_piece = λ p tail begins. none (record { more = ajar.more; piece = p; tail = tail; begins = begins });
  no_mark = λ mark rest begins. never_mark text ajar.more mark rest stops none never begins;
})

-- where no piece may begin, a text is open if a date may begin
pub opens_if : (text : List ℕ) (is_date : Bool) → NothingBegins text → (MayBegin text → ⊥) → (IsTrue is_date ↔ MayBeginDate text)
    → IsTrue is_date ↔ Opens NothingBegins text
opens_if text true stops none is = (λ yes. opens text (inr (is.0 yes)), λ ajar. refl)
opens_if text false stops none is = (
  λ never. absurd cc,
  λ ajar. absurd (never_opens text stops none (λ begins. let yes = is.1 begins in absurd cc) ajar),
)

-- where no piece may begin, nothing is open in a text of items
pub items_never_open : (text : List ℕ) → (MayBegin text → ⊥) → Opens NoPieceBegins text → ⊥
items_never_open text none ajar = ajar.goes_on (λ p tail begins. none (record {
  more = ajar.more;
  piece = p;
  tail = tail;
  begins = begins;
}))

-- where a piece may begin, a text of items is open
pub items_open : (text : List ℕ) → MayBegin text → Opens NoPieceBegins text
items_open text may = record { more = may.more; goes_on = λ stops. stops may.piece may.tail may.begins }

-- if a word and a separator begin a text, the word is the visible bytes at the start
word_long : (text word rest : List ℕ) (len : ℕ) → text ≡ word ++ rest → All IsVisible word → BeginsWithSeparator rest
    → All IsVisible (take len text) → (len < length text → IsVisible (get_or text len 0) → ⊥) → len ≤ length text
    → len ≡ length word
word_long text [] rest zero is valid next all stops within = refl
word_long text [] rest (suc n) is valid next all stops within =
    let same : text ≡ next.byte ∷ next.after = is ∙ next.text_is in
    let one = All-head IsVisible next.byte (take n next.after) (rw same at all) in
    absurd (not_both next.byte one next.separates)
word_long [] (b ∷ word) rest len is valid next all stops within = absurd cc
word_long (x ∷ text) (b ∷ word) rest zero is valid next all stops within =
    let same : x ≡ b = cc in
    absurd (stops (omega arith) (rw same (All-head IsVisible b word valid)))
word_long (x ∷ text) (b ∷ word) rest (suc n) is valid next all stops within =
    let later : text ≡ word ++ rest = ap (drop 1) is in
    let one = word_long text word rest n later (All-tail IsVisible b word valid) next (All-tail IsVisible x (take n text) all)
    (λ below visible. stops (omega (arith, below)) visible) (omega (arith, within)) in
    omega (arith, one)

-- the separator after a word stands at the end of the word
separates_at : (text word rest : List ℕ) → text ≡ word ++ rest → (next : BeginsWithSeparator rest)
    → (length word < length text) × (get_or text (length word) 0 ≡ next.byte)
separates_at text word rest is next =
    let place : length word + 0 ≡ length word = omega arith in
    let head : get_or rest 0 0 ≡ next.byte = rw next.text_is refl in
    let there = rw place at (get_or-append-add word rest 0 0) in (
      omega (arith, ap length is, length-append word rest, ap length next.text_is),
      ap (λ xs. get_or xs (length word) 0) is ∙ (there ∙ head),
    )

-- why the visible bytes after a `@` make no date
abbrev pub IsWrong : List ℕ → ℕ → Type 0
IsWrong after len = (len ≡ 0) ⊎ (32 < len) ⊎ (len < length after → IsSeparator (get_or after len 0) → ⊥)

wrong_word : (after word rest : List ℕ) (len : ℕ) → after ≡ word ++ rest → IsDateWord word → BeginsWithSeparator rest
    → len ≡ length word → IsWrong after len → ⊥
wrong_word after word rest len is valid next long (inl none) = omega (arith, none, long, valid.some)
wrong_word after word rest len is valid next long (inr (inl most)) = omega (arith, most, long, valid.few)
wrong_word after word rest len is valid next long (inr (inr other)) =
    let (below, there) = separates_at after word rest is next in
    rw long at other below (rw there next.separates)

no_date : (text word rest : List ℕ) (len : ℕ) → text ≡ 64 ∷ word ++ rest → IsDateWord word → BeginsWithSeparator rest
    → All IsVisible (take len (drop 1 text)) → (len < length (drop 1 text) → IsVisible (get_or (drop 1 text) len 0) → ⊥)
    → len ≤ length (drop 1 text) → IsWrong (drop 1 text) len → ⊥
no_date text word rest len is valid next all stops within wrong =
    let after : drop 1 text ≡ word ++ rest = ap (drop 1) is in
    wrong_word (drop 1 text) word rest len after valid next
    (word_long (drop 1 text) word rest len after valid.visible next all stops within) wrong

-- if the visible bytes after a `@` make no date, the text begins with no mark
pub no_mark : (text : List ℕ) (len : ℕ) → text ≡ 64 ∷ drop 1 text → All IsVisible (take len (drop 1 text))
    → (len < length (drop 1 text) → IsVisible (get_or (drop 1 text) len 0) → ⊥) → len ≤ length (drop 1 text)
    → IsWrong (drop 1 text) len → NoMarkBegins text
no_mark text len is all stops within wrong (HeardChar character) rest never = never
no_mark text len is all stops within wrong Silence rest begins = not_date text rest (drop 1 text) begins is
no_mark text len is all stops within wrong (Date word) rest (valid, also, next) =
    no_date text word rest len also valid next all stops within wrong
