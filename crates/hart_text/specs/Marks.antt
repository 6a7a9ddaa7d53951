-- The mark at the start of a text (implementation choice).
use Rattle.std.specs.Prelude.{◌≡◌, ◌≤◌, ◌+◌, ℕ, List, ◌∷◌, All, drop, length, take}
use Rattle.hart_text.specs.declared.marks.Mark.{Mark}
use Rattle.hart_text.specs.declared.marks.Mark.TheVariants as given
use Rattle.hart_text.specs.Heard.{BeginsWithMark, Date, Heard, IsVisible, Silence}

-- What a mark at the start of a text says: a silence, or a date with its word.
abbrev pub heard_mark : List ℕ → Mark → Heard
heard_mark text given.Silence = Silence
heard_mark text (given.Date len) = Date (take len (drop 1 text))

-- The number of bytes of a mark.
abbrev pub mark_length : Mark → ℕ
mark_length given.Silence = 1
mark_length (given.Date len) = 1 + len

-- A text begins with this mark.
abbrev pub HasMark : List ℕ → Mark → Type 0
HasMark text mark = BeginsWithMark text (heard_mark text mark) (drop (mark_length mark) text)

-- Only private calls use the next definition. A text is a `@` and at most 32 visible bytes.
pub record MayBeginDate (text : List ℕ) : Type 0 where
  pub word : List ℕ
  pub text_is : text ≡ 64 ∷ word
  pub few : length word ≤ 32
  pub visible : All IsVisible word
