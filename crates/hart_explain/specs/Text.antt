-- Texts: what a text in memory keeps, and what one line is (implementation choice).
use Rattle.std.specs.Prelude.{◌≡◌, ◌≢◌, ◌-◌, ◌++◌, [], ◌∷◌, ℕ, All, List, length, take}

-- A text in memory after more bytes were appended. It has at most 32,768 bytes: it keeps what fits, and drops the rest.
unfoldable pub extended : List ℕ → List ℕ → List ℕ
extended text more = text ++ take (32768 - length text) more

-- A text is one line if it ends with a line feed and has no other.
pub record IsOneLine (text : List ℕ) : Type 0 where
  pub words : List ℕ
  pub ended : text ≡ words ++ 10 ∷ []
  pub unbroken : All (λ code. code ≢ 10) words
