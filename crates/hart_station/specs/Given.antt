-- The fields of a request have the values that the words give (implementation choice).
use Rattle.std.specs.Prelude.{◌≡◌, ◌<◌, ℕ, List, [], ◌∷◌, Ok, get_or, length}
use Rattle.hart_commands.specs.Fields.{Field, Row}
use Rattle.hart_request.specs.Fields.{place_for, value_in}
use Rattle.hart_request.specs.Values.{value_of}

-- A field has the name, its words and the kind of its row, and the bytes of the value in the field's word.
pub record IsGiven (words : List (List ℕ)) (row : Row) (field : Field) : Type 0 where
  pub named : field.name ≡ row.name
  pub in_words : field.words ≡ row.words
  pub meant : field.kind ≡ row.kind
  pub given : place_for words row < length words
  pub value : value_of row.kind row.size (value_in (get_or words (place_for words row) [])) ≡ Ok field.bytes

-- There is one field for each row, in the order of the rows. A word gives the value of each field.
abbrev pub AreGiven : List (List ℕ) → List Row → List Field → Type 0
AreGiven words [] [] = Unit {0}
AreGiven words (row ∷ rows) (field ∷ fields) = IsGiven words row field × AreGiven words rows fields
AreGiven words _ _ = ⊥
