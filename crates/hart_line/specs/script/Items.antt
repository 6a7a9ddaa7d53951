-- Words of hex items, end to end (implementation choice).
use Rattle.std.specs.Prelude.{◌≡◌, ◌≢◌, ℕ, List, [], map}
use Rattle.std.specs.List.{AllByRecursion, flat_map}
use Rattle.hart_line.specs.Types.{Character}
use Rattle.hart_text.specs.Item.{IsValidItem, Item, item_meaning, item_spelling}

-- A word consists of valid items, one after another, that mean these characters.
pub record AreItems (word : List ℕ) (chars : List Character) : Type 0 where
  pub items : List Item
  pub valid : AllByRecursion IsValidItem items
  pub spelled : word ≡ flat_map item_spelling items
  pub means : chars ≡ map item_meaning items

-- A word is not empty, and consists of valid items, one after another, that mean these characters.
abbrev pub IsItemsWord : List ℕ → List Character → Type 0
IsItemsWord word chars = (word ≢ []) × AreItems word chars
