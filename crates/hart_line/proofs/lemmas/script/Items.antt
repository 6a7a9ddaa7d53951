-- Texts that consist of items, end to end.
use Rattle.hart_line.proofs.Common.{Faulty, ◌≡◌, ◌≢◌, ℕ, List, [], ◌∷◌, ◌++◌, map, IsTrue}
use Rattle.hart_line.proofs.Common.{refl, arith, ap, common_steps, AllByRecursion, flat_map, Character, append-nil, append_assoc}
use Rattle.hart_line.proofs.Common.{AreItems, BeginsWithItem, EndsBefore, IsValidItem, Item, item_meaning, item_spelling, Plain}
use Rattle.hex.specs.Hex.{is_hex_digit}

-- What items spell does not begin with a `!`.
items_end : (item : Item) (items : List Item) → AllByRecursion IsValidItem items → EndsBefore (flat_map item_spelling items) item
items_end (Faulty high low fault_high fault_low) items valid = tt
items_end (Plain high low) [] valid = tt
items_end (Plain high low) (Plain a b ∷ items) valid = grind arith
items_end (Plain high low) (Faulty a b c d ∷ items) valid = grind arith

-- A text begins with at most one item.
begins_one : (text : List ℕ) (item other : Item) (tail rest : List ℕ) → BeginsWithItem text item tail → BeginsWithItem text other rest
    → (item ≡ other) × (tail ≡ rest)
begins_one text item other tail rest a b = grind arith

-- A nonempty text of items begins with the first of these items.
first_begins : (text : List ℕ) (item : Item) (items : List Item) → text ≡ flat_map item_spelling (item ∷ items)
    → AllByRecursion IsValidItem (item ∷ items) → BeginsWithItem text item (flat_map item_spelling items)
first_begins text item items spelled valid = record { valid = valid.0; spelled = spelled; ends = items_end item items valid.1 }

-- So two valid lists of items that are written alike are equal.
items_one : (xs ys : List Item) → AllByRecursion IsValidItem xs → AllByRecursion IsValidItem ys
    → flat_map item_spelling xs ≡ flat_map item_spelling ys → xs ≡ ys
items_one [] [] v w same = refl
items_one (x ∷ xs) (y ∷ ys) v w same =
    let first = begins_one _ x y _ _ (first_begins _ x xs refl v) (first_begins _ y ys same w) in
    let others = items_one xs ys v.1 w.1 first.1 in cc
items_one xs ys v w same = absurd (grind arith)

pub words_have_one_value-items : (word : List ℕ) (xs ys : List Character) → AreItems word xs → AreItems word ys → xs ≡ ys
words_have_one_value-items word xs ys a b =
    let same = items_one a.items b.items a.valid b.valid (grind arith) in grind arith

-- A text is read up to a rest: its characters are `chars`, followed by the characters of the rest.
pub record ReadsTo (text : List ℕ) (chars : List Character) (rest : List ℕ) : Type 0 where
  pub on : (more : List Character) → AreItems rest more → AreItems text (chars ++ more)
  pub back : (all : List Character) → AreItems text all → (more : List Character) × AreItems rest more × (all ≡ chars ++ more)

pub reads_nothing : (text : List ℕ) → ReadsTo text [] text
reads_nothing text = record { on = λ more are. are; back = λ all are. (all, are, refl) }

-- A text that is read to its end has just these characters.
pub reads_all : (text : List ℕ) (chars : List Character) → ReadsTo text chars [] → AreItems text chars
reads_all text chars reads =
    rw append-nil at (reads.on [] (record { items = []; valid = tt; spelled = refl; means = refl }))

-- If a text of items begins with an item, its characters are that of this item, followed by those of the text after the item.
pub after_item : (rest : List ℕ) (item : Item) (tail : List ℕ) (all : List Character) → BeginsWithItem rest item tail → AreItems rest all
    → (more : List Character) × AreItems tail more × (all ≡ item_meaning item ∷ more)
after_item rest item tail all begins are = after are.items are.valid are.spelled are.means
  where
    after : (items : List Item) → AllByRecursion IsValidItem items → rest ≡ flat_map item_spelling items → all ≡ map item_meaning items
        → (more : List Character) × AreItems tail more × (all ≡ item_meaning item ∷ more)
    after [] valid spelled means = absurd (grind (arith, begins.spelled))
    after (first ∷ items) valid spelled means =
        let same = begins_one rest item first tail _ begins (first_begins rest first items spelled valid) in
        (map item_meaning items, record { items = items; valid = valid.1; spelled = same.1; means = refl }, cc)

-- If a text begins with an item and the rest consists of items, the whole text consists of items.
pub before_items : (text : List ℕ) (item : Item) (tail : List ℕ) (more : List Character) → BeginsWithItem text item tail
    → AreItems tail more → AreItems text (item_meaning item ∷ more)
before_items text item tail more begins are = record {
  items = item ∷ are.items;
  valid = (begins.valid, are.valid);
  spelled = grind (arith, begins.spelled, are.spelled);
  means = ap (λ others. item_meaning item ∷ others) are.means;
}

pub reads_item : (text : List ℕ) (chars : List Character) (rest : List ℕ) (item : Item) (tail : List ℕ) → ReadsTo text chars rest
    → BeginsWithItem rest item tail → ReadsTo text (chars ++ item_meaning item ∷ []) tail
reads_item text chars rest item tail reads begins = record {
  on = λ more are. rw (append_assoc chars (item_meaning item ∷ []) more)
      (reads.on (item_meaning item ∷ more) (before_items rest item tail more begins are));
  back = λ all are.
      let (read, are_read, is) = reads.back all are in
      let (more, are_more, same) = after_item rest item tail read begins are_read in
      (more, are_more, grind (arith, common_steps, append_assoc));
}

-- A nonempty text of items begins with an item.
pub items_begin : (text : List ℕ) (chars : List Character) → text ≢ [] → AreItems text chars
    → (item : Item) × (tail : List ℕ) × BeginsWithItem text item tail
items_begin text chars some are = begin are.items are.valid are.spelled
  where
    begin : (items : List Item) → AllByRecursion IsValidItem items → text ≡ flat_map item_spelling items
        → (item : Item) × (tail : List ℕ) × BeginsWithItem text item tail
    begin [] valid spelled = absurd (some spelled)
    begin (item ∷ items) valid spelled = (item, flat_map item_spelling items, first_begins text item items spelled valid)

-- So a word of items begins with a digit.
pub items_begin_with_digit : (byte : ℕ) (word : List ℕ) (chars : List Character) → AreItems (byte ∷ word) chars → IsTrue (is_hex_digit byte)
items_begin_with_digit byte word chars are =
    let (item, tail, begins) = items_begin (byte ∷ word) chars (λ is. cc) are in grind arith
