-- Texts of items: a text reads in one way, and what follows a text does not change what was read.
use Rattle.std.proofs.Common.{◌≡◌, ◌≢◌, ℕ, ◌+◌, ◌-◌, ◌*◌, ◌<◌, ◌≤◌, Option, Some, refl, arith, List, [], ◌∷◌, ◌++◌, length, drop}
use Rattle.std.proofs.Common.{append-nil, append_assoc, ap, get_or, length-append}
use Rattle.std.proofs.lemmas.Grind.{common_steps}
use Rattle.std.proofs.lemmas.List.{drop-drop, take_rest}
use Rattle.std.specs.Option.{option_to_list}
use Rattle.hart_frame.specs.heard.Character.{Character, faultless}
use Rattle.hart_text.specs.Digits.{AreDigitsOf}
use Rattle.hart_text.specs.Item.{Plain}
use Rattle.hart_text.specs.Items.{BeginsAs, BeginsWith, HasBadHex, Item, NoFaultlessBegins, NoPieceBegins, nothing, Piece, piece, ReadsUpTo}
use Rattle.hart_text.specs.Items.{spelling}
use Rattle.hart_text.proofs.lemmas.Reads.{Laws, not_read, one_bad}

-- if two pieces begin the same text, they are the same piece
same_piece : (text : List ℕ) (p q : Piece) (s t : List ℕ) → BeginsWith text p s → BeginsWith text q t → (p ≡ q) × (s ≡ t)
same_piece text p q s t h k = grind (arith, common_steps)

-- the only character of a list of faultless characters has no fault bits
one_faultless : (char : Character) (bytes : List ℕ) → char ∷ [] ≡ faultless bytes → char.faults ≡ 0
one_faultless char [] is = cc
one_faultless char (byte ∷ bytes) is = cc

-- a text that begins with a character with fault bits begins with no piece without fault bits
pub damaged_stops : (text : List ℕ) (char : Character) (len : ℕ) → BeginsAs text (Some char) len → char.faults ≢ 0 → NoFaultlessBegins text
damaged_stops text char len leads damaged = λ piece tail bytes begins is.
    let same = same_piece text leads.piece piece leads.tail tail leads.begins begins in
    damaged (one_faultless char bytes (grind (arith, same, leads.means, is)))

-- a text begins with its piece, whatever follows
BeginsWith-more : (text tail more : List ℕ) (p : Piece) → BeginsWith text p tail → BeginsWith (text ++ more) p (tail ++ more)
BeginsWith-more text [] more p h = grind (arith, append_assoc)
BeginsWith-more text (n ∷ tail) more p h = grind (arith, append_assoc)

-- a text reads in the same way up to its rest, whatever follows
pub ReadsUpTo-more : (text : List ℕ) (chars : List Character) (rest more : List ℕ) → ReadsUpTo text chars rest
    → ReadsUpTo (text ++ more) chars (rest ++ more)
ReadsUpTo-more _ _ _ more (nothing rest) = nothing (rest ++ more)
ReadsUpTo-more _ _ _ more (piece text first tail chars rest h r) =
    search (piece, BeginsWith-more, ReadsUpTo-more tail chars rest more r)

-- a text that reads up to a rest reads as what was read before the rest, followed by what the rest reads as
pub ReadsUpTo-on : (text : List ℕ) (xs : List Character) (rest : List ℕ) (ys : List Character) (last : List ℕ) → ReadsUpTo text xs rest
    → ReadsUpTo rest ys last → ReadsUpTo text (xs ++ ys) last
ReadsUpTo-on _ _ _ ys last (nothing rest) k = k
ReadsUpTo-on _ _ _ ys last (piece text first tail chars rest h r) k =
    search (append_assoc, piece, ReadsUpTo-on tail chars rest ys last r k)

-- one reading of a text continues another one, which leaves more of the text
pub record GoesOn (xs : List Character) (rest : List ℕ) (ys : List Character) (last : List ℕ) : Type 0 where
  pub between : List Character
  pub reads : ReadsUpTo rest between last
  pub chars : ys ≡ xs ++ between

-- if a reading stops where no piece begins, it continues every other reading of the text
pub goes_on : (text : List ℕ) (xs : List Character) (rest : List ℕ) (ys : List Character) (last : List ℕ) → ReadsUpTo text xs rest
    → ReadsUpTo text ys last → NoPieceBegins last → GoesOn xs rest ys last
goes_on _ _ _ ys last (nothing rest) k n = record { between = ys; reads = k; chars = refl }
goes_on _ _ _ _ _ (piece text p s cs rest h r) (nothing last) n = absurd (n p s h)
goes_on _ _ _ _ _ (piece text p s cs rest h r) (piece _ q t ds last k l) n =
    let same = same_piece text p q s t h k in grind (arith, append_assoc, goes_on s cs rest ds last r (rw (← same.1) at l) n)

-- nothing is read if no piece begins
pub stays : (rest : List ℕ) (chars : List Character) (last : List ℕ) → ReadsUpTo rest chars last → NoPieceBegins rest
    → (chars ≡ []) × (rest ≡ last)
stays rest chars last h k = grind (arith, common_steps)

-- a text can be read in only one way up to where no piece begins
pub one_reading : (text : List ℕ) (xs : List Character) (rest : List ℕ) (ys : List Character) (last : List ℕ) → ReadsUpTo text xs rest
    → ReadsUpTo text ys last → NoPieceBegins rest → NoPieceBegins last → (xs ≡ ys) × (rest ≡ last)
one_reading text xs rest ys last h k n m = grind (arith, append-nil, goes_on, stays)

-- a piece has at least one byte
pub spelling-length : (p : Piece) → 0 < length (spelling p)
spelling-length p = grind (arith, common_steps)

-- no piece begins at the end of a text
pub NoPieceBegins-nil : NoPieceBegins []
NoPieceBegins-nil p tail h = grind (arith, common_steps)

-- a text that begins with a piece reads as the character of that piece, up to the rest
pub begins_reads : (text : List ℕ) (char : Option Character) (len : ℕ) → BeginsAs text char len
    → (0 < len) × (len ≤ length text) × ReadsUpTo text (option_to_list char) (drop len text)
begins_reads text char len b =
    let read = piece text b.piece b.tail [] b.tail b.begins (nothing b.tail) in grind (arith, common_steps)

-- a text has at least two bytes before its rest for each character
pub ReadsUpTo-few : (text : List ℕ) (chars : List Character) (rest : List ℕ) → ReadsUpTo text chars rest
    → 2 * length chars + length rest ≤ length text
ReadsUpTo-few _ _ _ (nothing rest) = omega arith
ReadsUpTo-few _ _ _ (piece text p tail chars rest h r) = grind (arith, common_steps, ReadsUpTo-few tail chars rest r)

-- the last byte of a text belongs to no item, and each item has at least two bytes
pub ReadsUpTo-room : (text : List ℕ) (chars : List Character) (rest : List ℕ) → ReadsUpTo text chars rest
    → 2 * length chars ≤ length text - 1
ReadsUpTo-room _ _ _ (nothing rest) = omega arith
ReadsUpTo-room _ _ _ (piece text p tail chars rest h r) = grind (arith, common_steps, ReadsUpTo-room tail chars rest r)

-- room for one character per two bytes before the last byte is enough
pub room_for : (text : List ℕ) (chars : List Character) (rest : List ℕ) (room : ℕ) → ReadsUpTo text chars rest
    → length text ≤ 2 * room + 2 → length chars ≤ room
room_for text chars rest room reads long = omega (arith, long, ReadsUpTo-room text chars rest reads)

-- reading the rest of a text continues what was read before the rest
pub reads_on : (text : List ℕ) (place len : ℕ) (chars more : List Character) (part : List ℕ) → part ≡ drop place text
    → ReadsUpTo text chars (drop place text) → ReadsUpTo part more (drop len part)
    → ReadsUpTo text (chars ++ more) (drop (place + len) text)
reads_on text place len chars more part is reads later =
    let rest : drop len part ≡ drop (place + len) text = rw is (drop-drop len place text) in
    ReadsUpTo-on text chars (drop place text) more (drop (place + len) text) reads (rw (← is, ← rest) later)

-- a reading whose rest is as long as the text has read nothing
still : (text : List ℕ) (chars : List Character) (rest : List ℕ) → ReadsUpTo text chars rest → length rest ≡ length text → rest ≡ text
still _ _ _ (nothing rest) long = refl
still _ _ _ (piece text p tail chars rest h r) long =
    absurd (omega (arith, long, ap length h.spelled, length-append (spelling p) tail, spelling-length p, ReadsUpTo-few tail chars rest r))

-- reading texts of items obeys the laws of `Laws`
pub item_laws : Laws ReadsUpTo NoPieceBegins
item_laws = record {
  more = ReadsUpTo-more;
  on = ReadsUpTo-on;
  goes_on = λ text xs rest ys last h k n. let on = goes_on text xs rest ys last h k n in (on.between, on.reads, on.chars);
  stays = stays;
  shorter = λ text chars rest h. omega (arith, ReadsUpTo-few text chars rest h);
  still = still;
  none = NoPieceBegins-nil;
  pieces = λ text stops. stops;
  decided = λ rest more stops none p tail begins. none (record { more = more; goes_on = λ other. other p tail begins });
}

-- a text has bad hex at no more than one place, after one list of characters
pub one_place : (text : List ℕ) (xs ys : List Character) (p q : ℕ) → HasBadHex text xs p → HasBadHex text ys q → (xs ≡ ys) × (p ≡ q)
one_place = one_bad ReadsUpTo NoPieceBegins item_laws

-- a text with bad hex does not read to its end
pub not_both : (text : List ℕ) (xs ys : List Character) (p : ℕ) → ReadsUpTo text xs [] → HasBadHex text ys p → ⊥
not_both = not_read ReadsUpTo NoPieceBegins item_laws

-- the rules for the items of a text that are read one after another
pub ruleset one_after_another = (common_steps, ReadsUpTo-on, ReadsUpTo-few, nothing, take_rest)

-- a text that begins with two digits, without a `!` after them, begins with a faultless character
pub begins_faultless : (text : List ℕ) (byte : ℕ) → 3 ≤ length text → get_or text 2 0 ≢ 33
    → AreDigitsOf byte (get_or text 0 0) (get_or text 1 0) → BeginsAs text (Some (record { byte = byte; faults = 0 })) 2
begins_faultless text byte long none digits =
    let begins : BeginsWith text (Item (Plain (get_or text 0 0) (get_or text 1 0))) (drop 2 text) = grind (arith, common_steps) in
    grind arith
