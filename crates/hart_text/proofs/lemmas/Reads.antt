-- What follows from the laws of a way to read texts: a text reads in only one way.
use Rattle.std.proofs.Common.{◌≡◌, ◌≢◌, ◌≤◌, ◌+◌, ◌∙◌, ℕ, List, [], ◌∷◌, ◌++◌, length, refl, sym, ap, arith, append-nil, length-append}
use Rattle.std.proofs.lemmas.Grind.{common_steps}
use Rattle.hart_text.specs.Items.{HasBadHexBy, MayBegin, NoPieceBegins, Opens, ReadsSoFarBy, Separator}

-- the laws of a way to read texts: more text does not change what was read; a reading goes on from its rest, and in one way; a
-- reading stops only where no piece begins, and reads nothing there
pub record Laws {Heard : Type 0} (Reads : List ℕ → List Heard → List ℕ → Type 0) (Stops : List ℕ → Type 0) : Type 0 where
  pub more : (text : List ℕ) (heard : List Heard) (rest more : List ℕ) → Reads text heard rest → Reads (text ++ more) heard (rest ++ more)
  pub on : (text : List ℕ) (xs : List Heard) (rest : List ℕ) (ys : List Heard) (last : List ℕ) → Reads text xs rest → Reads rest ys last
      → Reads text (xs ++ ys) last
  pub goes_on : (text : List ℕ) (xs : List Heard) (rest : List ℕ) (ys : List Heard) (last : List ℕ) → Reads text xs rest
      → Reads text ys last → Stops last → (between : List Heard) × Reads rest between last × (ys ≡ xs ++ between)
  pub stays : (rest : List ℕ) (heard : List Heard) (last : List ℕ) → Reads rest heard last → Stops rest → (heard ≡ []) × (rest ≡ last)
  pub shorter : (text : List ℕ) (heard : List Heard) (rest : List ℕ) → Reads text heard rest → length rest ≤ length text
  pub still : (text : List ℕ) (heard : List Heard) (rest : List ℕ) → Reads text heard rest → length rest ≡ length text → rest ≡ text
  pub none : Stops []
  pub pieces : (text : List ℕ) → Stops text → NoPieceBegins text
  pub decided : (rest more : List ℕ) → Stops rest → (Opens Stops rest → ⊥) → Stops (rest ++ more)

-- a piece may begin at the end of a text
pub may_begin-nil : MayBegin []
may_begin-nil = record { more = 32 ∷ []; piece = Separator 32; tail = []; begins = grind (arith, common_steps) }

module _ {Heard : Type 0} (Reads : List ℕ → List Heard → List ℕ → Type 0) (Stops : List ℕ → Type 0) (laws : Laws Reads Stops) where
  -- where a piece may begin, a text is open
  pub may_open : (text : List ℕ) → MayBegin text → Opens Stops text
  may_open text may = record {
    more = may.more;
    goes_on = λ stops. laws.pieces (text ++ may.more) stops may.piece may.tail may.begins;
  }

  -- a rest that is not open is not empty, whatever follows it
  some_rest : (rest more : List ℕ) → (Opens Stops rest → ⊥) → rest ++ more ≢ []
  some_rest [] more none = absurd (none (may_open [] may_begin-nil))
  some_rest (byte ∷ rest) more none = λ is. absurd cc

  -- a text reads in one way up to where it stops
  pub one_way : (text : List ℕ) (xs : List Heard) (rest : List ℕ) (ys : List Heard) (last : List ℕ) → Reads text xs rest
      → Reads text ys last → Stops rest → Stops last → (xs ≡ ys) × (rest ≡ last)
  one_way text xs rest ys last h k n m =
      let (between, reads, split) = laws.goes_on text xs rest ys last h k m in
      let stay = laws.stays rest between last reads n in
      let same : xs ++ between ≡ xs = rw (stay.0, append-nil) refl in
      (sym (split ∙ same), stay.1)

  -- a text has bad hex at no more than one place, after one list of things heard
  pub one_bad : (text : List ℕ) (xs ys : List Heard) (p q : ℕ) → HasBadHexBy Reads Stops text xs p → HasBadHexBy Reads Stops text ys q
      → (xs ≡ ys) × (p ≡ q)
  one_bad text xs ys p q h k =
      let same = one_way text xs h.rest ys k.rest h.reads k.reads h.no_piece k.no_piece in
      (same.0, omega (arith, h.begins, k.begins, ap length same.1))

  -- a text with bad hex does not read to its end
  pub not_read : (text : List ℕ) (xs ys : List Heard) (p : ℕ) → Reads text xs [] → HasBadHexBy Reads Stops text ys p → ⊥
  not_read text xs ys p h k =
      let same = one_way text xs [] ys k.rest h k.reads laws.none k.no_piece in
      k.more (sym same.1)

  -- a text that has bad hex whatever follows has it if nothing follows
  pub now_bad : (text : List ℕ) (heard : List Heard) (place : ℕ) → ((more : List ℕ) → HasBadHexBy Reads Stops (text ++ more) heard place)
      → HasBadHexBy Reads Stops text heard place
  now_bad text heard place h = rw append-nil at (h [])

  -- a text whose rest is open has no decided bad hex
  pub not_decided : (text : List ℕ) (xs ys : List Heard) (place : ℕ) → ReadsSoFarBy Reads Stops text xs
      → ((more : List ℕ) → HasBadHexBy Reads Stops (text ++ more) ys place) → ⊥
  not_decided text xs ys place h k =
      let now = now_bad text ys place k in
      let same = one_way text xs h.rest ys now.rest h.reads now.reads h.no_piece now.no_piece in
      let more = h.open_end.more in
      let later = k more in
      let first = laws.more text xs h.rest more h.reads in
      let (between, reads, split) = laws.goes_on (text ++ more) xs (h.rest ++ more) ys later.rest first later.reads later.no_piece in
      let long : length later.rest ≡ length (h.rest ++ more) =
      omega (arith, now.begins, later.begins, length-append text more, length-append h.rest more, ap length same.1) in
      let still = laws.still (h.rest ++ more) between later.rest reads long in
      h.open_end.goes_on (rw still at later.no_piece)

  -- bad hex is decided if the rest is not open
  pub decided_rest : (text : List ℕ) (heard : List Heard) (rest : List ℕ) (place : ℕ) → Reads text heard rest
      → place + length rest ≡ length text → Stops rest → (Opens Stops rest → ⊥)
      → (more : List ℕ) → HasBadHexBy Reads Stops (text ++ more) heard place
  decided_rest text heard rest place reads placed stops none more = record {
    rest = rest ++ more;
    reads = laws.more text heard rest more reads;
    begins = omega (arith, placed, length-append text more, length-append rest more);
    more = some_rest rest more none;
    no_piece = laws.decided rest more stops none;
  }
