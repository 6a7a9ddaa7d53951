-- An input reads in one way, whichever way to read texts with these laws is used.
use Rattle.std.proofs.Common.{◌≡◌, ℕ, List, [], ◌∷◌, ◌++◌, Option, Some, refl, ap}
use Rattle.std.proofs.Common.{append_assoc}
use Rattle.hart_text.specs.Items.{closed}
use Rattle.hart_text.proofs.lemmas.Reads.{Laws, not_decided, not_read, now_bad, one_bad, one_way}
use Rattle.hart_cli.specs.declared.fault.CliFault.{CliFault}
use Rattle.hart_cli.specs.declared.fault.CliFault.TheVariants.{BadHex}
use Rattle.hart_cli.specs.declared.input.InputEnd.{InputEnd}
use Rattle.hart_cli.specs.input.Input.{CameTo, Ending, Left}
use Rattle.hart_cli.specs.input.InputChars.{HasHeardBy, all, bad_hex, decided_bad_hex, failure, limit}

module _ {Heard : Type 0} (Reads : List ℕ → List Heard → List ℕ → Type 0) (Stops : List ℕ → Type 0) (laws : Laws Reads Stops) where
  -- two hearings of the same input agree: they heard the same, and have the same fault or none
  pub one_hearing : (text : List ℕ) (ending : Ending) (xs ys : List Heard) (f g : Option CliFault)
      → HasHeardBy Reads Stops text ending xs f → HasHeardBy Reads Stops text ending ys g → (xs ≡ ys) × (f ≡ g)
  one_hearing text _ _ _ _ _ (all xs h) (bad_hex ys q k) = absurd (not_read Reads Stops laws (closed text) xs ys q h k)
  one_hearing text _ _ _ _ _ (all xs h) (all ys k) = ((one_way Reads Stops laws (closed text) xs [] ys [] h k laws.none laws.none).0, refl)
  one_hearing text _ _ _ _ _ (bad_hex xs p h) (all ys k) = absurd (not_read Reads Stops laws (closed text) ys xs p k h)
  one_hearing text _ _ _ _ _ (bad_hex xs p h) (bad_hex ys q k) =
      let same = one_bad Reads Stops laws (closed text) xs ys p q h k in (same.0, ap (λ n. Some (BadHex n)) same.1)
  one_hearing text _ _ _ _ _ (decided_bad_hex xs p h) (decided_bad_hex ys q k) =
      let same = one_bad Reads Stops laws text xs ys p q (now_bad Reads Stops laws text xs p h) (now_bad Reads Stops laws text ys q k) in
      (same.0, ap (λ n. Some (BadHex n)) same.1)
  one_hearing text _ _ _ _ _ (failure xs h) (failure ys k) =
      ((one_way Reads Stops laws text xs h.rest ys k.rest h.reads k.reads h.no_piece k.no_piece).0, refl)
  one_hearing text _ _ _ _ _ (limit xs h) (limit ys k) =
      ((one_way Reads Stops laws text xs h.rest ys k.rest h.reads k.reads h.no_piece k.no_piece).0, refl)

  -- if an input is heard to its end, and also heard and left before its end, both give the same things and the same fault
  one_heard : (text : List ℕ) (end : InputEnd) (xs ys : List Heard) (f g : Option CliFault)
      → HasHeardBy Reads Stops text (CameTo end) xs f → HasHeardBy Reads Stops text Left ys g → (xs ≡ ys) × (f ≡ g)
  one_heard text _ _ _ _ _ (all xs h) (decided_bad_hex ys q k) = absurd (not_read Reads Stops laws (closed text) xs ys q h (k (32 ∷ [])))
  one_heard text _ _ _ _ _ (bad_hex xs p h) (decided_bad_hex ys q k) =
      let same = one_bad Reads Stops laws (closed text) xs ys p q h (k (32 ∷ [])) in (same.0, ap (λ n. Some (BadHex n)) same.1)
  one_heard text _ _ _ _ _ (failure xs h) (decided_bad_hex ys q k) = absurd (not_decided Reads Stops laws text xs ys q h k)
  one_heard text _ _ _ _ _ (limit xs h) (decided_bad_hex ys q k) = absurd (not_decided Reads Stops laws text xs ys q h k)

  -- if an input is heard, and also heard and left before its end, both give the same things and the same fault
  pub one_left : (text : List ℕ) (ending : Ending) (xs ys : List Heard) (f g : Option CliFault)
      → HasHeardBy Reads Stops text ending xs f → HasHeardBy Reads Stops text Left ys g → (xs ≡ ys) × (f ≡ g)
  one_left text Left xs ys f g h k = one_hearing text Left xs ys f g h k
  one_left text (CameTo end) xs ys f g h k = one_heard text end xs ys f g h k

  -- bad hex that is decided stays, whatever follows
  pub left_more : (input more : List ℕ) (heard : List Heard) (fault : Option CliFault) → HasHeardBy Reads Stops input Left heard fault
      → HasHeardBy Reads Stops (input ++ more) Left heard fault
  left_more input more _ _ (decided_bad_hex heard place k) =
      decided_bad_hex heard place (λ later. rw append_assoc (k (more ++ later)))

  -- what is heard begins with what the input reads as, whatever follows the input
  pub grows : (input more : List ℕ) (ending : Ending) (xs ys : List Heard) (fault : Option CliFault) (rest : List ℕ)
      → Reads input xs rest → HasHeardBy Reads Stops (input ++ more) ending ys fault → (between : List Heard) × (ys ≡ xs ++ between)
  grows input more _ xs _ _ rest reads (all ys h) =
      let first = laws.more _ xs _ (32 ∷ []) (laws.more input xs rest more reads) in
      let on = laws.goes_on (closed (input ++ more)) xs _ ys [] first h laws.none in (on.0, on.2)
  grows input more _ xs _ _ rest reads (bad_hex ys place h) =
      let first = laws.more _ xs _ (32 ∷ []) (laws.more input xs rest more reads) in
      let on = laws.goes_on (closed (input ++ more)) xs _ ys h.rest first h.reads h.no_piece in (on.0, on.2)
  grows input more _ xs _ _ rest reads (decided_bad_hex ys place h) =
      let now = now_bad Reads Stops laws (input ++ more) ys place h in
      let on = laws.goes_on (input ++ more) xs _ ys now.rest (laws.more input xs rest more reads) now.reads now.no_piece in (on.0, on.2)
  grows input more _ xs _ _ rest reads (failure ys h) =
      let on = laws.goes_on (input ++ more) xs _ ys h.rest (laws.more input xs rest more reads) h.reads h.no_piece in (on.0, on.2)
  grows input more _ xs _ _ rest reads (limit ys h) =
      let on = laws.goes_on (input ++ more) xs _ ys h.rest (laws.more input xs rest more reads) h.reads h.no_piece in (on.0, on.2)
