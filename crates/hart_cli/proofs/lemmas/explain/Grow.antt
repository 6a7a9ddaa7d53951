-- What was heard has only one text in each style, and what was written of it stays.
use Rattle.std.proofs.Common.{◌≡◌, ◌++◌, ◌∙◌, ℕ, Bool, true, false, [], List, Option, ap, append-nil, refl, sym}
use Rattle.std.proofs.lemmas.Grind.{flat_map-append}
use Rattle.std.proofs.lemmas.List.{map-append}
use Rattle.std.specs.List.{flat_map}
use Rattle.hart_frame.specs.heard.Character.{faultless}
use Rattle.hart_text.specs.Heard.{Heard, NothingBegins, ReadsHeard, heard_chars}
use Rattle.hart_text.proofs.lemmas.Heard.{chars_on, heard_laws}
use Rattle.hart_listen.specs.Preambles.{told_of}
use Rattle.hart_listen.proofs.lemmas.Laws.{heard_sightings_are_unambiguous-decided, heard_sightings_are_unambiguous-one}
use Rattle.hart_listen.proofs.lemmas.Laws.{heard_sightings_are_unambiguous-some, told_sightings_stay}
use Rattle.hart_cli.specs.declared.calls.explain.printer.Style.{Style}
use Rattle.hart_cli.specs.declared.fault.CliFault.{CliFault}
use Rattle.hart_cli.specs.explain.Explanation.{IsDecidedIn, IsExplanation, IsTextIn, decoding_of, text_in, text_of}
use Rattle.hart_cli.specs.input.Input.{Ending}
use Rattle.hart_cli.specs.input.LiveInput.{IsDecidedText}
use Rattle.hart_cli.proofs.lemmas.input.Decoded.{one_raw_input, raw_chars}
use Rattle.hart_cli.proofs.lemmas.input.Reads.{grows, one_hearing}

-- what was heard has only one text in each style
pub one_text : (style : Style) (xs ys : List Heard) (a b : List ℕ) → xs ≡ ys → IsTextIn style xs a → IsTextIn style ys b → a ≡ b
one_text style xs ys a b same p q =
    let seen = heard_sightings_are_unambiguous-one ys p.seen q.seen (rw same at p.are_sightings) q.are_sightings in
    let texts = ap (λ heard. text_in style heard p.seen) same in
    p.text_is ∙ (texts ∙ (ap (text_in style ys) seen ∙ sym q.text_is))

-- an input has only one fault and one list of what was heard
pub one_heard : (is_raw : Bool) (input : List ℕ) (ending : Ending) (xs ys : List Heard) (f g : Option CliFault)
    → (decoding_of is_raw).Has input ending xs f → (decoding_of is_raw).Has input ending ys g → (xs ≡ ys) × (f ≡ g)
one_heard true input ending xs ys f g p q = one_raw_input input ending xs ys f g p q
one_heard false input ending xs ys f g p q = one_hearing ReadsHeard NothingBegins heard_laws input ending xs ys f g p q

-- what was heard decides only one text in each style
pub decided_text : (style : Style) (heard : List Heard) (xs ys : List ℕ) → IsDecidedIn style heard xs → IsDecidedIn style heard ys
    → xs ≡ ys
decided_text style heard xs ys a b =
    let seen = heard_sightings_are_unambiguous-decided heard a.seen b.seen a.decided b.decided in
    a.text_is ∙ (ap (text_in style heard) seen ∙ sym b.text_is)

-- whatever is heard next, the text decided so far is a prefix of the whole text
pub heard_grows : (style : Style) (heard more : List Heard) (text whole : List ℕ) → IsDecidedIn style heard text
    → IsTextIn style (heard ++ more) whole → (rest : List ℕ) × (whole ≡ text ++ rest)
heard_grows style heard more text whole decided is =
    let (rest, grown) = told_sightings_stay heard more decided.seen is.seen decided.decided is.are_sightings in
    let begins = flat_map-append (text_of style) (told_of heard decided.seen) rest in
    let after = flat_map (text_of style) rest in
    (after, is.text_is ∙ (ap (flat_map (text_of style)) grown ∙ (begins ∙ ap (λ xs. xs ++ after) (sym decided.text_is))))

pub read_grows : (style : Style) (is_raw : Bool) (input more : List ℕ) (ending : Ending) (fault : Option CliFault) (text whole : List ℕ)
    → IsDecidedText (decoding_of is_raw) (IsDecidedIn style) input text
    → IsExplanation style is_raw (input ++ more) ending fault whole → (rest : List ℕ) × (whole ≡ text ++ rest)
read_grows style true input more ending fault text whole decided is =
    let all : is.heard ≡ heard_chars (faultless input) ++ heard_chars (faultless more) =
    raw_chars (input ++ more) ending is.heard fault is.has
    ∙ (ap heard_chars (map-append _ input more) ∙ chars_on (faultless input) (faultless more)) in
    heard_grows style (heard_chars (faultless input)) (heard_chars (faultless more)) text whole
    (rw decided.reads at decided.decided) (rw all at is.is_text)
read_grows style false input more ending fault text whole decided is =
    let (between, grown) = grows ReadsHeard NothingBegins heard_laws input more ending decided.heard is.heard fault decided.reads.rest
    decided.reads.reads is.has in
    heard_grows style decided.heard between text whole decided.decided (rw grown at is.is_text)

-- the decided text is a prefix of the text of all that was heard
pub begins_text : (style : Style) (heard : List Heard) (text : List ℕ) → IsDecidedIn style heard text
    → (rest : List ℕ) × IsTextIn style heard (text ++ rest)
begins_text style heard text decided =
    let (seen, are) = heard_sightings_are_unambiguous-some heard in
    let whole : IsTextIn style heard (text_in style heard seen) = record { seen = seen; are_sightings = are; text_is = refl } in
    let (rest, is) = heard_grows style heard [] text (text_in style heard seen) decided (rw append-nil whole) in
    (rest, rw is at whole)
