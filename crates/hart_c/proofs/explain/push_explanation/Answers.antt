use Rattle.std.proofs.Common.{◌≡◌, ◌≢◌, ◌≤◌, ◌∙◌, ◌==◌, ℕ, false, true, List, [], arith, length, refl}
use Rattle.std.proofs.lemmas.Bool.Decides.{nat_tests}
use Rattle.hart_frame.specs.declared.heard.found.Found.{Found}
use Rattle.hart_frame.specs.heard.{Frames.moved, Sighting.Message, Sighting.moved_seen}
use Rattle.hart_frame.specs.wire.View.{parts_of}
use Rattle.hart_explain.specs.{Sighting.json_line, Sighting.seen_text, Text.extended}
use Rattle.hart_explain.proofs.lemmas.Laws.{texts_keep_what_fits}
use Rattle.hart_c.specs.Explain.{explained, nothing_before}
use Rattle.hart_c.proofs.explain.push_explanation.Goals as goal

-- an empty text keeps all of an explanation
kept : (old new text : List ℕ) → old ≡ [] → new ≡ extended old text → length text ≤ 16384 → new ≡ text
kept old new text none is few = (rw none at is) ∙ texts_keep_what_fits [] text (omega (arith, few))

-- places that are counted from 0 stay the same
moved_none : (found : Found) → moved 0 found ≡ found
moved_none found = grind arith

in_words : (style : ℕ) (found : Found) → style ≡ 0 → seen_text nothing_before (moved_seen 0 (Message found)) ≡ explained style found
in_words style found is =
    let words : (style == 0) ≡ true = grind (arith, nat_tests) in rw (moved_none found, words) refl

in_json : (style : ℕ) (found : Found) → style ≢ 0
    → json_line [] nothing_before (moved_seen 0 (Message found)) ≡ explained style found
in_json style found is =
    let other : (style == 0) ≡ false = grind (arith, nat_tests) in rw (moved_none found, other) refl

pub returns-then-style-eq-HART_WORDS-clause-text : goal.returns-then-style-eq-HART_WORDS-clause-text
returns-then-style-eq-HART_WORDS-clause-text c =
    let found : Found = record { start = c.args.start; stop = c.args.stop; frame = parts_of c.args.frame } in
    let few = c.push_sighting.ensures.few (omega arith) in
    kept _ _ (seen_text nothing_before (moved_seen 0 (Message found))) c.requires c.push_sighting.ensures.words few
    ∙ in_words c.args.style found c.if-style-eq-HART_WORDS.true

pub returns-then-style-eq-HART_WORDS-clause-few : goal.returns-then-style-eq-HART_WORDS-clause-few
returns-then-style-eq-HART_WORDS-clause-few c =
    let few = c.push_sighting.ensures.few (omega arith) in rw (kept _ _ _ c.requires c.push_sighting.ensures.words few) few

pub returns-else-style-eq-HART_WORDS-clause-text : goal.returns-else-style-eq-HART_WORDS-clause-text
returns-else-style-eq-HART_WORDS-clause-text c =
    let found : Found = record { start = c.args.start; stop = c.args.stop; frame = parts_of c.args.frame } in
    let few = c.push_line.ensures.few (omega arith) in
    kept _ _ (json_line [] nothing_before (moved_seen 0 (Message found))) c.requires c.push_line.ensures.line few
    ∙ in_json c.args.style found c.if-style-eq-HART_WORDS.false

pub returns-else-style-eq-HART_WORDS-clause-few : goal.returns-else-style-eq-HART_WORDS-clause-few
returns-else-style-eq-HART_WORDS-clause-few c =
    let few = c.push_line.ensures.few (omega arith) in rw (kept _ _ _ c.requires c.push_line.ensures.line few) few
