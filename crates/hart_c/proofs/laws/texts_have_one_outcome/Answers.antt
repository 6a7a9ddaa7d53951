use Rattle.std.proofs.Common.{◌≡◌, ℕ, List, arith, length, rules}
use Rattle.std.proofs.lemmas.Grind.{common_steps}
use Rattle.hart_values.specs.packed_text.Packing.{IsPacked}
use Rattle.hart_values.proofs.lemmas.Laws.{packed_text_and_bytes_determine_each_other-one_list}
use Rattle.hart_values.proofs.lemmas.Laws.{packed_text_and_bytes_determine_each_other-one_text}
use Rattle.hart_c.specs.Explain.{IsStyle, explain_checks, explained}
use Rattle.hart_c.specs.Faults.{AllPass}
use Rattle.hart_c.specs.Messages.{HasNoRoom, IsFrame, IsWritten}
use Rattle.hart_c.specs.Numbers.{found_in}
use Rattle.hart_c.specs.Texts.{pack_checks, unpack_checks}
use Rattle.hart_c.proofs.Checks.{AreSound, first_none, first_one, needs-sound, refused_if-sound}
use Rattle.hart_c.specs.declared.frame.HartFrame.{HartFrame}
use Rattle.hart_c.proofs.Marked.{one_unmarked}
use Rattle.hart_c.proofs.Checks.{one_outcome}
use Rattle.hart_c.proofs.laws.texts_have_one_outcome.Goals as goal

pub returns-clause-pack : goal.returns-clause-pack
returns-clause-pack c text before after other outcome another =
    let checks = pack_checks text (length before) in
    let sound : AreSound (pack_checks text (length before)) = search (rules, needs-sound) in
    one_outcome
    (λ is again. grind (arith, packed_text_and_bytes_determine_each_other-one_list _ after other is.1.2 again.1.2))
    (λ is why. first_none checks sound is.1.0 why.0 why.1)
    (λ why is. first_none checks sound is.1.0 why.0 why.1)
    (λ why again. grind (arith, first_one checks sound why.0 again.0))

-- packed bytes can be written as only one text
one_text : (packed old new newer : List ℕ) (len size : ℕ) → IsWritten (λ text. IsPacked text packed) old new len
    → IsWritten (λ text. IsPacked text packed) old newer size → (len ≡ size) × (new ≡ newer)
one_text packed old new newer len size is again =
    let same = packed_text_and_bytes_determine_each_other-one_text is.0 again.0 packed is.1 again.1 in grind (arith, same)

-- if a text was written, the output had room for it
text_fits : (packed old new : List ℕ) (len : ℕ) → IsWritten (λ text. IsPacked text packed) old new len
    → HasNoRoom (λ text. IsPacked text packed) (length old) → ⊥
text_fits packed old new len is none =
    let same = packed_text_and_bytes_determine_each_other-one_text is.0 none.0 packed is.1 none.1 in grind (arith, common_steps, same)

pub returns-clause-unpack : goal.returns-clause-unpack
returns-clause-unpack c packed before after other outcome another =
    let checks = unpack_checks packed (length before) in
    let sound : AreSound (unpack_checks packed (length before)) = search (rules, needs-sound, refused_if-sound) in
    one_outcome
    (λ is again. grind (arith, one_text packed before after other is.0 again.0 is.1.1 again.1.1))
    (λ is why. first_none checks sound (is.1.0, (text_fits packed before after is.0 is.1.1, tt)) why.0 why.1)
    (λ why is. first_none checks sound (is.1.0, (text_fits packed before other is.0 is.1.1, tt)) why.0 why.1)
    (λ why again. grind (arith, first_one checks sound why.0 again.0))

pub returns-clause-unmark : goal.returns-clause-unmark
returns-clause-unmark c bytes before after other told another = one_unmarked bytes before after other told another

-- a frame that is explained passes all checks
explained_passes : (style : ℕ) (frame : HartFrame) (before after : List ℕ) (len : ℕ)
    → IsFrame frame → IsStyle style → IsWritten (λ text. text ≡ explained style (found_in frame)) before after len
    → AllPass (explain_checks style frame (length before))
explained_passes style frame before after len (address, (expansion, (payload, end))) known is =
    (address, (expansion, (payload, (known, (λ none. grind (arith, is.1, none.1), tt)))))

pub returns-clause-explain : goal.returns-clause-explain
returns-clause-explain c style frame before after other outcome another =
    let checks = explain_checks style frame (length before) in
    let sound : AreSound (explain_checks style frame (length before)) = search (rules, needs-sound, refused_if-sound) in
    one_outcome
    (λ is again. grind (arith, is.1.2.1, again.1.2.1))
    (λ is why. first_none checks sound (explained_passes style frame before after is.0 is.1.0 is.1.1 is.1.2) why.0 why.1)
    (λ why is. first_none checks sound (explained_passes style frame before other is.0 is.1.0 is.1.1 is.1.2) why.0 why.1)
    (λ why again. grind (arith, first_one checks sound why.0 again.0))
