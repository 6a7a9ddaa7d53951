use Rattle.std.proofs.Common.{◌≡◌, ◌∙◌, ℕ, List, [], Option, ap}
use Rattle.hart_text.specs.Heard.{Heard}
use Rattle.hart_cli.specs.declared.calls.explain.printer.Style.TheVariants.{Objects, Words}
use Rattle.hart_cli.specs.declared.fault.CliFault.{CliFault}
use Rattle.hart_cli.specs.explain.Explanation.{IsTextIn}
use Rattle.hart_listen.specs.Dated.{explanation}
use Rattle.hart_listen.specs.Sightings.{date_of}
use Rattle.hart_cli.specs.explain.Same.{AreOfSameSightings}
use Rattle.hart_cli.specs.input.Decoding.{Decoding}
use Rattle.hart_cli.specs.input.Input.{Ending}
use Rattle.hart_cli.proofs.lemmas.explain.Grow.{one_heard}
use Rattle.hart_listen.proofs.lemmas.Laws.{heard_sightings_are_unambiguous-decided, heard_sightings_are_unambiguous-one}
use Rattle.hart_listen.proofs.lemmas.Laws.{words_leave_out_preamble_bytes}
use Rattle.hart_cli.proofs.calls.explain.laws.json_has_the_sightings_of_explain.Goals as goal

-- an explanation and JSON lines of the same things heard are about the same sightings
same_sightings : (decoding : Decoding (List Heard)) (input : List ℕ) (ending : Ending) (xs ys : List Heard) (fault : Option CliFault)
    (text lines : List ℕ) → xs ≡ ys → decoding.Has input ending ys fault → IsTextIn Words xs text → IsTextIn Objects ys lines
    → AreOfSameSightings decoding input ending fault text lines
same_sightings decoding input ending xs ys fault text lines same has p q =
    let seen = heard_sightings_are_unambiguous-one ys p.seen q.seen (rw same at p.are_sightings) q.are_sightings in
    record {
      heard = ys;
      has = has;
      seen = q.seen;
      are_sightings = q.are_sightings;
      text_is = p.text_is ∙ (words_leave_out_preamble_bytes xs p.seen ∙ (ap (λ heard. explanation (date_of heard) [] p.seen) same
          ∙ ap (explanation (date_of ys) []) seen));
      lines_are = q.text_is;
    }

pub returns-clause-whole : goal.returns-clause-whole
returns-clause-whole c is_raw input ending f g text lines p q =
    let same = one_heard is_raw input ending p.heard q.heard f g p.has q.has in
    (same.1, same_sightings _ input ending p.heard q.heard g text lines same.0 q.has p.is_text q.is_text)

pub returns-clause-decided : goal.returns-clause-decided
returns-clause-decided c heard text lines a b =
    let seen = heard_sightings_are_unambiguous-decided heard a.seen b.seen a.decided b.decided in (
      b.seen,
      b.decided.first,
      a.text_is ∙ (words_leave_out_preamble_bytes heard a.seen ∙ ap (explanation (date_of heard) []) seen),
      b.text_is,
    )
