-- A text without marks is a text of items only.
use Rattle.std.proofs.Common.{◌≡◌, ℕ, List, [], Option}
use Rattle.hart_frame.specs.heard.Character.{Character}
use Rattle.hart_text.specs.Heard.{HasNoMark, Heard, NothingBegins, ReadsHeard, heard_chars}
use Rattle.hart_text.specs.Items.{closed}
use Rattle.hart_text.proofs.lemmas.Heard.{heard_laws}
use Rattle.hart_text.proofs.lemmas.Reads.{now_bad}
use Rattle.hart_text.proofs.lemmas.NoMark.{bad_plain, no_mark_closed, reads_plain, so_far_plain}
use Rattle.hart_cli.specs.declared.fault.CliFault.{CliFault}
use Rattle.hart_cli.specs.input.Input.{Ending}
use Rattle.hart_cli.specs.input.InputChars.{HasHeard}
use Rattle.hart_cli.specs.input.InputChars.{HasChars, all, bad_hex, decided_bad_hex, failure, limit}

-- what was heard in an input without marks is its characters
pub plain_input : (text : List ℕ) (ending : Ending) (heard : List Heard) (fault : Option CliFault) → HasHeard text ending heard fault
    → HasNoMark text → (chars : List Character) × (heard ≡ heard_chars chars) × HasChars text ending chars fault
plain_input text _ _ _ (all heard h) none =
    let (chars, is, reads) = reads_plain (closed text) heard [] h (no_mark_closed text none) in
    (chars, is, all chars reads)
plain_input text _ _ _ (bad_hex heard place h) none =
    let (chars, is, reads) = reads_plain (closed text) heard h.rest h.reads (no_mark_closed text none) in (
      chars,
      is,
      bad_hex chars place
          (record { rest = h.rest; reads = reads; begins = h.begins; more = h.more; no_piece = h.no_piece.no_piece }),
    )
plain_input text _ _ _ (decided_bad_hex heard place k) none =
    let now = now_bad ReadsHeard NothingBegins heard_laws text heard place k in
    let (chars, is, reads) = reads_plain text heard now.rest now.reads none in
    (chars, is, decided_bad_hex chars place (bad_plain text heard chars place k now.rest now.reads reads now.begins now.more))
plain_input text _ _ _ (failure heard h) none =
    let (chars, is, so_far) = so_far_plain text heard h none in (chars, is, failure chars so_far)
plain_input text _ _ _ (limit heard h) none =
    let (chars, is, so_far) = so_far_plain text heard h none in (chars, is, limit chars so_far)
