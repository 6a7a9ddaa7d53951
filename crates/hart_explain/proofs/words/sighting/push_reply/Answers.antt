use Rattle.std.proofs.Common.{◌≡◌, ◌≤◌, ◌++◌, ℕ, List, ◌∷◌, arith, drop, length, refl}
use Rattle.std.specs.Prelude.{slice_index}
use Rattle.hart_frame.specs.declared.wire.kind.FrameKind.TheVariants.{Ack}
use Rattle.hart_explain.specs.Message.{payload_lines}
use Rattle.hart_explain.specs.Reading.{reading_of_reply}
use Rattle.hart_explain.specs.Status.{status_lines}
use Rattle.hart_explain.specs.Words.{reading_lines}
use Rattle.hart_explain.proofs.lemmas.Extended.{also}
use Rattle.hart_explain.proofs.lemmas.SightingLengths.{reply-fits, status-fits}
use Rattle.hart_explain.proofs.words.sighting.push_reply.Goals as goal

-- the payload of a reply is its status bytes and its data
payload_lines-is : (command : ℕ) (payload : List ℕ) → 2 ≤ length payload
    → payload_lines Ack command payload
    ≡ status_lines command (slice_index payload 0) (slice_index payload 1)
    ++ reading_lines command (drop 2 payload) (reading_of_reply command payload)
payload_lines-is command (first ∷ second ∷ bytes) enough = refl
payload_lines-is command _ enough = absurd (omega arith)

pub returns-clause-words : goal.returns-clause-words
returns-clause-words c =
    rw (payload_lines-is c.args.command c.args.payload.now c.requires.long_enough)
    (also _ _ _ _ _ c.push_status.ensures c.push_reply_data.ensures.words)

pub returns-clause-few : goal.returns-clause-few
returns-clause-few c =
    let payload = c.args.payload.now in
    rw (payload_lines-is c.args.command payload c.requires.long_enough)
    (reply-fits (status_lines c.args.command (slice_index payload 0) (slice_index payload 1))
    (reading_lines c.args.command (drop 2 payload) (reading_of_reply c.args.command payload))
    (status-fits c.args.command (slice_index payload 0) (slice_index payload 1) (omega (arith, c.type_inv.payload 0)))
    c.push_reply_data.ensures.few)
