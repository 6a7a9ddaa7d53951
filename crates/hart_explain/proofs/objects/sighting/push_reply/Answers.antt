use Rattle.std.proofs.Common.{◌≡◌, ◌≤◌, ◌++◌, ℕ, List, ◌∷◌, arith, drop, length, refl}
use Rattle.std.specs.Prelude.{slice_index}
use Rattle.hart_frame.specs.declared.wire.kind.FrameKind.TheVariants.{Ack}
use Rattle.hart_explain.specs.Json.{reading_members}
use Rattle.hart_explain.specs.Message.{payload_members}
use Rattle.hart_explain.specs.Reading.{reading_of_reply}
use Rattle.hart_explain.specs.Status.{status_members}
use Rattle.hart_explain.proofs.lemmas.Json.{members-on}
use Rattle.hart_explain.proofs.lemmas.SightingLengths.{Fit, members-then, status-data-fits}
use Rattle.hart_explain.proofs.objects.sighting.push_reply.Goals as goal

-- the payload of a reply is its status bytes and its data
payload_members-is : (command : ℕ) (payload : List ℕ) → 2 ≤ length payload
    → payload_members Ack command payload
    ≡ status_members command (slice_index payload 0) (slice_index payload 1)
    ++ reading_members command (drop 2 payload) (reading_of_reply command payload)
payload_members-is command (first ∷ second ∷ bytes) enough = refl
payload_members-is command _ enough = absurd (omega arith)

pub returns-clause-members : goal.returns-clause-members
returns-clause-members c =
    let payload = c.args.payload.now in
    rw (payload_members-is c.args.command payload c.requires.long_enough)
    (members-on _ _ _ (status_members c.args.command (slice_index payload 0) (slice_index payload 1))
    (reading_members c.args.command (drop 2 payload) (reading_of_reply c.args.command payload))
    c.push_status.ensures c.push_reply_data.ensures.members)

pub returns-clause-few : goal.returns-clause-few
returns-clause-few c =
    let payload = c.args.payload.now in
    let status =
    status-data-fits c.args.command (slice_index payload 0) (slice_index payload 1) (omega (arith, c.type_inv.payload 0)) in
    let rest : Fit (reading_members c.args.command (drop 2 payload) (reading_of_reply c.args.command payload)) 12000 =
    record { fit = c.push_reply_data.ensures.few } in
    rw (payload_members-is c.args.command payload c.requires.long_enough) (members-then status rest).fit
