use Rattle.std.proofs.Common.{[], ◌∷◌, ◌++◌, arith}
use Rattle.json.specs.Print.{escape_byte}
use Rattle.serde_json.specs.Data.{boolean, string}
use Rattle.hart_frame.specs.wire.Header.{header_of}
use Rattle.hart_frame.specs.wire.View.{parts_of}
use Rattle.hart_explain.specs.Header.{command_members, ends_members, kind_name, speaker_members}
use Rattle.hart_explain.specs.Json.{further_member, hex, named}
use Rattle.hart_explain.specs.Message.{payload_members}
use Rattle.hart_explain.proofs.lemmas.Extended.{also, last}
use Rattle.hart_explain.proofs.lemmas.Json.{members-on}
use Rattle.hart_explain.proofs.lemmas.SightingLengths.{frame-fits}
use Rattle.hart_explain.proofs.objects.sighting.push_frame.Goals as goal

pub returns-clause-members : goal.returns-clause-members
unfolding escape_byte further_member
returns-clause-members c =
    let frame = parts_of c.args.frame.now in
    let speaker = speaker_members (header_of frame) in
    let ends = ends_members frame.master frame.address in
    let burst = named "burst" (boolean frame.burst) in
    let expansion = named "expansion" (hex frame.expansion) in
    let command = command_members frame.command in
    let kind_is = rw c.kind.ensures at c.push_kind.ensures in
    let ends_are = rw (c.master.ensures, c.address.ensures) at c.push_ends.ensures.members in
    let burst_is = rw c.burst.ensures at c.push_burst.ensures in
    let expansion_is = rw c.expansion.ensures.expansion at c.push_quoted_hex.ensures in
    let command_is = rw c.command.ensures at c.push_command.ensures in
    let payload_is = rw (c.kind-2.ensures, c.command-2.ensures, c.payload.ensures.payload) at c.push_payload.ensures.members in
    members-on _ _ _ (speaker ++ (burst ∷ expansion ∷ command)) (payload_members frame.kind frame.command frame.payload)
    (members-on _ _ _ speaker (burst ∷ expansion ∷ command)
    (members-on _ _ _ (named "kind" (string (kind_name frame.kind)) ∷ []) ends
    (also _ _ _ _ _ c.push_text.ensures (last _ _ _ kind_is)) ends_are)
    (members-on _ _ _ (burst ∷ []) (expansion ∷ command) (last _ _ _ burst_is)
    (members-on _ _ _ (expansion ∷ []) command (also _ _ _ _ _ c.push_text-2.ensures (last _ _ _ expansion_is)) command_is)))
    payload_is

pub returns-clause-few : goal.returns-clause-few
returns-clause-few c =
    let ends = rw (c.master.ensures, c.address.ensures) at c.push_ends.ensures.few in
    let few = rw c.expansion.ensures.expansion at c.expansion.ensures.fits in
    let payload = rw (c.kind-2.ensures, c.command-2.ensures, c.payload.ensures.payload) at c.push_payload.ensures.few in
    frame-fits (parts_of c.args.frame.now) ends few (rw (← c.command.ensures) (omega arith)) payload
