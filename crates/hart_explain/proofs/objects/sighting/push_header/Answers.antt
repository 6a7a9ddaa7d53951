use Rattle.std.proofs.Common.{◌++◌, arith}
use Rattle.json.specs.Print.{escape_byte}
use Rattle.serde_json.specs.Data.{string}
use Rattle.hart_frame.specs.wire.Header.{header_parts}
use Rattle.hart_explain.specs.Header.{command_members, ends_members, kind_name}
use Rattle.hart_explain.specs.Json.{further_member, named}
use Rattle.hart_explain.proofs.lemmas.Extended.{also}
use Rattle.hart_explain.proofs.lemmas.Json.{members-on, object-is}
use Rattle.hart_explain.proofs.lemmas.SightingLengths.{header-value-fits}
use Rattle.hart_explain.proofs.objects.sighting.push_header.Goals as goal

pub returns-clause-object : goal.returns-clause-object
unfolding escape_byte further_member
returns-clause-object c =
    let header = header_parts c.args.header.now in
    let ends = ends_members header.master header.address in
    let kind_is = rw c.kind.ensures at c.push_kind.ensures in
    let ends_are = rw (c.master.ensures, c.address.ensures) at c.push_ends.ensures.members in
    let members = members-on _ _ _ ends (command_members header.command) ends_are (rw c.command.ensures at c.push_command.ensures) in
    rw (object-is (named "kind" (string (kind_name header.kind))) (ends ++ command_members header.command))
    (also _ _ _ _ _ (also _ _ _ _ _ (also _ _ _ _ _ c.push_text.ensures kind_is) members) c.push_text-2.ensures)

pub returns-clause-few : goal.returns-clause-few
returns-clause-few c =
    let ends = rw (c.master.ensures, c.address.ensures) at c.push_ends.ensures.few in
    (header-value-fits (header_parts c.args.header.now) ends (rw (← c.command.ensures) (omega arith))).fits
