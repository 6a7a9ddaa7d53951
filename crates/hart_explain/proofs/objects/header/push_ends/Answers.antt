use Rattle.json.specs.Print.{escape_byte}
use Rattle.hart_explain.specs.Json.{further_member}
use Rattle.hart_explain.proofs.lemmas.Extended.{also, last}
use Rattle.hart_explain.proofs.lemmas.SightingLengths.{ends-fit}
use Rattle.hart_explain.proofs.objects.header.push_ends.Goals as goal

pub returns-clause-members : goal.returns-clause-members
unfolding escape_byte further_member
returns-clause-members c =
    also _ _ _ _ _ c.push_text.ensures (also _ _ _ _ _ c.push_master.ensures (also _ _ _ _ _ c.push_text-2.ensures
    (last _ _ _ c.push_address.ensures.word)))

pub returns-clause-few : goal.returns-clause-few
returns-clause-few c = (ends-fit c.args.master c.args.address c.push_address.ensures.short).fit
