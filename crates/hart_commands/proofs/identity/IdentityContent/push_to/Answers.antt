use Rattle.std.proofs.Common.{append_assoc}
use Rattle.hart_commands.proofs.identity.IdentityContent.push_to.Goals as goal

pub returns : goal.returns
returns c =
    rw (
      c.push-3.ensures,
      c.extend_from_slice-7.ensures,
      c.extend_from_slice-6.ensures,
      c.push-2.ensures,
      c.extend_from_slice-5.ensures,
      c.extend_from_slice-4.ensures,
      c.extend_from_slice-3.ensures,
      c.extend_from_slice-2.ensures,
      c.extend_from_slice.ensures,
      c.push.ensures,
    ) (simp append_assoc)
