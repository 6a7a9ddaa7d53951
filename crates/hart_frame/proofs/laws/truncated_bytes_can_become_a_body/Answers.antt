use Rattle.hart_frame.proofs.Common.{Truncated}
use Rattle.hart_frame.proofs.lemmas.wire.Refusal.{not_refused}
use Rattle.hart_frame.proofs.lemmas.wire.Truncated.{CanBecomeBody-truncated, IsTruncated-only}
use Rattle.hart_frame.proofs.laws.truncated_bytes_can_become_a_body.Goals as goal

pub returns : goal.returns
returns c = λ bytes fit. (
  λ truncated. (CanBecomeBody-truncated bytes fit truncated, λ f len begins. not_refused bytes f len Truncated begins truncated),
  λ both. IsTruncated-only bytes both.0 both.1,
)
