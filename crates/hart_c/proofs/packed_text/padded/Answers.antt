use Rattle.std.proofs.Common.{◌≡◌, ℕ, arith, length, refl}
use Rattle.std.proofs.lemmas.Grind.{common_steps}
use Rattle.std.proofs.lemmas.List.{drop-replicate}
use Rattle.hart_c.proofs.packed_text.padded.Goals as goal

pub returns : goal.returns
returns c =
    let same : c.copy_from_slice.new.self ≡ c.args.text.now = grind (arith, common_steps) in
    rw (same, drop-replicate {X = ℕ} (length c.args.text.now) 32 0x20) refl
