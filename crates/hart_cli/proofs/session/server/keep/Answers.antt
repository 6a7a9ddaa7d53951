use Rattle.std.proofs.Common.{◌≡◌, ◌≤◌, ◌-◌, ℕ, List, ◌++◌, length, take, min, arith}
use Rattle.std.proofs.lemmas.Grind.{common_steps}
use Rattle.std.proofs.Math.Seq.{take-append-add}
use Rattle.hart_cli.specs.session.Server.{most_kept}
use Rattle.hart_cli.proofs.session.server.keep.Goals as goal

-- if bytes are kept as far as there is room, the first `most` bytes of all are kept
kept_bytes : (xs ys : List ℕ) (most count : ℕ) → length xs ≤ most → count ≡ min (length ys) (most - length xs)
    → xs ++ take count ys ≡ take most (xs ++ ys)
kept_bytes xs ys most count few is = grind (arith, common_steps, take-append-add xs ys (most - length xs))

pub returns-clause-bytes : goal.returns-clause-bytes
returns-clause-bytes c =
    rw c.extend.ensures (kept_bytes c.args.part.now.items c.args.bytes.now most_kept c.min-most.result c.requires.few
    (rw c.len.ensures at c.min-most.ensures))
