use Rattle.std.proofs.Common.{◌≡◌, ◌≤◌, ◌++◌, ◌∷◌, [], ℕ, List, Some, ap, length, refl, take, arith}
use Rattle.std.proofs.lemmas.Grind.{common_steps}
use Rattle.std.proofs.lemmas.List.{length-take-le}
use Rattle.hart_cli.specs.declared.input.InputEnd.TheVariants.{Ended}
use Rattle.hart_cli.specs.declared.input.Portion.{Portion}
use Rattle.hart_cli.specs.input.Ahead.{ReadsAhead}
use Rattle.hart_cli.specs.input.Input.{ReadsPortion}
use Rattle.hart_cli.specs.stream.Stream.{Stream}
use Rattle.hart_cli.proofs.input.ahead.read_ahead.Goals as goal

-- a read that comes to the end of the input adds a space and no bytes
ended_ahead : (old new : Stream) (before after buffer : List ℕ) (room : ℕ) (portion : Portion) → portion.end ≡ Some Ended
    → portion.len ≤ length buffer → ReadsPortion old new (take portion.len buffer) room portion.end → after ≡ before ++ 32 ∷ []
    → ReadsAhead old new before after room portion
ended_ahead old new before after buffer room portion is within reads added =
    let ended = rw is at reads in
    let len : length (take portion.len buffer) ≡ portion.len = length-take-le portion.len buffer within in
    let none : length (take portion.len buffer) ≡ 0 = ap length ended.2 in
    record {
      bytes = [];
      reads = rw is (rw ended.2 at ended.0, ended.1, refl);
      count = omega (arith, len, none);
      few = omega arith;
      added = rw is added;
    }

pub returns-then-eq-clause-reads : goal.returns-then-eq-clause-reads
returns-then-eq-clause-reads g c =
    let portion = c.read_portion-portion in
    ended_ahead _ _ _ _ portion.new.buffer _ portion.result (grind (arith, common_steps)) portion.ensures.within portion.ensures.reads
    c.push.ensures
