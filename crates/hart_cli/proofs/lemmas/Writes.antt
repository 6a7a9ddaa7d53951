-- Texts that are written one after another, and in time.
use Rattle.std.proofs.Common.{length-append, arith, length-append, ℕ, List, ◌++◌, append_assoc}
use Rattle.std.proofs.KnownBytes.{Appends-trans}
use Rattle.std.proofs.lemmas.Grind.{common_steps}
use Rattle.std.specs.Io.KnownBytes.{Appends}
use Rattle.hart_cli.specs.input.LiveInput.{WroteInTime}
use Rattle.hart_cli.specs.stream.Stream.{FailsToWrite, Stream, WritesAll}

-- two texts that were written one after the other were written as one text
pub WritesAll-on : (a b c : Stream) (xs ys : List ℕ) → WritesAll a b xs → WritesAll b c ys → WritesAll a c (xs ++ ys)
WritesAll-on a b c xs ys h k = grind (arith, common_steps, Appends-trans)

-- if the first of two texts was written and a write failed in the second, it failed in both texts joined
pub FailsToWrite-on : (a b c : Stream) (xs ys : List ℕ) → WritesAll a b xs → FailsToWrite b c ys → FailsToWrite a c (xs ++ ys)
FailsToWrite-on a b c xs ys h k = grind (arith, common_steps, Appends-trans)

-- if a write failed in a text, it failed in each longer text
pub FailsToWrite-longer : (old new : Stream) (text more : List ℕ) → FailsToWrite old new text → FailsToWrite old new (text ++ more)
FailsToWrite-longer old new text more fails =
    let after = length-append fails.0.rest more in grind (arith, common_steps)

-- text that was written in time stays written in time, whatever is written later
pub in_time_on : (IsDecided : List ℕ → List ℕ → Type 0) (input : List ℕ) (w now later : Stream) (text : List ℕ)
    → WroteInTime IsDecided input w now → Appends now.bytes later.bytes text → WroteInTime IsDecided input w later
in_time_on IsDecided input w now later text before on =
    grind (arith, rw append_assoc at (Appends-trans _ _ _ _ text before.written on))
