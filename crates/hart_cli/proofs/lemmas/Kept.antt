-- A text that is made piece by piece.
use Rattle.std.proofs.Common.{◌≡◌, ℕ, List, [], ◌++◌, refl, append_assoc, arith}
use Rattle.std.proofs.KnownBytes.{Appends-nil}
use Rattle.std.proofs.lemmas.Grind.{common_steps}
use Rattle.hart_cli.specs.stream.Kept.{AddsText}
use Rattle.hart_cli.specs.stream.Stream.{FailsToWrite, Stream}
use Rattle.hart_cli.proofs.lemmas.Writes.{FailsToWrite-on, WritesAll-on}

-- appending a text to the kept text adds the text, with nothing written
pub adds_kept : (s : Stream) (before after text : List ℕ) → after ≡ before ++ text → AddsText s s before after text
adds_kept s before after text is = record { written = []; wrote = (Appends-nil _, refl); whole = is }

-- two texts that are added one after the other are added as one text
pub adds_then : (a b c : Stream) (p q r x y : List ℕ) → AddsText a b p q x → AddsText b c q r y → AddsText a c p r (x ++ y)
adds_then a b c p q r x y h k =
    let wrote = WritesAll-on a b c h.written k.written h.wrote k.wrote in grind (arith, common_steps, append_assoc)

-- if a write failed in the second of two texts, it failed in both texts joined
pub fails_then : (a b c : Stream) (p q x y : List ℕ) → AddsText a b p q x → FailsToWrite b c (q ++ y) → FailsToWrite a c (p ++ (x ++ y))
fails_then a b c p q x y h fails =
    grind (arith, common_steps, append_assoc, FailsToWrite-on a b c h.written (q ++ y) h.wrote fails)
