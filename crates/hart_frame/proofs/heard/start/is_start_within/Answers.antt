use Rattle.hart_frame.proofs.Common.{◌≡◌, ◌&&◌, not, ℕ, ◌<◌, List, length, Bool, sym, ◌∙◌, arith, get_or, nat_tests, Character}
use Rattle.std.proofs.Common.{nat_eq}
use Rattle.std.proofs.lemmas.List.{get_or_default}
use Rattle.hart_frame.proofs.lemmas.heard.Place.{preamble, is_start_from, starts_at}
use Rattle.hart_frame.proofs.heard.start.is_start_within.Goals as goal

-- Whether two characters differ.
abbrev differ : Character → Character → Bool
differ a b = not (nat_eq a.byte b.byte && nat_eq a.faults b.faults)

-- An element within a list is read the same, whatever the default is.
get_or-other : (chars : List Character) (i : ℕ) (x d : Character) → i < length chars → x ≡ get_or chars i x → get_or chars i d ≡ x
get_or-other chars i x d within is = get_or_default chars i d x within ∙ sym is

pub returns : goal.returns
returns c = grind (arith, nat_tests, preamble, is_start_from, get_or-other, starts_at)
