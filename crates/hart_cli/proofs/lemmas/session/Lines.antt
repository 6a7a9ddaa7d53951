-- One line that a station serves.
use Rattle.std.proofs.Common.{◌≡◌, ◌≤◌, ◌<◌, ◌+◌, ℕ, Bool, true, false, List, [], length, take, None, Some, nat_le, refl}
use Rattle.std.proofs.Common.{sym, ap, ◌∙◌, arith}
use Rattle.std.proofs.lemmas.Grind.{common_steps}
use Rattle.std.proofs.lemmas.Bool.Decides.{nat_tests}
use Rattle.std.specs.Str.Lines.{strip_carriage_return}
use Rattle.hart_station.specs.Station.{input_limit, line_read}
use Rattle.hart_cli.specs.session.Server.{most_kept}

-- stripping a carriage return removes at most one byte
pub strips_one : (part : List ℕ)
    → (length (strip_carriage_return part) ≤ length part) × (length part ≤ length (strip_carriage_return part) + 1)
strips_one part = grind (arith, common_steps)

-- a part whose kept line is short enough is kept whole
kept_whole : (part : List ℕ) (most : ℕ) → length (strip_carriage_return (take most part)) + 2 ≤ most → take most part ≡ part
kept_whole part most few = grind (arith, common_steps, strips_one (take most part))

-- a part whose line is empty is kept whole
no_more_of : (part : List ℕ) (most : ℕ) → 1 ≤ most → length (strip_carriage_return part) ≡ 0 → take most part ≡ part
no_more_of part most some none = grind (arith, common_steps, strips_one part)

pub no_more : (part : List ℕ) → strip_carriage_return part ≡ [] → take most_kept part ≡ part
no_more part none = no_more_of part most_kept (omega arith) (ap length none)

-- a part whose kept line is empty is kept whole
pub all_empty : (part : List ℕ) → strip_carriage_return (take most_kept part) ≡ [] → take most_kept part ≡ part
all_empty part none = kept_whole part most_kept (omega (arith, ap length none))

-- a part whose kept line is too long has a line that is too long
kept_long : (part : List ℕ) (most : ℕ) → most < length (strip_carriage_return (take most part)) + 2
    → most < length (strip_carriage_return part) + 2
kept_long part most long = grind (arith, common_steps, strips_one part, strips_one (take most part))

-- a line within the limit is read whole, and nothing is read of a longer one
pub reads_short : (line : List ℕ) → length line ≤ input_limit → line_read line ≡ Some line
reads_short line few = grind (arith, nat_tests)

pub reads_long : (line : List ℕ) → input_limit < length line → line_read line ≡ None
reads_long line long = grind (arith, nat_tests)

-- a test that compares two numbers is true exactly if the numbers compare so
le_of_test : (m n : ℕ) → nat_le m n ≡ true → m ≤ n
le_of_test m n is = grind (arith, nat_tests)

lt_of_test : (m n : ℕ) → nat_le m n ≡ false → n < m
lt_of_test m n is = grind (arith, nat_tests)

-- reading the kept bytes of a part gives the same as reading the part
reads_alike : (part : List ℕ) (is_short : Bool) → nat_le (length (strip_carriage_return (take most_kept part))) input_limit ≡ is_short
    → line_read (strip_carriage_return (take most_kept part)) ≡ line_read (strip_carriage_return part)
reads_alike part true few =
    ap (λ kept. line_read (strip_carriage_return kept)) (kept_whole part most_kept (omega (arith, le_of_test _ input_limit few)))
reads_alike part false long =
    let kept : input_limit < length (strip_carriage_return (take most_kept part)) = lt_of_test _ input_limit long in
    reads_long _ kept ∙ sym (reads_long _ (omega (arith, kept_long part most_kept (omega arith))))

pub reads_kept : (part : List ℕ) → line_read (strip_carriage_return (take most_kept part)) ≡ line_read (strip_carriage_return part)
reads_kept part = reads_alike part _ refl
