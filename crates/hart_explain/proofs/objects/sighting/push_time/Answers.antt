use Rattle.std.proofs.Common.{◌≡◌, ◌==◌, ℕ, false, true, List, [], ◌∷◌, arith, length, refl}
use Rattle.std.proofs.lemmas.Bool.Decides.{nat_tests}
use Rattle.json.specs.Print.{escape_byte}
use Rattle.serde_json.specs.Data.{string}
use Rattle.hart_explain.specs.Json.{further_member, named}
use Rattle.hart_explain.specs.Sighting.{time_members}
use Rattle.hart_explain.proofs.lemmas.Extended.{extended_nothing, extending}
use Rattle.hart_explain.proofs.objects.sighting.push_time.Goals as goal

-- a date that is not empty has a member
time-is : (date : List ℕ) → false ≡ (length date == 0) → time_members date ≡ named "time" (string date) ∷ []
time-is [] some = cc
time-is (byte ∷ word) some = refl

-- an empty date has none
no_time-is : (date : List ℕ) → true ≡ (length date == 0) → time_members date ≡ []
no_time-is [] none = refl
no_time-is (byte ∷ word) none = grind (arith, nat_tests)

pub returns-then-is_empty : goal.returns-then-is_empty
returns-then-is_empty c = rw (no_time-is c.args.date.now c.if-is_empty.ensures, extended_nothing) refl

pub returns : goal.returns
unfolding escape_byte further_member
returns c =
    rw (time-is c.args.date.now c.if-is_empty.ensures, c.push_quoted.ensures, c.push_text.ensures) (simp extending)
