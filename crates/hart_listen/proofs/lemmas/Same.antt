-- Masters, addresses and requests that the tests for sameness call the same.
use Rattle.std.proofs.Common.{◌≡◌, ◌⊎◌, Bool, true, false, arith, inl, inr, refl}
use Rattle.std.proofs.lemmas.Bool.Decides.{nat_tests}
use Rattle.std.proofs.lemmas.Grind.{common_steps}
use Rattle.std.proofs.lemmas.Slice.Eq.{bytes_eq-Decides}
use Rattle.std.specs.Bool.{beq}
use Rattle.hart_values.specs.declared.address.Address.{Address}
use Rattle.hart_values.specs.declared.address.Address.TheVariants.{Polling, Unique}
use Rattle.hart_values.specs.declared.master_id.MasterId.{MasterId}
use Rattle.hart_values.specs.declared.master_id.MasterId.TheVariants.{Primary, Secondary}
use Rattle.hart_frame.specs.wire.FrameParts.{FrameParts}
use Rattle.hart_listen.specs.Before.{same_address, same_master, same_request}

-- the tests for equal masters, addresses and frames are true only of equal ones
pub master_same : (a b : MasterId) → same_master a b ≡ true → a ≡ b
master_same Primary Primary is = refl
master_same Primary Secondary is = absurd cc
master_same Secondary Primary is = absurd cc
master_same Secondary Secondary is = refl

pub master_self : (a : MasterId) → same_master a a ≡ true
master_self Primary = refl
master_self Secondary = refl

pub bit_same : (a b : Bool) → beq a b ≡ true → a ≡ b
bit_same true true is = refl
bit_same true false is = absurd cc
bit_same false true is = absurd cc
bit_same false false is = refl

pub address_same : (a b : Address) → same_address a b ≡ true → a ≡ b
address_same (Polling a) (Polling b) is = grind (arith, common_steps, nat_tests)
address_same (Polling a) (Unique b) is = absurd cc
address_same (Unique a) (Polling b) is = absurd cc
address_same (Unique a) (Unique b) is = grind (arith, common_steps, nat_tests)

pub request_same : (a b : FrameParts) → same_request a b ≡ true → a ≡ b
request_same a b is =
    grind (arith, common_steps, nat_tests, master_same, bit_same, address_same, bytes_eq-Decides)

-- a test is true or false
pub same_or_not : (a : Bool) → (a ≡ true) ⊎ (a ≡ false)
same_or_not true = inl refl
same_or_not false = inr refl

pub address_self : (a : Address) → same_address a a ≡ true
address_self (Polling a) = grind (arith, common_steps, nat_tests)
address_self (Unique a) = grind (arith, common_steps, nat_tests)
