-- The faults of calls: their numbers in C, the checks of a call, and which fault a call returns (implementation choice).
use Rattle.std.specs.Prelude.{◌≡◌, ◌⊎◌, ℕ, Result, Ok, Err, List, [], ◌∷◌}
use Rattle.hart_frame.specs.wire.FaultNumbers.{frame_fault_number}
use Rattle.hart_device.specs.declared.fault.DeviceFault.TheVariants.{BadField, BadLength, BadVersion, BroadcastAddress, OutOfRange}
use Rattle.hart_c.specs.declared.fault.Fault.TheVariants.{BadAddress, BadFaultBits, BadVariables, LongExpansion, NoRequest, WrongAddress}
use Rattle.hart_c.specs.declared.fault.Fault.TheVariants.{BadCharacter, BadCode, BadMaster, BadStyle, Device, Frame, NoRoom, Pending}
use Rattle.hart_c.specs.declared.fault.Fault.TheVariants.{TooLong}
use Rattle.hart_c.specs.declared.{fault.Fault.Fault, fault.HartOutcome.HartOutcome}

-- The number in C of each `Fault`. The faults of frames have the same numbers as in hart_frame.
abbrev pub number_of : Fault → ℕ
number_of (Frame fault) = frame_fault_number fault
number_of BadAddress = 10
number_of LongExpansion = 11
number_of NoRoom = 12
number_of BadFaultBits = 13
number_of (Device OutOfRange) = 16
number_of (Device BroadcastAddress) = 17
number_of (Device BadVersion) = 18
number_of (Device BadLength) = 19
number_of (Device BadField) = 20
number_of BadVariables = 21
number_of TooLong = 22
number_of NoRequest = 23
number_of WrongAddress = 24
number_of Pending = 25
number_of BadMaster = 26
number_of BadCode = 27
number_of BadCharacter = 28
number_of BadStyle = 29

-- The number that is returned by a call that only succeeds or fails: 0, or the number of its fault.
abbrev pub number_of_result : Result (Unit {0}) Fault → ℕ
number_of_result (Ok done) = 0
number_of_result (Err fault) = number_of fault

-- The result in C: the number of bytes that were written or read, or the number of the fault.
abbrev pub outcome_of : Result ℕ Fault → HartOutcome
outcome_of (Ok len) = record { len = len; fault = 0 }
outcome_of (Err fault) = record { len = 0; fault = number_of fault }

-- A check of a call. `passes` says when the call passes the check. `refuses` says with which fault the check refuses the call otherwise.
pub record Check : Type 1 where
  pub passes : Type 0
  pub refuses : Fault → Type 0

-- The check that a condition holds. If it does not hold, the fault is `fault`.
abbrev pub needs : Type 0 → Fault → Check
needs good fault = record { passes = good; refuses = λ told. (good → ⊥) × (told ≡ fault) }

-- The check that a condition does not hold. If it holds, the fault is `fault`.
abbrev pub refused_if : Type 0 → Fault → Check
refused_if bad fault = record { passes = bad → ⊥; refuses = λ told. bad × (told ≡ fault) }

-- The check that a condition holds. If it does not hold, a relation of a lower crate determines the fault.
abbrev pub needs_or : {F : Type 0} → Type 0 → (F → Type 0) → (F → Fault) → Check
needs_or {F} good refuses named =
    record { passes = good; refuses = λ told. (fault : F) × refuses fault × (told ≡ named fault) }

-- The fault of a list of checks is the fault of the first check that refuses. All checks before that check pass.
abbrev pub IsFirstOf : List Check → Fault → Type 0
IsFirstOf [] told = ⊥
IsFirstOf (check ∷ checks) told = check.refuses told ⊎ (check.passes × IsFirstOf checks told)

-- All checks pass.
abbrev pub AllPass : List Check → Type 0
AllPass [] = Unit {0}
AllPass (check ∷ checks) = check.passes × AllPass checks

-- Either a call did its work, and returns the result. Or it returns the first fault of its checks, and its output is unchanged.
abbrev pub Outcome : {D T : Type 0} → List Check → (D → Type 0) → Type 0 → (Result D Fault → T) → T → Type 0
Outcome {D} checks IsDone stays telling told =
    ((done : D) × IsDone done × (told ≡ telling (Ok done)))
    ⊎ ((fault : Fault) × IsFirstOf checks fault × (told ≡ telling (Err fault)) × stays)
