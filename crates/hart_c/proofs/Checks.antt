-- Which fault a list of checks has. A call has only one outcome, and at most one message is written for an answer.
use Rattle.std.proofs.Common.{◌≡◌, ◌⊎◌, ℕ, List, Option, None, Some, arith, length, sym, ◌∙◌, inl, inr, [], ◌∷◌, ◌++◌, Result, Ok, Err}
use Rattle.std.proofs.lemmas.Grind.{common_steps}
use Rattle.hart_frame.specs.wire.FrameParts.{FrameParts}
use Rattle.hart_frame.specs.wire.Message.{IsMessage}
use Rattle.hart_frame.proofs.lemmas.Laws.{bodies_are_unambiguous-one_body}
use Rattle.hart_c.specs.Device.{IsSaid}
use Rattle.hart_c.specs.Messages.{HasNoRoom, IsWritten}
use Rattle.std.specs.Prelude.{IfErr, IfOk}
use Rattle.hart_c.specs.Faults.{AllPass, Check, IsFirstOf, needs, refused_if}
use Rattle.hart_c.specs.declared.fault.Fault.{Fault}

-- an outcome is unique if there is only one success, only one fault, and never a success and a fault together
pub one_outcome : {A B C D R : Type 0} → (A → C → R) → (A → D → ⊥) → (B → C → ⊥) → (B → D → R) → A ⊎ B → C ⊎ D → R
one_outcome both free none one is again = grind arith

-- a frame has only one message for each number of preamble bytes
pub one_message : (frame : FrameParts) (preambles : ℕ) (message other : List ℕ) → IsMessage frame preambles message
    → IsMessage frame preambles other → message ≡ other
one_message frame preambles message other is again = grind (arith, bodies_are_unambiguous-one_body frame)

-- at most one list of bytes is sent for an answer
one_saying : (answer : Option FrameParts) (preambles : ℕ) (bytes other : List ℕ) → IsSaid answer preambles bytes
    → IsSaid answer preambles other → bytes ≡ other
one_saying None preambles bytes other is again = is ∙ sym again
one_saying (Some reply) preambles bytes other is again = one_message reply preambles bytes other is again

-- an answer is written in at most one way
pub one_said : (answer : Option FrameParts) (preambles : ℕ) (old new newer : List ℕ) (len size : ℕ)
    → IsWritten (IsSaid answer preambles) old new len → IsWritten (IsSaid answer preambles) old newer size
    → (len ≡ size) × (new ≡ newer)
one_said answer preambles old new newer len size is again =
    let same = one_saying answer preambles is.0 again.0 is.1 again.1 in grind (arith, same)

-- if an answer was written, the output had room for it
pub said_fits : (answer : Option FrameParts) (preambles : ℕ) (old new : List ℕ) (len : ℕ)
    → IsWritten (IsSaid answer preambles) old new len → HasNoRoom (IsSaid answer preambles) (length old) → ⊥
said_fits answer preambles old new len is none =
    let same = one_saying answer preambles is.0 none.0 is.1 none.1 in grind (arith, common_steps, same)

-- a sound check: it refuses with at most one fault, and it does not refuse a call that passes it
pub record IsSound (check : Check) : Type 0 where
  pub one : (fault other : Fault) → check.refuses fault → check.refuses other → fault ≡ other
  pub not_both : (fault : Fault) → check.passes → check.refuses fault → ⊥

abbrev pub AreSound : List Check → Type 0
AreSound [] = Unit {0}
AreSound (check ∷ checks) = IsSound check × AreSound checks

pub needs-sound : (good : Type 0) (fault : Fault) → IsSound (needs good fault)
needs-sound good fault = record { one = λ told other why because. why.1 ∙ sym because.1; not_both = λ told is why. why.0 is }

pub refused_if-sound : (bad : Type 0) (fault : Fault) → IsSound (refused_if bad fault)
refused_if-sound bad fault = record { one = λ told other why because. why.1 ∙ sym because.1; not_both = λ told is why. is why.0 }

-- a list of sound checks has at most one first fault
pub first_one : (checks : List Check) → AreSound checks → (fault other : Fault) → IsFirstOf checks fault → IsFirstOf checks other
    → fault ≡ other
first_one [] sound fault other why because = absurd why
first_one (check ∷ checks) sound fault other (inl why) (inl because) = sound.0.one fault other why because
first_one (check ∷ checks) sound fault other (inl why) (inr because) = absurd (sound.0.not_both fault because.0 why)
first_one (check ∷ checks) sound fault other (inr why) (inl because) = absurd (sound.0.not_both other why.0 because)
first_one (check ∷ checks) sound fault other (inr why) (inr because) = first_one checks sound.1 fault other why.1 because.1

-- a list of sound checks has no first fault if a call passes them all
pub first_none : (checks : List Check) → AreSound checks → AllPass checks → (fault : Fault) → IsFirstOf checks fault → ⊥
first_none [] sound passed fault why = why
first_none (check ∷ checks) sound passed fault (inl why) = sound.0.not_both fault passed.0 why
first_none (check ∷ checks) sound passed fault (inr why) = first_none checks sound.1 passed.1 fault why.1

-- the first fault of some checks is still the first fault if further checks follow them
pub first_before : (checks others : List Check) (fault : Fault) → IsFirstOf checks fault → IsFirstOf (checks ++ others) fault
first_before [] others fault why = absurd why
first_before (check ∷ checks) others fault (inl why) = inl why
first_before (check ∷ checks) others fault (inr why) = inr (why.0, first_before checks others fault why.1)

pub first_after : (checks others : List Check) (fault : Fault) → AllPass checks → IsFirstOf others fault
    → IsFirstOf (checks ++ others) fault
first_after [] others fault passed why = why
first_after (check ∷ checks) others fault passed why = inr (passed.0, first_after checks others fault passed.1 why)

-- if two facts are true of the number of bytes when there is no fault, so is what follows from them
pub if_ok : (result : Result ℕ Fault) (P Q R : ℕ → Type 0) → ((len : ℕ) → P len → Q len → R len) → IfOk result P → IfOk result Q
    → IfOk result R
if_ok (Ok len) P Q R follows first second = follows len first second
if_ok (Err fault) P Q R follows first second = tt

-- if a fact is true of the fault when there is one, so is what follows from it
pub if_err : (result : Result ℕ Fault) (P Q : Fault → Type 0) → ((fault : Fault) → P fault → Q fault) → IfErr result P → IfErr result Q
if_err (Ok len) P Q follows refused = tt
if_err (Err fault) P Q follows refused = follows fault refused
