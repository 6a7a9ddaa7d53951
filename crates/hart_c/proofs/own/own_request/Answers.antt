use Rattle.std.proofs.Common.{◌≡◌, List, [], ◌∷◌, None, Some, Result, Ok, Err, true, arith, inl, inr, map, refl, rules, subst, sym, take}
use Rattle.std.proofs.lemmas.Grind.{common_steps}
use Rattle.std.specs.Prelude.{IfErr, IfOk, ℕ}
use Rattle.std.specs.Result.{result_ok}
use Rattle.hart_frame.specs.declared.heard.found.Found.{Found}
use Rattle.hart_frame.specs.declared.scan.first.LoneFrame.TheVariants.{Alone}
use Rattle.hart_frame.specs.heard.Frames.{AreFrames}
use Rattle.hart_device.specs.Device.{DeviceState}
use Rattle.hart_device.specs.answer.Delivery.{OneFrame}
use Rattle.hart_device.specs.declared.process.Process.{Process}
use Rattle.hart_device.proofs.lemmas.Laws.{images_have_no_fault}
use Rattle.hart_c.specs.Device.{IsKept, image_in, state_checks}
use Rattle.hart_c.specs.Faults.{AllPass, IsFirstOf}
use Rattle.hart_c.specs.Find.{char_of, heard_checks}
use Rattle.hart_c.specs.Numbers.{IsProcessOf, found_in, parts_of}
use Rattle.hart_c.specs.Own.{AsksOwn, asks_listed}
use Rattle.hart_c.specs.declared.device.HartDevice.{HartDevice}
use Rattle.hart_c.specs.declared.fault.Fault.{Fault}
use Rattle.hart_c.specs.declared.find.HartChar.{HartChar}
use Rattle.hart_c.specs.declared.frame.HartFrame.{HartFrame}
use Rattle.hart_c.specs.declared.identity.HartIdentity.{HartIdentity}
use Rattle.hart_c.specs.declared.process.HartProcess.{HartProcess}
use Rattle.hart_c.proofs.Checks.{first_none, needs-sound}
use Rattle.hart_c.proofs.Kept.{devices_are_kept-one_state}
use Rattle.hart_c.proofs.own.own_request.Goals as goal

-- if a result is turned into `None`, it was a fault
failed : {T : Type 0} (result : Result T Fault) (P : Fault → Type 0) → result_ok result ≡ None → IfErr result P → (fault : Fault) × P fault
failed (Ok done) P none why = absurd cc
failed (Err fault) P none why = (fault, why)

-- if a result is turned into `Some`, it was no fault
succeeded : {T : Type 0} (result : Result T Fault) (P : T → Type 0) (done : T) → result_ok result ≡ Some done → IfOk result P → P done
succeeded (Ok made) P done is holds = let same : made ≡ done = grind arith in subst P same holds
succeeded (Err fault) P done is holds = absurd cc

-- if a kept device has a fault, it has no state
no_state : (identity : HartIdentity) (device : HartDevice) (fault : Fault) → IsFirstOf (state_checks identity device) fault
    → (state : DeviceState) → IsKept (parts_of identity) device state → ⊥
no_state identity device fault (inl why) state kept = grind (arith, kept.is_identity)
no_state identity device fault (inr (is, inl why)) state kept = why.0 kept.fits
no_state identity device fault (inr (is, inr (fits, inl why))) state kept =
    images_have_no_fault state (image_in device) why.0 kept.image why.1
no_state identity device fault (inr (is, inr (fits, inr why))) state kept = why.1

-- the only frame of a delivery that asks a listed command
asks_of : (identity : HartIdentity) (process : HartProcess) (own : List ℕ) (heard : List HartChar) (device : HartDevice)
    (asked : HartFrame) (state : DeviceState) (measured : Process) (found : Found) → IsKept (parts_of identity) device state
    → IsProcessOf process measured → AllPass (heard_checks heard) → AreFrames (map char_of heard) 0 (found ∷ [])
    → asks_listed state own found.frame ≡ true → found_in asked ≡ found → AsksOwn identity process own heard device asked
asks_of identity process own heard device asked state measured found kept is_process delivery alone asks is =
    let only : AreFrames (map char_of heard) 0 (found_in asked ∷ []) = rw is alone in
    record {
      hearing = record {
        state = state;
        measured = measured;
        brought = OneFrame (found_in asked).frame;
        kept = kept;
        process_is = is_process;
        delivery = delivery;
        brings = record { frames = found_in asked ∷ []; are_frames = only; by_frames = refl };
      };
      alone = only;
      asks = subst (λ (other : Found). asks_listed state own other.frame ≡ true) (sym is) asks;
    }

pub returns-in_err-state-clause-none : goal.returns-in_err-state-clause-none
returns-in_err-state-clause-none c nothing asked is =
    let none : result_ok c.kept_state.result ≡ None = grind (arith, common_steps) in
    let why = failed c.kept_state.result _ none c.kept_state.ensures.refused in
    no_state c.args.identity.now c.args.device.now why.0 why.1 is.hearing.state is.hearing.kept

pub returns-in_err-delivery-clause-none : goal.returns-in_err-delivery-clause-none
returns-in_err-delivery-clause-none c nothing asked is =
    let none : result_ok c.hear_into.result ≡ None = grind (arith, common_steps) in
    let why = failed c.hear_into.result _ none c.hear_into.ensures.refused in
    first_none (heard_checks c.args.heard.now) (search (rules, needs-sound)) is.hearing.delivery why.0 why.1

pub returns-in_default : goal.returns-in_default
returns-in_default c = record {
  asks = λ asked. tt;
  none = λ nothing asked is.
      let kept : result_ok c.hear_into.result ≡ Some c.in_ok-delivery.delivery = grind (arith, common_steps) in
      let same = succeeded c.hear_into.result (λ len. take len c.hear_into.new.chars ≡ map char_of c.args.heard.now)
      c.in_ok-delivery.delivery kept c.hear_into.ensures.same in
      let only : c.lone_frame.result ≡ Alone (found_in asked) = c.lone_frame.ensures.only (found_in asked ∷ []) (rw same is.alone) in
      grind (arith, only, c.in_default.not-Alone);
}

pub returns-then-asks_listed-clause-asks : goal.returns-then-asks_listed-clause-asks
returns-then-asks_listed-clause-asks c asked is =
    let state_is : result_ok c.kept_state.result ≡ Some c.in_ok-state.state = grind (arith, common_steps) in
    let state = succeeded c.kept_state.result (IsKept (parts_of c.args.identity.now) c.args.device.now) c.in_ok-state.state state_is
    c.kept_state.ensures.kept in
    let kept : result_ok c.hear_into.result ≡ Some c.in_ok-delivery.delivery = grind (arith, common_steps) in
    let same = succeeded c.hear_into.result (λ len. take len c.hear_into.new.chars ≡ map char_of c.args.heard.now)
    c.in_ok-delivery.delivery kept c.hear_into.ensures.same in
    let delivery = succeeded c.hear_into.result (λ len. AllPass (heard_checks c.args.heard.now)) c.in_ok-delivery.delivery kept
    c.hear_into.ensures.accepted in
    let alone : AreFrames (map char_of c.args.heard.now) 0 (c.in-Alone.found ∷ []) = rw same at c.in-Alone.ensures.lone in
    let asks : asks_listed c.in_ok-state.state c.args.own.now c.in-Alone.found.frame ≡ true =
    grind (arith, c.asks_listed.ensures, c.if-asks_listed.true) in
    asks_of c.args.identity.now c.args.process.now c.args.own.now c.args.heard.now c.args.device.now asked c.in_ok-state.state
    c.in_ok-process_of.field-0 c.in-Alone.found state c.in_ok-process_of.ensures.same delivery alone asks is

pub returns-else-asks_listed-clause-none : goal.returns-else-asks_listed-clause-none
returns-else-asks_listed-clause-none c nothing asked is =
    let state_is : result_ok c.kept_state.result ≡ Some c.in_ok-state.state = grind (arith, common_steps) in
    let state = succeeded c.kept_state.result (IsKept (parts_of c.args.identity.now) c.args.device.now) c.in_ok-state.state state_is
    c.kept_state.ensures.kept in
    let kept : result_ok c.hear_into.result ≡ Some c.in_ok-delivery.delivery = grind (arith, common_steps) in
    let same = succeeded c.hear_into.result (λ len. take len c.hear_into.new.chars ≡ map char_of c.args.heard.now)
    c.in_ok-delivery.delivery kept c.hear_into.ensures.same in
    let only : c.lone_frame.result ≡ Alone (found_in asked) = c.lone_frame.ensures.only (found_in asked ∷ []) (rw same is.alone) in
    let found : c.in-Alone.found ≡ found_in asked = grind (arith, only, c.in-Alone.is) in
    let one = devices_are_kept-one_state (parts_of c.args.identity.now) c.args.device.now c.in_ok-state.state is.hearing.state state
    is.hearing.kept in
    let asks : asks_listed c.in_ok-state.state c.args.own.now c.in-Alone.found.frame ≡ true = rw (one, found) is.asks in
    grind (arith, asks, c.asks_listed.ensures, c.if-asks_listed.false)
