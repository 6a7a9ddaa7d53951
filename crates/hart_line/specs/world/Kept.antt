-- Promises about a script beyond `Led`: promises about its worlds, and about the returned device and outcomes (implementation choice).
use Rattle.std.specs.Prelude.{◌≡◌, ◌≤◌, ◌+◌, ◌%◌, ◌^◌, List, [], ℕ, Option, Some, IfSome, IsTrue, false, length, slice_get}
use Rattle.hart_values.specs.EachMaster.{of_master}
use Rattle.hart_line.specs.Types.{MasterId, Reply, Request, DeviceState, Heard, LineEvent, Turn, Outcome, Answered}
use Rattle.hart_commands.specs.Registers.{registers_of}
use Rattle.hart_commands.specs.RequestCode.{is_write}
use Rattle.hart_commands.specs.RequestData.{command_of}
use Rattle.hart_device.specs.answer.Answer.{after_refusal}
use Rattle.hart_line.specs.world.World.{last_executions, times_executed}
use Rattle.hart_line.specs.world.Promises.{AnswersLastSending, AreWellMade, IsExecutedFromHand, IsExecutedInItsTurn, IsLastReset}
use Rattle.hart_line.specs.world.Promises.{IsRefusedByDevice, IsStepOf, IsUnrefusedWrite, brought_in_step, requests_of, sendings_in}
use Rattle.hart_line.specs.world.Step.{IsLast}
use Rattle.hart_line.specs.world.World.{Start, World, first_world, overwrites_of, state_of}

-- The promises about a script that was carried out, with the device and the outcomes that were returned.
pub record KeepsPromises (start : Start) (events : List LineEvent) (device : DeviceState) (outcomes : List Outcome) : Type 0 where
  -- Each request is well made, since it is a value of the type `Request`.
  pub well_made : AreWellMade events
  -- Each accepted reply is the device's answer in the turn in which its request was last sent.
  pub accepted_reply_answers_last_sending : (number : ℕ) (reply : Reply) (sendings : ℕ)
      → slice_get outcomes number ≡ Some (Answered reply sendings) → AnswersLastSending start events number reply sendings
  -- The registers are the initial registers, overwritten by the last execution of each submission, in the order of these executions.
  pub registers_follow_last_executions : (world : World) → IsLast start events world
      → device.contents ≡ registers_of (overwrites_of (last_executions world.executions)) start.device.contents
  -- The counter has grown by the number of executed writes.
  pub counter_counts_executions : (world : World) → IsLast start events world
      → device.counter ≡ (start.device.counter + length world.executions) % 2 ^ 16
  -- A command that is not answered changes nothing. A refused command changes only its master's cold start bit, which the reply shows and
  -- clears. These two facts are true at the end of a script, and in each turn of the script.
  pub refused_commands_change_nothing : (before next : World) (refused : IsRefusedByDevice start events before next)
      → refused.turn.suffix ≡ [] → device ≡ after_refusal (state_of start.device before) refused.frame
  pub refused_turns_change_nothing : (before next : World) (refused : IsRefusedByDevice start events before next)
      → state_of start.device next ≡ after_refusal (state_of start.device before) refused.frame
  -- If a write arrives in a turn and the device answers it with code 0, the request in hand is executed, even if the answer is not heard.
  -- No other write is ever executed. So a write whose accepted reply has code 0 was executed in the turn of that reply. A submission was
  -- executed at most as often as it was sent, and never if it was refused.
  pub unrefused_writes_are_executed : (before next : World) (who : MasterId) (up down : Heard)
      (turn : IsStepOf start (first_world start) events before (Turn who up down) next)
      → IsUnrefusedWrite (state_of start.device before) turn.step.brought → IsExecutedFromHand start events who before next
  pub nothing_else_is_executed : (before next : World) (event : LineEvent)
      (here : IsStepOf start (first_world start) events before event next)
      → (IsUnrefusedWrite (state_of start.device before) (brought_in_step start before event next here.step) → ⊥)
      → next.executions ≡ before.executions
  pub executed_in_its_turn : (number : ℕ) (request : Request) (reply : Reply) (sendings : ℕ)
      → slice_get (requests_of events) number ≡ Some request → IsTrue (is_write (command_of request))
      → slice_get outcomes number ≡ Some (Answered reply sendings) → reply.code ≡ 0
      → IsExecutedInItsTurn start events number request reply sendings
  pub at_most_once_a_sending : (world : World) → IsLast start events world → (number : ℕ)
      → times_executed number world.executions ≤ sendings_in (slice_get outcomes number)
  -- Suppose a master's configuration-changed bit is clear after the script. Then the counter and the registers are as they were before the
  -- turn of this master's last Command 38 with code 0. If that command named a counter, the device's counter still has the named value.
  pub no_change_unseen : (who : MasterId) (before : World) (given : Option ℕ) → IsLastReset start events who before given
      → of_master who device.changed ≡ false → IfSome given (λ counter. device.counter ≡ counter)
      × (device.counter ≡ (state_of start.device before).counter) × (device.contents ≡ (state_of start.device before).contents)
