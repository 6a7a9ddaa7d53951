-- The names that many proofs of this crate use: from its definitions and its code, from std and from the crates below. Lemmas about
-- options, about lists, and about the values that two masters have.
pub use Rattle.hart_commands.specs.Registers.{AreValid, Contents, overwrite_of, overwritten, registers_of}
pub use Rattle.hart_commands.specs.RequestData.{IsRequest, command_of}
pub use Rattle.hart_device.specs.Device.{IsDevice, after, after_reply}
pub use Rattle.hart_device.specs.answer.Answer.{after_refusal, answer_of, code_of, effect_of, is_answered, reading_of, reply_of}
pub use Rattle.hart_device.specs.answer.Delivery.{Brings, BringsBy, answer_to, state_after_delivery}
pub use Rattle.hart_device.specs.declared.identity_parts.IdentityParts.{IdentityParts}
pub use Rattle.hart_frame.proofs.lemmas.Laws.{messages_have_their_frame_alone-message, messages_have_their_frame_alone-nothing}
pub use Rattle.hart_text.specs.Item.{AreDigits, BeginsAsItem, BeginsWithItem, EndsBefore, Faulty, IsValidItem, Item, NoItemBegins, Plain}
pub use Rattle.hart_text.specs.Item.{byte_of, item_meaning, item_spelling}
pub use Rattle.hart_line.specs.Types.{Address, Answered, BadLine, Brought, Character, Chars, Clean, DeviceState, EachMaster, Effect}
pub use Rattle.hart_line.specs.Types.{Executes, FrameParts, Garbled, Heard, Leg, LineEvent, LineFault, Lost, MasterFault, MasterId, Memory}
pub use Rattle.hart_line.specs.Types.{NoMessage, Noise, Nothing, OneFrame, Outcome, Overwrite, Primary, Process, Protect, Refused, Reply}
pub use Rattle.hart_line.specs.Types.{Request, Resets, Restart, Secondary, Spoken, Submit, Turn, Undetected, Unfinished}
pub use Rattle.hart_line.specs.declared.line.report.Party.{Party}
pub use Rattle.hart_line.specs.declared.script.rows.RowFault.{RowFault}
pub use Rattle.hart_line.specs.line.Leg.{AnswersTo, IsSent, IsSpeakable}
pub use Rattle.hart_line.specs.line.Line.{LineState, Stands, Stepped}
pub use Rattle.hart_line.specs.line.Masters.{AreHeld, Concludes, Submits, hand_of}
pub use Rattle.hart_line.specs.script.Items.{AreItems, IsItemsWord}
pub use Rattle.hart_line.specs.script.Rows.{AreEvents, HasFirstBadLine, IsBadLine, IsLegWord, IsScript, IsScriptFault, AddsLine}
pub use Rattle.hart_line.specs.script.Rows.{IsLineFault, IsNeededByItems, IsNeededByLeg, IsNeededByWords, ReadsWords, Says, is_skipped}
pub use Rattle.hart_line.specs.script.Rows.{lines_in_words, request_of}
pub use Rattle.hart_line.specs.script.Words.{Finds, HasNoValue, address_of, who_of}
pub use Rattle.hart_line.specs.world.Damage.{AreHeard, Arrives, ArrivesAmong, IsDetectable, IsDetected, IsUndetected, Reaches, ReachesAmong}
pub use Rattle.hart_line.specs.world.World.{has_execution_of, last_executions, times_executed, Execution, InHand, MarksWithin, Start, World}
pub use Rattle.hart_line.specs.world.World.{first_world, overwrites_of, state_of}
pub use Rattle.hart_line.specs.world.Faults.{IsFault}
pub use Rattle.hart_line.specs.world.Step.{Led, Accepts, IsLast, IsTurn, LeadsTo, Step, cold_start_after, effect_on, executions_after}
pub use Rattle.hart_line.specs.world.Step.{marks_after, outcome_of, replied, sent_back, sent_by, spoken_request, submission_fault}
pub use Rattle.hart_line.specs.world.Step.{submitted, turned}
pub use Rattle.hart_line.specs.world.Promises.{AnswersLastSending, AreWellMade, HasNoReset, IsExecutedFromHand, IsExecutedInItsTurn}
pub use Rattle.hart_line.specs.world.Promises.{IsLastReset, IsRefusedByDevice, IsStepOf, IsUnrefusedWrite, IsWellMadeStart, Submission}
pub use Rattle.hart_line.specs.world.Promises.{brought_in_step, requests_of, sendings_in, start_from, submission_in, submissions_of}
pub use Rattle.hart_line.specs.world.Spoken.{AreSpoken, IsSpoken, Speaks, SpokenFrame, frame_if, frame_of, master_preambles, party_of}
pub use Rattle.hart_line.specs.world.Spoken.{spoken_by}
pub use Rattle.hart_master.specs.Master.{FrameBrings, MasterState, hand_sent, hand_submitted, result_submitted}
pub use Rattle.hart_values.specs.EachMaster.{of_master, with_master}
pub use Rattle.std.proofs.Common.{Bool, Err, IfSome, IsSome, IsTrue, List, None, Ok, Option, Result, Some, [], ap, append-nil, append_assoc}
pub use Rattle.std.proofs.Common.{arith, codes, drop, false, get_or, if◌then◌else◌, inl, inr, is_some, length, length-append, map, pred}
pub use Rattle.std.proofs.Common.{refl, replicate, rules, slice_index, slice_set, subst, suc, sym, take, tests, true, unwrap_or, zero, ℕ}
pub use Rattle.std.proofs.Common.{◌&&◌, ◌*◌, ◌++◌, ◌+◌, ◌-◌, ◌/◌, ◌<◌, ◌==◌, ◌^◌, ◌∙◌, ◌∷◌, ◌≡◌, ◌≢◌, ◌≤◌, ◌⊎◌}
pub use Rattle.std.proofs.Math.Nat.{mod-add-mod, mod-eq_of_lt, mul_comm}
pub use Rattle.std.proofs.lemmas.Bool.{cases_eq, cases_lt, false_from_ne_true}
pub use Rattle.std.proofs.lemmas.Bool.Decides.{nat_tests}
pub use Rattle.std.proofs.lemmas.Grind.{common_steps, elements, get_or-set_at}
pub use Rattle.std.proofs.lemmas.List.{drop_more, get_or-map, get_or-set_other, length-map, length_push, map-append, take_all, take_more}
pub use Rattle.std.proofs.lemmas.List.{take_rest}
pub use Rattle.std.proofs.lemmas.List.Elements.{All-append, All-push, filter-append}
pub use Rattle.std.proofs.lemmas.List.Sums.{prefix_len-le-length, sum_by-append}
pub use Rattle.std.proofs.lemmas.Option.{same_Some, slice_get-get_or}
pub use Rattle.std.proofs.lemmas.Result.{err_from_is_err_and}
pub use Rattle.std.proofs.lemmas.Slice.Eq.{bytes_eq-Decides, text_from_reads}
pub use Rattle.std.proofs.lemmas.Slice.Zip.{AllZip-long, all_zipped_more}
pub use Rattle.std.specs.List.{All, AllByRecursion, AllZip, Any, Contains, filter, flat_map, slice_get}
pub use Rattle.std.specs.Option.{MatchOption, ok_or, option_and_then, option_map, option_or, option_to_list}
pub use Rattle.std.specs.Str.{all_ascii_digits, bytes_eq}

pub some_of : {A : Type 0} (a : Option A) → IsSome a → (x : A) × (a ≡ Some x)
some_of None is = cc
some_of (Some x) is = (x, refl)

pub none_or_some : {A : Type 0} (a : Option A) → (a ≡ None) ⊎ (x : A) × (a ≡ Some x)
none_or_some None = inl refl
none_or_some (Some x) = inr (x, refl)

-- After one master got a new value, it has this value, and the other master has its old one.
pub with_master-cases : {A : Type 0} (id who : MasterId) (a : Option A) (each : EachMaster (Option A)) (x : A)
    → of_master id (with_master who a each) ≡ Some x → ((id ≡ who) × (a ≡ Some x)) ⊎ ((id ≢ who) × (of_master id each ≡ Some x))
with_master-cases id who a each x is = grind arith

pub with_master-same : {A : Type 0} (id : MasterId) (a : A) (each : EachMaster A) → of_master id each ≡ a → with_master id a each ≡ each
with_master-same id a each is = grind arith

-- What is in a list after another list was appended, and after an element was stored.
pub slice_get-append : {A : Type 0} (xs ys : List A) (n : ℕ)
    → slice_get (xs ++ ys) n ≡ option_or (slice_get xs n) (slice_get ys (n - length xs))
slice_get-append [] ys n = grind arith
slice_get-append (y ∷ xs) ys n = grind (arith, slice_get-append xs ys)

pub slice_get-set : {A : Type 0} (xs : List A) (k n : ℕ) (y : A)
    → slice_get (slice_set xs k y) n ≡ (if n == k then option_map (λ x. y) (slice_get xs n) else slice_get xs n)
slice_get-set [] k n y = grind arith
slice_get-set (z ∷ xs) k n y = grind (arith, nat_tests, slice_get-set xs)
