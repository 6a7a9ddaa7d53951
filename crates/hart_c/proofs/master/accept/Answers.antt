use Rattle.std.proofs.Common.{◌≡◌, ap, arith, map, refl, rules, subst, sym, Bool, List, [], ◌∷◌, Ok, Err, Result, true, false}
use Rattle.std.specs.Prelude.{if◌then◌else◌, not}
use Rattle.hart_frame.specs.declared.scan.first.LoneFrame.TheVariants.{Alone}
use Rattle.hart_frame.specs.heard.Frames.{AreFrames}
use Rattle.hart_commands.specs.declared.{reply.Reply.Reply, request.Request.Request}
use Rattle.hart_commands.proofs.lemmas.Laws.{requests_have_their_command}
use Rattle.hart_c.specs.Acceptance.{IsAsked, IsJudged, acceptance_of}
use Rattle.hart_c.specs.Faults.{AllPass}
use Rattle.hart_c.specs.Find.{char_of}
use Rattle.hart_c.specs.Master.{Accepts, accept_checks}
use Rattle.hart_c.specs.Messages.{frame_checks}
use Rattle.hart_c.specs.Numbers.{IsTidy, found_in, frame_in}
use Rattle.hart_c.specs.declared.find.HartChar.{HartChar}
use Rattle.hart_c.specs.declared.frame.HartFrame.{HartFrame}
use Rattle.hart_c.specs.declared.master.HartAcceptance.{HartAcceptance}
use Rattle.hart_c.specs.declared.reason.Unaccepted.{Unaccepted}
use Rattle.hart_c.proofs.Checks.{first_none, needs-sound}
use Rattle.hart_c.proofs.master.accept.Goals as goal

-- the only frame of a delivery is shown if it is accepted
accepts : (numbers : HartFrame) (heard : List HartChar) (before found after : HartFrame) (said : Result Reply Unaccepted)
    (request : Request)
    → AllPass (accept_checks numbers heard) → IsAsked (frame_in numbers) request
    → AreFrames (map char_of heard) 0 (found_in found ∷ []) → IsTidy found
    → IsJudged (frame_in numbers).master (frame_in numbers).address request (frame_in found) said
    → after ≡ (if (acceptance_of (Ok said)).is_accepted then found else before) → Accepts numbers heard before after said
accepts numbers heard before found after (Ok reply) request passed asked alone tidy judged is = record {
  passed = passed;
  request = request;
  asked = asked;
  reply = (record { found = found_in found; alone = alone; is_reply = judged }, ap found_in is, subst IsTidy (sym is) tidy);
}
accepts numbers heard before found after (Err reason) request passed asked alone tidy judged is = record {
  passed = passed;
  request = request;
  asked = asked;
  reply = ((Alone (found_in found), alone, judged), is);
}

-- the output shows the frame that was found if a reply is accepted, and is unchanged otherwise
shown_if : (is : Bool) (found before : HartFrame) → is ≡ true → found ≡ (if is then found else before)
shown_if true found before accepted = refl
shown_if false found before accepted = absurd cc

kept_if : (is : Bool) (found before : HartFrame) → is ≡ false → before ≡ (if is then found else before)
kept_if true found before accepted = absurd cc
kept_if false found before accepted = refl

-- two equal results both say that a reply is accepted, or neither does
accepted_of : (told other : HartAcceptance) → told ≡ other → not told.is_accepted ≡ false → other.is_accepted ≡ true
accepted_of told other same is = grind arith

not_accepted_of : (told other : HartAcceptance) → told ≡ other → not told.is_accepted ≡ true → other.is_accepted ≡ false
not_accepted_of told other same is = grind arith

pub returns-in-Err-clause-accepted : goal.returns-in-Err-clause-accepted
returns-in-Err-clause-accepted c =
    let (address, (expansion, (payload, (asked, (may, end))))) = c.in_ok-request.ensures.passed in
    let frame = frame_in c.args.request.now in (
      Err c.in-Err.reason,
      record {
        passed = (address, (expansion, (payload, (asked, (may, c.in_ok-check_heard.ensures.accepted)))));
        request = asked.0;
        asked = asked.1;
        reply = (c.in-Err.ensures.none frame.master frame.address asked.0, refl);
      },
      c.acceptance_of.ensures,
    )

pub returns-in_err-frame-clause-refused : goal.returns-in_err-frame-clause-refused
returns-in_err-frame-clause-refused c =
    absurd
    (first_none (frame_checks c.find_alone.new.frame) (search (rules, needs-sound)) c.in_default.ensures.tidy.1 c.in_err-frame.field-0.0
    c.in_err-frame.ensures.refused)

pub returns-then-not-told-clause-accepted : goal.returns-then-not-told-clause-accepted
returns-then-not-told-clause-accepted c =
    let (address, (expansion, (payload, (asked, (may, end))))) = c.in_ok-request.ensures.passed in
    let judged = rw (c.in_ok-request.ensures.same, c.in_ok-frame.ensures.same) at c.judged-told.ensures in
    let told = judged asked.0 (requests_have_their_command _ _ asked.0 asked.1.reading).0 in
    let passed : AllPass (accept_checks c.args.request.now c.args.heard.now) =
    (address, (expansion, (payload, (asked, (may, c.in_ok-check_heard.ensures.accepted))))) in
    let refused : (acceptance_of (Ok told.0)).is_accepted ≡ false = not_accepted_of _ _ told.2 c.if-not-told.true in (
      told.0,
      accepts c.args.request.now c.args.heard.now c.args.reply.now c.find_alone.new.frame c.args.reply.now told.0 asked.0 passed asked.1
          c.in_default.ensures.alone c.in_default.ensures.tidy.0 told.1 (kept_if _ _ _ refused),
      told.2,
    )

pub returns-clause-accepted : goal.returns-clause-accepted
returns-clause-accepted c =
    let (address, (expansion, (payload, (asked, (may, end))))) = c.in_ok-request.ensures.passed in
    let judged = rw (c.in_ok-request.ensures.same, c.in_ok-frame.ensures.same) at c.judged-told.ensures in
    let told = judged asked.0 (requests_have_their_command _ _ asked.0 asked.1.reading).0 in
    let passed : AllPass (accept_checks c.args.request.now c.args.heard.now) =
    (address, (expansion, (payload, (asked, (may, c.in_ok-check_heard.ensures.accepted))))) in
    let accepted : (acceptance_of (Ok told.0)).is_accepted ≡ true = accepted_of _ _ told.2 c.if-not-told.false in (
      told.0,
      accepts c.args.request.now c.args.heard.now c.args.reply.now c.find_alone.new.frame c.find_alone.new.frame told.0 asked.0 passed
          asked.1 c.in_default.ensures.alone c.in_default.ensures.tidy.0 told.1 (shown_if _ _ _ accepted),
      told.2,
    )
