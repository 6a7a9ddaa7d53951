use Rattle.std.proofs.Common.{◌-◌, ◌+◌, ◌^◌, ◌∙◌, refl, arith, sym}
use Rattle.hart_frame.specs.heard.Frames.{moved}
use Rattle.hart_frame.specs.wire.View.{found_of}
use Rattle.hart_values.specs.EachMaster.{with_master}
use Rattle.hart_values.specs.declared.master_id.MasterId.TheVariants.{Primary, Secondary}
use Rattle.hart_listen.specs.LastMessages.{KeepsOwn}
use Rattle.hart_listen.proofs.lemmas.Before.{before_is, heard_alike, own_more}
use Rattle.hart_listen.proofs.last_messages.hear_message.Goals as goal

pub returns-in-Primary-clause-before : goal.returns-in-Primary-clause-before
returns-in-Primary-clause-before c =
    let is = sym c.master.ensures ∙ c.in-Primary.is in
    before_is c.args.last.now (2 ^ 64 - 2) (moved c.args.first (found_of c.args.found.now)) c.hear_frame.result Primary c.requires.own is
    c.hear_frame.ensures.answers c.hear_frame.ensures.sending c.hear_frame.ensures.preambles

pub returns-in-Primary-clause-alike : goal.returns-in-Primary-clause-alike
returns-in-Primary-clause-alike c =
    let f = moved c.args.first (found_of c.args.found.now) in
    let is = sym c.master.ensures ∙ c.in-Primary.is in
    let kept : KeepsOwn (2 ^ 64 - 2 + 1) (with_master Primary c.hear_frame.new.last c.args.last.now) =
    let more = own_more (2 ^ 64 - 2) (2 ^ 64 - 2 + 1) c.args.last.now (omega arith) c.requires.own in
    (c.hear_frame.ensures.own Primary (2 ^ 64 - 2) is c.requires.own.0, more.1) in
    heard_alike c.args.last.now _ (2 ^ 64 - 2) f c.hear_frame.new.last Primary c.requires.own kept refl is
    (c.hear_frame.ensures.agree f.stop)

pub returns-in-Secondary-clause-before : goal.returns-in-Secondary-clause-before
returns-in-Secondary-clause-before c =
    let is = sym c.master.ensures ∙ c.in-Secondary.is in
    before_is c.args.last.now (2 ^ 64 - 2) (moved c.args.first (found_of c.args.found.now)) c.hear_frame-in-Secondary.result Secondary
    c.requires.own is
    c.hear_frame-in-Secondary.ensures.answers c.hear_frame-in-Secondary.ensures.sending
    c.hear_frame-in-Secondary.ensures.preambles

pub returns-in-Secondary-clause-alike : goal.returns-in-Secondary-clause-alike
returns-in-Secondary-clause-alike c =
    let f = moved c.args.first (found_of c.args.found.now) in
    let is = sym c.master.ensures ∙ c.in-Secondary.is in
    let kept : KeepsOwn (2 ^ 64 - 2 + 1) (with_master Secondary c.hear_frame-in-Secondary.new.last c.args.last.now) =
    let more = own_more (2 ^ 64 - 2) (2 ^ 64 - 2 + 1) c.args.last.now (omega arith) c.requires.own in
    (more.0, c.hear_frame-in-Secondary.ensures.own Secondary (2 ^ 64 - 2) is c.requires.own.1) in
    heard_alike c.args.last.now _ (2 ^ 64 - 2) f c.hear_frame-in-Secondary.new.last Secondary c.requires.own kept refl is
    (c.hear_frame-in-Secondary.ensures.agree f.stop)
