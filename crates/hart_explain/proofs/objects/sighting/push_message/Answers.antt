use Rattle.std.proofs.Common.{[], ◌∷◌, ◌++◌}
use Rattle.json.specs.Print.{escape_byte}
use Rattle.hart_frame.specs.heard.Frames.{moved}
use Rattle.hart_frame.specs.wire.View.{found_of}
use Rattle.hart_explain.specs.Json.{count, further_member, named, word}
use Rattle.hart_explain.specs.Message.{before_member, frame_members, message_members, preambles_members}
use Rattle.hart_explain.specs.Sighting.{time_members}
use Rattle.hart_explain.proofs.lemmas.Extended.{also, last}
use Rattle.hart_explain.proofs.lemmas.Json.{members-on, object-is}
use Rattle.hart_explain.proofs.lemmas.SightingLengths.{message-fits}
use Rattle.hart_explain.proofs.objects.sighting.push_message.Goals as goal

pub returns-clause-object : goal.returns-clause-object
unfolding escape_byte further_member
returns-clause-object c =
    let found = moved c.args.first (found_of c.args.found.now) in
    let time = time_members c.args.date.now in
    let last_one = before_member found.frame.kind c.args.before ∷ [] in
    let counted = preambles_members c.args.before.preambles in
    let after_stop = counted ++ (frame_members found.frame ++ last_one) in
    let stop = named "stop" (count found.stop) in
    let before_is = last _ _ _ (rw c.kind.ensures at c.push_before.ensures.member) in
    let said = members-on _ _ _ (frame_members found.frame) last_one c.push_frame.ensures.members before_is in
    let rest = members-on _ _ _ counted (frame_members found.frame ++ last_one) c.push_preambles.ensures.members said in
    let stop_is = also _ _ _ _ _ c.push_text-3.ensures (last _ _ _ c.push_number-2.ensures.number) in
    let start_is = also _ _ _ _ _ c.push_text-2.ensures (last _ _ _ c.push_number.ensures.number) in
    let places =
    members-on _ _ _ (named "start" (count found.start) ∷ []) (stop ∷ after_stop) start_is
    (members-on _ _ _ (stop ∷ []) after_stop stop_is rest) in
    let members = members-on _ _ _ time (message_members c.args.before found) c.push_time.ensures places in
    rw (object-is (named "type" (word "message")) (time ++ message_members c.args.before found))
    (also _ _ _ _ _ (also _ _ _ _ _ c.push_text.ensures members) c.push_text-4.ensures)

pub returns-clause-few : goal.returns-clause-few
returns-clause-few c = λ short.
    let sending = rw c.kind.ensures at c.push_before.ensures.few in
    message-fits c.args.date.now c.args.before (moved c.args.first (found_of c.args.found.now)) short c.push_number.ensures.few
    c.push_number-2.ensures.few c.push_preambles.ensures.few c.push_frame.ensures.few sending
