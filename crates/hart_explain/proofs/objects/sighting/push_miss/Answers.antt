use Rattle.std.proofs.Common.{[], ◌+◌, ◌∷◌, ◌++◌}
use Rattle.std.specs.Prelude.{option_map}
use Rattle.json.specs.Print.{escape_byte}
use Rattle.hart_frame.specs.heard.Sighting.{miss_in_whole}
use Rattle.hart_frame.specs.wire.Header.{header_parts}
use Rattle.hart_explain.specs.Json.{count, further_member, named, word}
use Rattle.hart_explain.specs.Miss.{miss_members, reason_members, seems_value}
use Rattle.hart_explain.specs.Sighting.{time_members}
use Rattle.hart_explain.proofs.lemmas.Extended.{also, last}
use Rattle.hart_explain.proofs.lemmas.Json.{members-on, object-is}
use Rattle.hart_explain.proofs.lemmas.SightingLengths.{miss-fits}
use Rattle.hart_explain.proofs.objects.sighting.push_miss.Goals as goal

pub returns-clause-object : goal.returns-clause-object
unfolding escape_byte further_member
returns-clause-object c =
    let place = c.args.first + c.args.place in
    let miss = miss_in_whole c.args.first c.args.miss in
    let header = option_map header_parts c.args.header.now in
    let time = time_members c.args.date.now in
    let seems = named "seems" (seems_value header) ∷ [] in
    let rest = members-on _ _ _ (reason_members miss) seems c.push_reason.ensures.members (last _ _ _ c.push_seems.ensures.member) in
    let start_is = also _ _ _ _ _ c.push_text-2.ensures (last _ _ _ c.push_number.ensures.number) in
    let place_is = also _ _ _ _ _ c.push_text-3.ensures (last _ _ _ c.push_number-2.ensures.number) in
    let placed = named "place" (count place) ∷ [] in
    let own =
    members-on _ _ _ (named "start" (count place) ∷ []) (placed ++ reason_members miss ++ seems) start_is
    (members-on _ _ _ placed (reason_members miss ++ seems) place_is rest) in
    let members = members-on _ _ _ time (miss_members place miss header) c.push_time.ensures own in
    rw (object-is (named "type" (word "miss")) (time ++ miss_members place miss header))
    (also _ _ _ _ _ (also _ _ _ _ _ c.push_text.ensures members) c.push_text-4.ensures)

pub returns-clause-few : goal.returns-clause-few
returns-clause-few c = λ short.
    miss-fits c.args.date.now (c.args.first + c.args.place) (miss_in_whole c.args.first c.args.miss)
    (option_map header_parts c.args.header.now) short c.push_number.ensures.few c.push_reason.ensures.few c.push_seems.ensures.few
