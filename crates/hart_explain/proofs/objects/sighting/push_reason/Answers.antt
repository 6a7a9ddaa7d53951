use Rattle.std.proofs.Common.{◌+◌, [], ◌∷◌, arith, codes}
use Rattle.json.specs.Print.{escape_byte}
use Rattle.hart_explain.specs.Json.{further_member}
use Rattle.hart_explain.proofs.lemmas.Extended.{also, last}
use Rattle.hart_explain.proofs.lemmas.SightingLengths.{bytes-value-fits, fewer, member-then, no-members, number-fits, text-fits}
use Rattle.hart_explain.proofs.objects.sighting.push_reason.Goals as goal

pub returns-in-Faulty-clause-members : goal.returns-in-Faulty-clause-members
unfolding escape_byte further_member
returns-in-Faulty-clause-members c =
    rw c.in-Faulty.is
    (also _ _ _ _ _ c.push_text.ensures (also _ _ _ _ _ c.push_number.ensures.number
    (also _ _ _ _ _ c.push_text-in-Faulty.ensures (last _ _ _ c.push_quoted_hex.ensures))))

pub returns-in-Faulty-clause-few : goal.returns-in-Faulty-clause-few
returns-in-Faulty-clause-few c =
    let all =
    member-then (codes "reason") (text-fits (codes "faulty") 6 (omega arith))
    (member-then (codes "at") (number-fits (c.args.first + c.in-Faulty.place) 20 c.push_number.ensures.few)
    (member-then (codes "faults") (bytes-value-fits (c.in-Faulty.faults ∷ []) 1 (omega arith)) no-members)) in
    rw c.in-Faulty.is (fewer 600 all (omega arith)).fit

pub returns-in-BadDelimiter-clause-members : goal.returns-in-BadDelimiter-clause-members
unfolding escape_byte further_member
returns-in-BadDelimiter-clause-members c =
    rw c.in-BadDelimiter.is
    (also _ _ _ _ _ c.push_text-in-BadDelimiter.ensures (last _ _ _ c.push_quoted_hex-in-BadDelimiter.ensures))

pub returns-in-BadDelimiter-clause-few : goal.returns-in-BadDelimiter-clause-few
returns-in-BadDelimiter-clause-few c =
    let all =
    member-then (codes "reason") (text-fits (codes "bad_delimiter") 13 (omega arith))
    (member-then (codes "byte") (bytes-value-fits (c.in-BadDelimiter.byte ∷ []) 1 (omega arith)) no-members) in
    rw c.in-BadDelimiter.is (fewer 600 all (omega arith)).fit

pub returns-in-EndsBeforeByteCount-clause-members : goal.returns-in-EndsBeforeByteCount-clause-members
unfolding escape_byte further_member
returns-in-EndsBeforeByteCount-clause-members c =
    rw (c.in-EndsBeforeByteCount.is) c.push_text-in-EndsBeforeByteCount.ensures

pub returns-in-ShortReply-clause-members : goal.returns-in-ShortReply-clause-members
unfolding escape_byte further_member
returns-in-ShortReply-clause-members c =
    rw (c.in-ShortReply.is, ← c.from.ensures)
    (also _ _ _ _ _ c.push_text-in-ShortReply.ensures (last _ _ _ c.push_number-in-ShortReply.ensures.number))

pub returns-in-BadCheck-clause-few : goal.returns-in-BadCheck-clause-few
returns-in-BadCheck-clause-few c =
    let all =
    member-then (codes "reason") (text-fits (codes "bad_check") 9 (omega arith))
    (member-then (codes "at") (number-fits (c.args.first + c.in-BadCheck.place) 20 c.push_number-in-BadCheck.ensures.few)
    (member-then (codes "byte") (bytes-value-fits (c.in-BadCheck.byte ∷ []) 1 (omega arith))
    (member-then (codes "fits") (bytes-value-fits (c.in-BadCheck.fits ∷ []) 1 (omega arith)) no-members))) in
    rw c.in-BadCheck.is (fewer 600 all (omega arith)).fit

pub returns-in-OnePreamble-clause-members : goal.returns-in-OnePreamble-clause-members
unfolding escape_byte further_member
returns-in-OnePreamble-clause-members c = rw (c.in-OnePreamble.is) c.push_text-in-OnePreamble.ensures
