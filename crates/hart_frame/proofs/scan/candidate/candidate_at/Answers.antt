use Rattle.hart_frame.proofs.Common.{◌+◌, ◌≡◌, ◌≤◌, arith, drop, drop-drop, length, length-drop, get_or, get_or-drop}
use Rattle.hart_frame.proofs.lemmas.scan.Candidate.{candidate_is, candidate_short, prefix_short}
use Rattle.hart_frame.proofs.lemmas.wire.Parity.{fits_drop}
use Rattle.hart_frame.proofs.scan.candidate.candidate_at.Goals as goal

pub returns-clause-candidate : goal.returns-clause-candidate
returns-clause-candidate c =
    let bytes = c.args.bytes.now in
    let start = c.args.start in
    let long : 2 ≤ length (drop start bytes) = omega (arith, length-drop start bytes, c.requires.some) in
    let first : get_or (drop start bytes) 0 0 ≡ 255 = grind (arith, get_or-drop start bytes 0 0, c.requires.first) in
    let second : get_or (drop start bytes) 1 0 ≡ 255 = grind (arith, get_or-drop start bytes 1 0, c.requires.second) in
    rw c.candidate_of.ensures
    (candidate_is (drop start bytes) long first second c.prefix_at.result (rw (drop-drop 2 start bytes) c.prefix_at.ensures.prefix))

pub returns-clause-few : goal.returns-clause-few
returns-clause-few c =
    let bytes = c.args.bytes.now in
    let start = c.args.start in
    let long : 2 ≤ length (drop start bytes) = omega (arith, length-drop start bytes, c.requires.some) in
    let first : get_or (drop start bytes) 0 0 ≡ 255 = grind (arith, get_or-drop start bytes 0 0, c.requires.first) in
    let second : get_or (drop start bytes) 1 0 ≡ 255 = grind (arith, get_or-drop start bytes 1 0, c.requires.second) in
    rw c.candidate_of.ensures
    (candidate_short (drop start bytes) long first second c.prefix_at.result
    (fits_drop bytes start (λ i. omega (arith, c.type_inv.bytes i))) (rw (drop-drop 2 start bytes) c.prefix_at.ensures.prefix))

pub candidate_of-requires : goal.candidate_of-requires
candidate_of-requires c =
    let place = c.args.start + 2 in
    prefix_short (drop place c.args.bytes.now) c.prefix_at.result
    (fits_drop c.args.bytes.now place (λ i. omega (arith, c.type_inv.bytes i))) c.prefix_at.ensures.prefix
