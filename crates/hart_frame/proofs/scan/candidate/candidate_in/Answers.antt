use Rattle.hart_frame.proofs.Common.{arith, drop, take_rest}
use Rattle.hart_frame.proofs.lemmas.scan.Candidate.{candidate_is, candidate_short, prefix_short}
use Rattle.hart_frame.proofs.lemmas.wire.Parity.{fits_drop}
use Rattle.hart_frame.proofs.scan.candidate.candidate_in.Goals as goal

pub returns-clause-candidate : goal.returns-clause-candidate
returns-clause-candidate c =
    rw c.candidate_of.ensures
    (candidate_is c.args.bytes.now c.requires.some c.requires.first c.requires.second c.prefix_of.result
    (rw (take_rest c.args.bytes.now 2) at c.prefix_of.ensures))

pub returns-clause-few : goal.returns-clause-few
returns-clause-few c =
    rw c.candidate_of.ensures
    (candidate_short c.args.bytes.now c.requires.some c.requires.first c.requires.second c.prefix_of.result
    (λ i. omega (arith, c.type_inv.bytes i)) (rw (take_rest c.args.bytes.now 2) at c.prefix_of.ensures))

pub candidate_of-requires : goal.candidate_of-requires
candidate_of-requires c =
    prefix_short (drop 2 c.args.bytes.now) c.prefix_of.result
    (fits_drop c.args.bytes.now 2 (λ i. omega (arith, c.type_inv.bytes i))) (rw (take_rest c.args.bytes.now 2) at c.prefix_of.ensures)
