use Rattle.std.proofs.Common.{arith, drop}
use Rattle.std.proofs.lemmas.List.{length-drop}
use Rattle.hex.specs.Hex.{IsBytes}
use Rattle.hart_explain.specs.Reading.{seen_reading}
use Rattle.hart_explain.proofs.lemmas.JsonLengths.{members-fit}
use Rattle.hart_explain.proofs.lemmas.Bounded.{drop_bytes, reply-bounded}
use Rattle.hart_explain.proofs.lemmas.Lengths.{words-fit}
use Rattle.hart_explain.proofs.reading.read_reply.Goals as goal

pub returns-clause-words : goal.returns-clause-words
returns-clause-words c = λ few.
    let are : IsBytes c.args.payload.now = λ i. omega (arith, c.type_inv.payload i) in
    let bounded = reply-bounded c.args.command c.args.payload.now are few in
    words-fit c.args.command (drop 2 c.args.payload.now) (seen_reading c.read_payload.result) (omega arith)
    (omega (arith, few, length-drop 2 c.args.payload.now)) (rw c.read_payload.ensures bounded)

pub returns-clause-members : goal.returns-clause-members
returns-clause-members c = λ few.
    let are : IsBytes c.args.payload.now = λ i. omega (arith, c.type_inv.payload i) in
    let bounded = reply-bounded c.args.command c.args.payload.now are few in
    members-fit c.args.command (drop 2 c.args.payload.now) (seen_reading c.read_payload.result) (drop_bytes 2 c.args.payload.now are)
    (omega (arith, few, length-drop 2 c.args.payload.now)) (rw c.read_payload.ensures bounded)
