use Rattle.std.proofs.Common.{arith}
use Rattle.hex.specs.Hex.{IsBytes}
use Rattle.hart_commands.specs.Commands.{request_rows}
use Rattle.hart_explain.specs.Reading.{seen_reading}
use Rattle.hart_explain.proofs.lemmas.JsonLengths.{members-fit}
use Rattle.hart_explain.proofs.lemmas.Bounded.{refused-bounded-by, taken-bounded}
use Rattle.hart_explain.proofs.lemmas.Lengths.{words-fit}
use Rattle.hart_explain.proofs.lemmas.Rows.{rows-fit}
use Rattle.hart_explain.proofs.reading.read_request.Goals as goal

pub taken-requires : goal.taken-requires
taken-requires c = rw c.request_rows.ensures (rows-fit c.args.command).0

pub returns-in-Ok-clause-words : goal.returns-in-Ok-clause-words
returns-in-Ok-clause-words c = λ few.
    let are : IsBytes c.args.bytes.now = λ i. omega (arith, c.type_inv.bytes i) in
    let bounded = taken-bounded (request_rows c.args.command) c.data_len.result c.args.bytes.now (rows-fit c.args.command).0 are few in
    let is = rw c.request_rows.ensures at c.taken.ensures in
    words-fit c.args.command c.args.bytes.now (seen_reading c.taken.result) (omega arith) few (rw is bounded)

pub returns-in-Ok-clause-members : goal.returns-in-Ok-clause-members
returns-in-Ok-clause-members c = λ few.
    let are : IsBytes c.args.bytes.now = λ i. omega (arith, c.type_inv.bytes i) in
    let bounded = taken-bounded (request_rows c.args.command) c.data_len.result c.args.bytes.now (rows-fit c.args.command).0 are few in
    let is = rw c.request_rows.ensures at c.taken.ensures in
    members-fit c.args.command c.args.bytes.now (seen_reading c.taken.result) are few (rw is bounded)

pub returns-in-Err-clause-words : goal.returns-in-Err-clause-words
returns-in-Err-clause-words c = λ few.
    let are : IsBytes c.args.bytes.now = λ i. omega (arith, c.type_inv.bytes i) in
    let bounded = refused-bounded-by c.args.command c.in-Err.code c.args.bytes.now are few (omega arith) in
    words-fit c.args.command c.args.bytes.now (seen_reading c.refused_request.result) (omega arith) few
    (rw c.refused_request.ensures bounded)

pub returns-in-Err-clause-members : goal.returns-in-Err-clause-members
returns-in-Err-clause-members c = λ few.
    let are : IsBytes c.args.bytes.now = λ i. omega (arith, c.type_inv.bytes i) in
    let bounded = refused-bounded-by c.args.command c.in-Err.code c.args.bytes.now are few (omega arith) in
    members-fit c.args.command c.args.bytes.now (seen_reading c.refused_request.result) are few (rw c.refused_request.ensures bounded)
