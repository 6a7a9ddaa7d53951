use Rattle.hart_frame.proofs.Common.{arith, sym}
use Rattle.hart_frame.proofs.lemmas.heard.Front.{length-front}
use Rattle.hart_frame.proofs.lemmas.heard.Missed.{front_cut, front_whole, front_wrong, of_bytes}
use Rattle.hart_frame.proofs.lemmas.wire.Parity.{fits_at}
use Rattle.hart_frame.proofs.lemmas.wire.Reading.{wrong_within}
use Rattle.hart_frame.proofs.heard.miss.body_miss.Goals as goal

pub wrong_miss-requires-clause-within : goal.wrong_miss-requires-clause-within
wrong_miss-requires-clause-within c = grind (arith, wrong_within c.as_slice.result.now c.in-Wrong.wrong, length-front c.args.heard.now 267)

pub returns-in-Whole-clause-found : goal.returns-in-Whole-clause-found
returns-in-Whole-clause-found c =
    sym (front_whole c.args.heard.now c.args.start 267 c.as_slice.result.now (grind arith) (omega arith)
    (fits_at _ c.as_slice.ensures.bytes) c.in-Whole.field-0 c.in-Whole.ensures)

pub returns-in-Wrong-clause-found : goal.returns-in-Wrong-clause-found
returns-in-Wrong-clause-found c =
    let is = front_wrong c.args.heard.now c.args.start 267 _ (grind arith) (omega arith) (fits_at _ c.as_slice.ensures.bytes) in
    grind (arith, is)

pub returns-in-Cut-clause-found : goal.returns-in-Cut-clause-found
returns-in-Cut-clause-found c =
    let is = front_cut c.args.heard.now c.args.start 267 _ (grind arith) (omega arith) (fits_at _ c.as_slice.ensures.bytes) in
    grind (arith, is)

pub returns-in-Whole-clause-fit : goal.returns-in-Whole-clause-fit
returns-in-Whole-clause-fit c = grind (arith, of_bytes c.args.heard.now c.args.start 267, fits_at)

pub returns-in-Wrong-clause-fit : goal.returns-in-Wrong-clause-fit
returns-in-Wrong-clause-fit c = grind (arith, of_bytes c.args.heard.now c.args.start 267, fits_at)

pub returns-in-Cut-clause-fit : goal.returns-in-Cut-clause-fit
returns-in-Cut-clause-fit c = grind (arith, of_bytes c.args.heard.now c.args.start 267, fits_at)
