use Rattle.std.proofs.Common.{◌≡◌, ◌+◌, ◌-◌, ◌<◌, ◌∷◌, length, take, drop, length-drop, arith, ap, ◌∙◌}
use Rattle.std.proofs.Math.Seq.{drop-cons}
use Rattle.hart_frame.specs.heard.Character.{Character}
use Rattle.hart_device.proofs.lemmas.answer.Garbled.{begins_from, head_first}
use Rattle.hart_device.proofs.answer.garbled.garbled_at.Goals as goal

pub returns-in_err-master : goal.returns-in_err-master
returns-in_err-master c =
    rw c.from_residual-in_err-master.ensures (λ request begins.
    c.in_err-master.ensures request.master (rw (c.in_ok-get.ensures.lookup.0.2, ← head_first _ _ _ begins) begins.asking))

pub returns : goal.returns
returns c =
    let chars = c.args.chars.now in
    let command : Character = c.in_ok-get-2.field-0.now in
    let count : Character = c.in_ok-get-3.field-0.now in
    let tail : drop 6 chars ≡ command ∷ count ∷ drop 8 chars =
    grind (arith, drop-cons chars 6 command, drop-cons chars 7 count, c.in_ok-get-2.ensures.lookup, c.in_ok-get-3.ensures.lookup) in
    let garbled = c.in_ok-garbled.ensures.lookup.0 in
    let many : c.unique_request_len.result - 0 ≡ 9 + count.byte = omega (arith, c.byte-byte_count.ensures) in
    let long : count.byte < length (drop 8 chars) = grind (arith, length-drop, garbled.1, many) in
    let asking = rw c.in_ok-get.ensures.lookup.0.2 at c.in_ok-master.ensures in
    let heard = garbled.2 ∙ ap (λ n. take n chars) many in
    begins_from _ chars (drop 8 chars) _ command count asking tail long c.byte-command.ensures cc
