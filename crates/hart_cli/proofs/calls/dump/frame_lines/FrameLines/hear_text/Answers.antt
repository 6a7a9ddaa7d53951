use Rattle.std.proofs.Common.{◌-◌, drop, take, length, arith, []}
use Rattle.std.proofs.lemmas.Grind.{common_steps}
use Rattle.std.proofs.lemmas.List.{take_rest}
use Rattle.std.specs.Option.{option_to_list}
use Rattle.hart_text.specs.Items.{nothing}
use Rattle.hart_text.proofs.lemmas.Items.{ReadsUpTo-few, begins_reads}
use Rattle.hart_cli.specs.dump.FrameLines.{HearsText}
use Rattle.hart_cli.proofs.calls.dump.frame_lines.FrameLines.hear_text.Goals.{After-hear_bytes}
use Rattle.hart_cli.proofs.lemmas.dump.FrameLines.{hears_long, hears_nothing, text_on}
use Rattle.hart_cli.proofs.calls.dump.frame_lines.FrameLines.hear_text.Goals as goal

pub loop-lead-init : goal.loop-lead-init
loop-lead-init c = record {
  heard = record { chars = []; reads = nothing c.args.text.now; hears = hears_nothing c.args.self.now };
  waiting = c.requires.waiting;
}

pub hear_bytes-requires : goal.hear_bytes-requires
hear_bytes-requires c =
    let heard = c.loop-lead.invariant.heard in
    let long = hears_long c.args.self.now c.loop-lead.self heard.chars heard.hears in
    grind (arith, common_steps, ReadsUpTo-few)

-- after each step, the chunk is heard
heard : (c : After-hear_bytes) → HearsText c.args.self.now c.hear_bytes.new.self c.args.text.now
    (take (length c.loop-lead.rest.now - c.read_chunk-len.result) (drop c.read_chunk-len.result c.loop-lead.rest.now))
heard c = grind (arith, take_rest, text_on)

pub returns-in_default-clause-within : goal.returns-in_default-clause-within
returns-in_default-clause-within c = grind (arith, common_steps, After-hear_bytes, ReadsUpTo-few, heard)

pub returns-in_default-clause-hears : goal.returns-in_default-clause-hears
returns-in_default-clause-hears c = heard (goal.at.returns-in_default-clause-hears c).After-hear_bytes

pub hear_char-requires : goal.hear_char-requires
hear_char-requires c =
    let now = heard (goal.at.hear_char-requires c).After-hear_bytes in
    let long = hears_long c.args.self.now c.hear_bytes.new.self now.chars now.hears in
    grind (arith, common_steps, ReadsUpTo-few, begins_reads)

pub loop-lead-preserved : goal.loop-lead-preserved
loop-lead-preserved c =
    let rest = take (length c.loop-lead.rest.now - c.read_chunk-len.result) (drop c.read_chunk-len.result c.loop-lead.rest.now) in
    let all = text_on c.args.self.now c.hear_bytes.new.self c.hear_char.new.self (option_to_list c.in-Some.lead.char)
    (heard (goal.at.loop-lead-preserved c).After-hear_bytes) (begins_reads rest _ _ c.in-Some.ensures).2 c.hear_char.ensures.hears in
    grind (arith, take_rest)
