use Rattle.hart_frame.proofs.Common.{◌<◌, length, ◌∙◌, rules, arith, scan_of}
use Rattle.hart_frame.proofs.lemmas.heard.Front.{length-front}
use Rattle.hart_frame.proofs.lemmas.scan.Chunk.{hears_first, stretch_heard}
use Rattle.hart_frame.proofs.scan.buffer.Buffer.push_stretch.Goals as goal

pub returns-clause-hears : goal.returns-clause-hears
returns-clause-hears c =
    hears_first c.args.self.now c.push.new.self c.peek-layout.new.self c.args.chunk.now c.index-chunk-0.result c.peek-layout.result
    c.requires.sound c.requires.drained c.requires.some c.index-chunk-0.is c.push.ensures.pushed c.peek-layout.ensures.seen

pub returns-then-not-is_empty-clause-hears : goal.returns-then-not-is_empty-clause-hears
returns-then-not-is_empty-clause-hears c =
    let some : 0 < length c.as_slice.result.now = search rules in
    stretch_heard (scan_of c.args.self.now) (scan_of c.push_bytes.new.self) c.args.chunk.now c.as_slice.result.now 64 c.push_bytes.result
    (c.as_slice.ensures.value ∙ c.faultless_front-stretch.ensures) some c.push_bytes.ensures.hears

pub push_bytes-requires-clause-room : goal.push_bytes-requires-clause-room
push_bytes-requires-clause-room c = grind (arith, length-front c.args.chunk.now 64 c.as_slice.result.now)
