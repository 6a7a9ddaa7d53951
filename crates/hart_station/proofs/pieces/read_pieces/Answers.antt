use Rattle.std.proofs.Common.{◌+◌, ◌++◌, ◌≤◌, length, drop, append-nil, arith}
use Rattle.std.proofs.lemmas.Grind.{common_steps}
use Rattle.std.proofs.lemmas.List.{take_rest}
use Rattle.std.specs.Option.{option_to_list}
use Rattle.hart_frame.specs.heard.Character.{faultless}
use Rattle.hart_text.specs.Items.{ReadsUpTo, nothing}
use Rattle.hart_text.proofs.lemmas.Items.{begins_reads, reads_on, room_for}
use Rattle.hart_station.proofs.pieces.read_pieces.Goals.{in-Some-char, in_default-char}
use Rattle.hart_station.proofs.pieces.read_pieces.Goals as goal

pub loop-lead-init : goal.loop-lead-init
loop-lead-init c = grind (arith, nothing)

pub push_faultless-requires-clause-room : goal.push_faultless-requires-clause-room
push_faultless-requires-clause-room c =
    let text = c.args.text.now in
    let before = c.loop-lead in
    let chars = before.chars.items ++ faultless c.read_chunk-place.new.chunk in
    let rest = drop (before.place + c.read_chunk-place.result) text in
    let reads : ReadsUpTo text chars rest =
    reads_on text before.place c.read_chunk-place.result before.chars.items _ _ (take_rest text before.place) before.invariant.reads
    c.read_chunk-place.ensures.reads in
    let few : length chars ≤ before.chars.room =
    room_for text chars rest before.chars.room reads (omega (arith, c.requires.room, before.invariant.same_room)) in
    grind (arith, common_steps, few)

pub returns-in_default-clause-reads : goal.returns-in_default-clause-reads
returns-in_default-clause-reads c =
    let text = c.args.text.now in
    let before = c.loop-lead in
    let reads =
    reads_on text before.place c.read_chunk-place.result before.chars.items _ _ (take_rest text before.place) before.invariant.reads
    c.read_chunk-place.ensures.reads in
    grind (arith, reads)

pub push-requires : goal.push-requires
push-requires c =
    let text = c.args.text.now in
    let before = c.loop-lead in
    let place = before.place + c.read_chunk-place.result in
    let chars = before.chars.items ++ faultless c.read_chunk-place.new.chunk in
    let len = c.in-Some.lead.len in
    let reads : ReadsUpTo text chars (drop place text) =
    reads_on text before.place c.read_chunk-place.result before.chars.items _ _ (take_rest text before.place) before.invariant.reads
    c.read_chunk-place.ensures.reads in
    let piece = begins_reads _ c.in-Some.lead.char len c.in-Some.ensures in
    let more = chars ++ option_to_list c.in-Some.lead.char in
    let later : ReadsUpTo text more (drop (place + len) text) = reads_on text place len chars _ _ (take_rest text place) reads piece.2 in
    let few : length more ≤ before.chars.room =
    room_for text more (drop (place + len) text) before.chars.room later (omega (arith, c.requires.room, before.invariant.same_room)) in
    grind (arith, common_steps, few)

pub loop-lead-preserved : goal.loop-lead-preserved
loop-lead-preserved c =
    let text = c.args.text.now in
    let before = c.loop-lead in
    let place = before.place + c.read_chunk-place.result in
    let chars = before.chars.items ++ faultless c.read_chunk-place.new.chunk in
    let len = c.in-Some.lead.len in
    let reads : ReadsUpTo text chars (drop place text) =
    reads_on text before.place c.read_chunk-place.result before.chars.items _ _ (take_rest text before.place) before.invariant.reads
    c.read_chunk-place.ensures.reads in
    let piece = begins_reads _ c.in-Some.lead.char len c.in-Some.ensures in
    let more = chars ++ option_to_list c.in-Some.lead.char in
    let later : ReadsUpTo text more (drop (place + len) text) = reads_on text place len chars _ _ (take_rest text place) reads piece.2 in
    grind (arith, common_steps, append-nil, later, piece)
