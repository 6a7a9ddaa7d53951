use Rattle.hart_line.proofs.Common.{ℕ, ◌+◌, ◌++◌, ◌<◌, ◌≡◌, ◌∙◌, List, [], ◌∷◌, Some, ap, append-nil, append_assoc, arith, get_or, length}
use Rattle.hart_line.proofs.Common.{length-append, length_push, refl, take, err_from_is_err_and, filter-append, slice_get-get_or}
use Rattle.hart_line.proofs.Common.{all_zipped_more, lines_in_words, AddsLine, AreEvents, IsLineFault, IsScriptFault}
use Rattle.hart_line.proofs.Common.{LineEvent, LineFault, BadLine, Memory, Undetected}
use Rattle.std.proofs.Math.Seq.{get_or-append_seam, take-append_seam}
use Rattle.hart_line.proofs.script.read_script.Invariants.{Told}
use Rattle.hart_line.proofs.script.read_script.Goals as goal

-- one more line adds the event that it writes, if any
one_more : (lines : List (List (List ℕ))) (words : List (List ℕ)) (events said : List LineEvent) → AreEvents lines events
    → AreEvents (words ∷ []) said → AreEvents (lines ++ words ∷ []) (events ++ said)
one_more lines words events [] before are = grind (arith, append-nil, filter-append)
one_more lines words events (event ∷ []) before are = grind (arith, filter-append, all_zipped_more)
one_more lines words events (event ∷ other ∷ more) before are = absurd (grind arith)

told_more : (text : List ℕ) (line : List (List ℕ)) (left : List (List (List ℕ))) (number : ℕ) (events new : List LineEvent)
    → Told text (line ∷ left) number events → AddsLine line events new → Told text left (number + 1) new
told_more text line left number events new (seen, split, long, are) (said, adds, added) = (
  seen ++ line ∷ [],
  rw append_assoc split,
  omega (arith, length_push seen line, long),
  rw added (one_more seen line events said are adds),
)

-- the next line of a list stands at the number of the lines before it
stands : (lines seen more : List (List (List ℕ))) (words : List (List ℕ)) → lines ≡ seen ++ words ∷ more
    → (length seen < length lines) × (get_or lines (length seen) words ≡ words) × (take (length seen) lines ≡ seen)
stands lines seen more words is = rw is
    (omega (arith, length-append seen (words ∷ more)), get_or-append_seam seen words more words, take-append_seam seen (words ∷ more))

-- a fault of a line is a fault of its text
line_fault : (text : List ℕ) (line : List (List ℕ)) (left : List (List (List ℕ))) (number : ℕ) (events : List LineEvent) (fault : LineFault)
    → Told text (line ∷ left) number events → IsLineFault (number + 1) line fault → IsScriptFault text fault
line_fault text line left number events (BadLine at) (seen, split, long, are) is =
    let here = stands (lines_in_words text) seen left line split in record {
      before = length seen;
      words = line;
      events = events;
      counted = omega (arith, is.0, long);
      is = slice_get-get_or (lines_in_words text) (length seen) line here.0 ∙ ap Some here.1;
      bad = is.1;
      good = rw here.2 are;
    }
line_fault text line left number events (Memory none) (seen, split, long, are) is =
    let here = stands (lines_in_words text) seen left line split in
    (length seen, line, here.0, here.1, is)
line_fault text line left number events (Undetected event leg) told is = absurd is

pub loop-events-init : goal.loop-events-init
loop-events-init c =
    record { counted = omega arith; told = ([], refl, refl, rw (rw c.unwrap-events.ensures at c.with_room.ensures.empty) tt) }

pub returns-in_err-read_line-clause-fault : goal.returns-in_err-read_line-clause-fault
returns-in_err-read_line-clause-fault c =
    let stop = err_from_is_err_and c.from_residual.result c.from_residual.ensures.1 in
    rw (stop.1, stop.2) (line_fault c.args.text.now c.first_line-line.result.0 _ c.loop-events.number _ _
    (rw c.first_line-line.ensures.cut at c.loop-events.invariant.told) c.in_err-read_line.ensures.fault)

pub returns-in_default-clause-events : goal.returns-in_default-clause-events
returns-in_default-clause-events c =
    let told = told_more c.args.text.now c.first_line-line.result.0 _ c.loop-events.number _ _
    (rw c.first_line-line.ensures.cut at c.loop-events.invariant.told) c.in_ok-read_line.ensures.added in
    let (seen, split, long, are) = rw c.in_default.is at told in rw (c.finish.ensures, split ∙ append-nil seen) are

pub loop-events-preserved : goal.loop-events-preserved
loop-events-preserved c =
    let told = told_more c.args.text.now c.first_line-line.result.0 _ c.loop-events.number _ _
    (rw c.first_line-line.ensures.cut at c.loop-events.invariant.told) c.in_ok-read_line.ensures.added in
    record { counted = omega (arith, rw c.in-Some.is at c.first_line-line.ensures.shorter); told = rw c.in-Some.is at told }
