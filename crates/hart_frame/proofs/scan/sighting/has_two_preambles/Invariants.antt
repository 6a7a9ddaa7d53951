use Rattle.hart_frame.proofs.Common.{◌≡◌, ◌||◌, ◌&&◌, ◌==◌, drop, has_two_preambles}
use Rattle.std.specs.Prelude.{slice_index}
use Rattle.hart_frame.proofs.scan.sighting.has_two_preambles.Given as goal

abbrev pub invariant-loop-byte : goal.invariant-loop-byte
invariant-loop-byte l =
    has_two_preambles l.bytes
    ≡ ((l.before && (slice_index (drop l.byte-index l.bytes) 0 == 255)) || has_two_preambles (drop l.byte-index l.bytes))
