-- What a buffer holds after it dropped some bytes or kept some, and when it waits.
use Rattle.hart_frame.proofs.Common.{◌≡◌, ℕ, ◌+◌, ◌-◌, ◌≤◌, true, IsTrue, List, [], ◌++◌, length, take, drop, None, sym, refl, arith, Scan}
use Rattle.hart_frame.proofs.Common.{append_assoc, length-append, common_steps, append-nil, drop-append-le, drop-drop, drop-map, length-map}
use Rattle.hart_frame.proofs.Common.{Buffer, Drained, SearchResult, faultless, IsUndecided, IsSound, IsWaiting, held_bytes, scan_of}
use Rattle.hart_frame.proofs.Common.{MovesPast, option_to_list, IsHeldSearched, Waits}
use Rattle.std.proofs.Math.Seq.{drop-append-add, drop-append_seam}
use Rattle.hart_frame.specs.declared.scan.buffer.State.{State}
use Rattle.hart_frame.specs.declared.scan.buffer.State.TheVariants.{Busy}
use Rattle.hart_frame.specs.private.Buffer.{is_drained}
use Rattle.hart_frame.proofs.lemmas.scan.Candidate.{undecided_open}
use Rattle.hart_frame.proofs.lemmas.scan.Scan.{moves_none, moves_past}
use Rattle.hart_frame.proofs.lemmas.scan.Search.{take_both}
use Rattle.hart_frame.proofs.lemmas.wire.Lane.{drop_take}

-- A buffer after it dropped its first `count` held bytes.
abbrev pub passed : Buffer → ℕ → Buffer
passed b count = record b { from = b.from + count; first = b.first + count; state = Busy }

pub held_passed : (b : Buffer) (count : ℕ) → held_bytes (passed b count) ≡ drop count (held_bytes b)
held_passed b count = sym (drop-drop count b.from b.bytes)

pub moves_passed : (b : Buffer) (found : SearchResult) (state : State) → IsHeldSearched b found
    → MovesPast (scan_of b) (scan_of (record (passed b found.place) { state = state })) []
moves_passed b found state is =
    let new = record (passed b found.place) { state = state } in
    let held : (n : ℕ) → n ≤ found.place → drop n (scan_of b).held ≡ faultless (drop n (held_bytes b)) ++ option_to_list b.damaged =
    λ n below. grind (arith, drop-append-le, drop-map, length-map) in
    moves_past (scan_of b) (scan_of new) found.place (grind (arith, length-append, length-map)) (grind (arith, held, held_passed)) refl refl
    (λ place below more ended. rw (held place (omega (arith, below)), append_assoc) (is.none place below more ended))

-- A buffer without a damaged character holds only faultless characters.
pub held_clear : (b : Buffer) → b.damaged ≡ None → (scan_of b).held ≡ faultless (held_bytes b)
held_clear b clear = grind (arith, append-nil)

-- What a waiting buffer holds decides no frame.
pub undecided_waiting : (b : Buffer) → IsWaiting b → IsUndecided (scan_of b).held
undecided_waiting b waiting = search (arith, held_clear, undecided_open)

-- A scanner whose buffer waits is drained and gives nothing.
pub waits : (b : Buffer) (new : Scan) → IsWaiting b → new ≡ record (scan_of b) { drained = true } → Waits (scan_of b) new
waits b new waiting same =
    rw same (search (arith, common_steps, moves_none, undecided_waiting))

-- A buffer that keeps everything from a held byte up to `stop` keeps the rest of the held bytes, and then the bytes of the chunk up to
-- `stop`.
pub kept_after : (held chunk bytes new : List ℕ) (from place stop count : ℕ) → from ≤ length bytes → drop from bytes ≡ held
    → count ≡ length held
    → count ≤ stop → place ≤ length held → new ≡ bytes ++ take (stop - count) chunk
    → drop (from + place) new ≡ drop place (take stop (held ++ chunk))
kept_after held chunk bytes new from place stop count within same long after inside is =
    grind (arith, drop-append-le, drop-drop place from new, take_both held chunk stop)

-- A buffer that keeps everything from a byte of the chunk up to `stop` keeps just these bytes of the chunk.
pub kept_past : (held chunk bytes new : List ℕ) (from place stop count : ℕ) → from ≡ length bytes → count ≡ length held
    → count ≤ place → place ≤ stop → new ≡ bytes ++ take (stop - count - (place - count)) (drop (place - count) chunk)
    → drop from new ≡ drop place (take stop (held ++ chunk))
kept_past held chunk bytes new from place stop count end long past order is =
    grind (arith, drop-append_seam, drop_take (held ++ chunk) place stop, drop-append-add held chunk (place - count))

pub drained_is : (state : State) → IsTrue (is_drained state) → state ≡ Drained
drained_is state is = grind arith

-- A sound buffer that is drained waits.
pub waits_drained : (b : Buffer) → IsSound b → b.state ≡ Drained → IsWaiting b
waits_drained b sound is = grind arith

-- The lemmas for the proof of `Buffer::peek`.
pub ruleset peeking = (waits, waits_drained, moves_none)
