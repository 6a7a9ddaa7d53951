use Rattle.hart_frame.proofs.Common.{◌≡◌, ◌≤◌, ℕ, List, Option, length, drop, arith, length-append, length-map, take_rest, Faulty, After}
use Rattle.hart_frame.proofs.Common.{Damaged, Cut, Character, IsPrefix, common_steps}
use Rattle.hart_frame.specs.declared.scan.sighting.Standing.TheVariants.{Missed}
use Rattle.hart_frame.specs.private.Sighting.{IsAfterTwo}
use Rattle.hart_frame.proofs.lemmas.scan.BodyAt.{cut_damaged, cut_ended, damaged_header, ended_header, wrong_below, wrong_header}
use Rattle.hart_frame.proofs.lemmas.scan.BodyAt.{wrong_seen}
use Rattle.hart_frame.proofs.scan.sighting.after_two.Goals as goal

pub returns-in-Wrong : goal.returns-in-Wrong
returns-in-Wrong c = grind (arith, common_steps, take_rest, wrong_seen, wrong_below, wrong_header)

-- A damaged character after bytes that end too early is the miss.
damaged_two : (bytes : List ℕ) (after : After) (start faults : ℕ) (missing : Option ℕ) → start ≤ length bytes
    → IsPrefix (drop start bytes) (Cut missing) → (c : Character) × (after ≡ Damaged c) × (faults ≡ c.faults)
    → IsAfterTwo bytes after start (Missed (Faulty (length bytes) faults))
damaged_two bytes after start faults missing within is (c, same, bits) =
    rw (same, bits)
    (cut_damaged bytes start within c missing is, grind (arith, length-append, length-map), damaged_header bytes start within c)

pub returns-in-Damaged : goal.returns-in-Damaged
returns-in-Damaged c =
    damaged_two c.args.bytes.now c.args.after.now c.args.start _ c.in-Cut.missing c.requires.within (grind (arith, take_rest)) (grind arith)

pub returns-in-End : goal.returns-in-End
returns-in-End c = grind (arith, take_rest, cut_ended, ended_header)
