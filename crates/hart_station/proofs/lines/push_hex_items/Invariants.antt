use Rattle.std.proofs.Common.{◌≡◌, ◌+◌, ◌-◌, ◌*◌, ◌≤◌, ◌++◌, length, take}
use Rattle.hart_station.specs.Lines.{hex_items}
use Rattle.hart_station.proofs.lines.push_hex_items.Given as goal

abbrev pub invariant-loop-index : goal.invariant-loop-index
invariant-loop-index g l = record {
  written : l.line ≡ l.initial.line ++ hex_items (take l.index l.bytes);
  few : length l.line ≤ length l.initial.line + (3 * l.index - 1);
}
