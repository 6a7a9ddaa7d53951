use Rattle.std.proofs.Common.{◌≡◌, ◌+◌, ◌*◌, ◌++◌, length, take}
use Rattle.hex.specs.Hex.{encode_upper}
use Rattle.hart_explain.proofs.hex_text.push_hex.Given as goal

abbrev pub invariant-loop-four : goal.invariant-loop-four
invariant-loop-four g l = record {
  written : l.line ≡ l.initial.line ++ encode_upper (take (4 * l.four-index) l.bytes);
  len : length l.line ≡ length l.initial.line + 8 * l.four-index;
}
