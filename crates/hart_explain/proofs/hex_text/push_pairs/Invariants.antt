use Rattle.std.proofs.Common.{◌≡◌, ◌+◌, ◌*◌, ◌++◌, length, take}
use Rattle.hex.specs.Hex.{encode_upper}
use Rattle.hart_explain.proofs.hex_text.push_pairs.Given as goal

abbrev pub invariant-loop-byte : goal.invariant-loop-byte
invariant-loop-byte g l = record {
  written : l.line ≡ l.initial.line ++ encode_upper (take l.byte-index l.bytes);
  len : length l.line ≡ length l.initial.line + 2 * l.byte-index;
}
