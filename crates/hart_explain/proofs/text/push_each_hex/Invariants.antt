use Rattle.std.proofs.Common.{◌≡◌, take}
use Rattle.hex.specs.Hex.{encode_upper}
use Rattle.hart_explain.specs.Text.{extended}
use Rattle.hart_explain.proofs.text.push_each_hex.Given as goal

abbrev pub invariant-loop-byte : goal.invariant-loop-byte
invariant-loop-byte l = l.text ≡ extended l.initial.text (encode_upper (take l.byte-index l.bytes))
