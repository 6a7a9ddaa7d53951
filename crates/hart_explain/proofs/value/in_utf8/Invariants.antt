use Rattle.std.proofs.Common.{◌≡◌, ◌≤◌, ◌*◌, length, take}
use Rattle.std.specs.Prelude.{encode_utf8_all}
use Rattle.hart_explain.proofs.value.in_utf8.Given as goal

abbrev pub invariant-loop-code : goal.invariant-loop-code
invariant-loop-code l = record {
  written : l.text ≡ encode_utf8_all (take l.code-index l.characters);
  few : length l.text ≤ 2 * l.code-index;
}
