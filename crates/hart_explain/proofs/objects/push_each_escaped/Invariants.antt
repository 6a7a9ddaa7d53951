use Rattle.std.proofs.Common.{◌≡◌, take}
use Rattle.json.specs.Print.{escape}
use Rattle.hart_explain.specs.Text.{extended}
use Rattle.hart_explain.proofs.objects.push_each_escaped.Given as goal

abbrev pub invariant-loop-byte : goal.invariant-loop-byte
invariant-loop-byte l = l.text ≡ extended l.initial.text (escape (take l.byte-index l.bytes))
