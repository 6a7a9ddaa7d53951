use Rattle.std.proofs.Common.{◌≡◌, take}
use Rattle.std.specs.Bool.{OnTrue}
use Rattle.json.specs.Print.{escape}
use Rattle.hart_explain.proofs.objects.are_plain.Given as goal

abbrev pub invariant-loop-byte : goal.invariant-loop-byte
invariant-loop-byte l = OnTrue l.plain (escape (take l.byte-index l.bytes) ≡ take l.byte-index l.bytes)
