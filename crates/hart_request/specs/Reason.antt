-- How the text of a reason is put together (implementation choice).
use Rattle.std.specs.Prelude.{◌++◌, ℕ, List, [], decimal}
use Rattle.std.specs.Option.{option_map_or}
use Rattle.hart_request.specs.declared.reason.Reason.{Reason}

-- The parts of a reason are written in this order.
abbrev pub reasoned : Reason → List ℕ
reasoned reason = reason.before.now ++ option_map_or decimal reason.number [] ++ reason.after.now
