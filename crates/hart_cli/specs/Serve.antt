-- What `hart serve` writes for the lines that it reads (implementation choice).
use Rattle.std.specs.Prelude.{ℕ, List, Option}
use Rattle.hart_cli.specs.ImageWord.{OutcomeWith, OutcomeRelation}
use Rattle.hart_station.specs.DeviceLines.{ServesLine}
use Rattle.hart_cli.specs.session.Session.{ServedOutcome}

-- If no device could be made from the image, a call of `serve` returned the reason. Otherwise the device answered the lines that the call
-- read.
abbrev pub ServeOutcome : Option (List ℕ) → OutcomeRelation
ServeOutcome = OutcomeWith (ServedOutcome ServesLine)
