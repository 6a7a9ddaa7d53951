-- What `hart request` writes for its words (implementation choice).
use Rattle.std.specs.Prelude.{ℕ, List, Result, Ok, Err}
use Rattle.hart_cli.specs.declared.fault.CliFault.{CliFault}
use Rattle.hart_cli.specs.declared.fault.CliFault.TheVariants.{BadField as FaultOfField, BadWord, Write}
use Rattle.hart_station.specs.Request.{HasBadField, IsFirstBadWord, IsRequestText, RequestWords}
use Rattle.hart_cli.specs.stream.Stream.{FailsToWrite, Stream, WritesAll, WritesNothing}

-- At `Ok`, a call of `request` wrote the text of its words. If a write failed, it wrote a prefix of that text. If a word is bad, it wrote
-- nothing.
abbrev pub RequestOutcome : RequestWords → Stream → Stream → Result (Unit {0}) CliFault → Type 0
RequestOutcome words writer writer_after (Ok done) =
    (text : List ℕ) × IsRequestText words text × WritesAll writer writer_after text
RequestOutcome words writer writer_after (Err Write) =
    (text : List ℕ) × IsRequestText words text × FailsToWrite writer writer_after text
RequestOutcome words writer writer_after (Err (BadWord number)) = IsFirstBadWord words number × WritesNothing writer writer_after
RequestOutcome words writer writer_after (Err (FaultOfField bad)) = HasBadField words bad × WritesNothing writer writer_after
RequestOutcome words writer writer_after (Err _) = ⊥
