-- What `hart encode` writes for its words (implementation choice).
use Rattle.std.specs.Prelude.{ℕ, List, Result, Ok, Err}
use Rattle.hart_cli.specs.declared.fault.CliFault.{CliFault}
use Rattle.hart_cli.specs.declared.fault.CliFault.TheVariants.{BadWord, Write}
use Rattle.hart_station.specs.Encode.{IsEncoding, IsFirstBad, MessageWords}
use Rattle.hart_cli.specs.stream.Stream.{FailsToWrite, Stream, WritesAll, WritesNothing}

-- At `Ok`, a call of `encode_text` wrote the text of its words. If a write failed, it wrote a prefix of that text. If it returned
-- the number of the first bad word, it wrote nothing.
abbrev pub EncodeOutcome : MessageWords → Stream → Stream → Result (Unit {0}) CliFault → Type 0
EncodeOutcome words writer writer_after (Ok done) =
    (text : List ℕ) × IsEncoding words text × WritesAll writer writer_after text
EncodeOutcome words writer writer_after (Err Write) =
    (text : List ℕ) × IsEncoding words text × FailsToWrite writer writer_after text
EncodeOutcome words writer writer_after (Err (BadWord number)) =
    IsFirstBad words number × WritesNothing writer writer_after
EncodeOutcome words writer writer_after (Err _) = ⊥
