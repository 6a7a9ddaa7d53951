-- How the bytes of an input are decoded: as hex items, or as the characters themselves (implementation choice).
use Rattle.std.specs.Prelude.{◌≡◌, ◌≤◌, ℕ, ◌+◌, ◌-◌, ◌^◌, List, length, Option, Some, None}
use Rattle.hart_frame.specs.heard.Character.{Character, faultless}
use Rattle.hart_text.specs.Heard.{Heard, NothingBegins, ReadsHeard, heard_chars}
use Rattle.hart_text.specs.Items.{NoPieceBegins, ReadsSoFarBy, ReadsUpTo, closed}
use Rattle.hart_cli.specs.declared.fault.CliFault.{CliFault}
use Rattle.hart_cli.specs.declared.fault.CliFault.TheVariants as faults
use Rattle.hart_cli.specs.declared.input.InputEnd.TheVariants.{Ended, ReadFailed, TooLong}
use Rattle.hart_cli.specs.input.Input.{CameTo, Ending, most_at_once}
use Rattle.hart_cli.specs.input.InputChars.{HasHeardBy}

-- A decoding has four parts. `Has` says what was heard in an input up to its first fault, if any, and which fault that is.
-- `Decoded` says what can have been decoded when a write fails. `SoFar` says what was heard so far in an input that may go on.
-- `most_ahead` is the greatest number of bytes that are read but not yet decoded.
pub record Decoding (Heard : Type 0) : Type 1 where
  pub Has : List ℕ → Ending → Heard → Option CliFault → Type 0
  pub Decoded : List ℕ → Ending → Heard → Type 0
  pub SoFar : List ℕ → Heard → Type 0
  pub most_ahead : ℕ

-- The greatest number of bytes of items that are read but not yet decoded: 5 bytes of an item that is not whole, and the bytes of one read.
abbrev pub most_ahead : ℕ
most_ahead = 5 + most_at_once

-- The same number for an input that may also have silences and dates: 33 bytes of a date that is not whole, and the bytes of one read.
abbrev pub most_heard_ahead : ℕ
most_heard_ahead = 33 + most_at_once

-- The text of an input. If the input ended, a space follows, which completes its last item.
abbrev pub ended_text : List ℕ → Ending → List ℕ
ended_text input (CameTo Ended) = closed input
ended_text input _ = input

-- The input reads as `heard` by the relation `Reads`, and at most `most` bytes at its end are not decoded yet.
pub record AreDecodedBy {Heard : Type 0} (Reads : List ℕ → List Heard → List ℕ → Type 0) (most : ℕ) (input : List ℕ) (ending : Ending)
    (heard : List Heard) : Type 0 where
  pub rest : List ℕ
  pub reads : Reads (ended_text input ending) heard rest
  pub few : length rest ≤ most

-- The decoding by `Reads`, a relation between texts and what was heard. At most `most` bytes of the input are read but not yet decoded.
abbrev pub decoding_by : {Heard : Type 0} → (List ℕ → List Heard → List ℕ → Type 0) → (List ℕ → Type 0) → ℕ → Decoding (List Heard)
decoding_by Reads Stops most = record {
  Has = HasHeardBy Reads Stops;
  Decoded = AreDecodedBy Reads most;
  SoFar = ReadsSoFarBy Reads Stops;
  most_ahead = most;
}

-- Hex items are decoded as characters.
abbrev pub item_decoding : Decoding (List Character)
item_decoding = decoding_by ReadsUpTo NoPieceBegins most_ahead

-- Hex items are decoded as characters, and the marks between them as silences and dates.
abbrev pub heard_decoding : Decoding (List Heard)
heard_decoding = decoding_by ReadsHeard NothingBegins most_heard_ahead

-- The bytes of a raw input are the characters themselves, without fault bits. A raw input has no silences and no dates.
abbrev pub AreRaw : List ℕ → List Heard → Type 0
AreRaw input heard = heard ≡ heard_chars (faultless input)

-- The characters heard in a raw input are all its bytes, however the input ended. The only faults of a raw input are a failed read and an
-- exceeded limit.
pub data HasRaw (input : List ℕ) : Ending → List Heard → Option CliFault → Type 0 where
  all : (heard : List Heard) → AreRaw input heard → HasRaw input (CameTo Ended) heard None
  failure : (heard : List Heard) → AreRaw input heard → HasRaw input (CameTo ReadFailed) heard (Some faults.Read)
  limit : (heard : List Heard) → AreRaw input heard → HasRaw input (CameTo TooLong) heard (Some faults.TooLong)

-- The bytes of a raw input are decoded as soon as they are read.
abbrev pub raw_decoding : Decoding (List Heard)
raw_decoding = record { Has = HasRaw; Decoded = λ input ending heard. AreRaw input heard; SoFar = AreRaw; most_ahead = 0 }

-- A raw input has at most 2^64 - 2 bytes.
abbrev pub raw_limit : ℕ
raw_limit = 2 ^ 64 - 2
