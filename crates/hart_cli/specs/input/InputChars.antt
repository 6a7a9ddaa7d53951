-- The characters of an input before its first fault, and that fault (implementation choice). Fault bits of a character are no fault of the
-- input.
use Rattle.std.specs.Prelude.{◌≡◌, ℕ, ◌/◌, List, [], ◌++◌, length, Option, Some, None}
use Rattle.hart_frame.specs.heard.Character.{Character}
use Rattle.hart_text.specs.Heard.{Heard, NothingBegins, ReadsHeard}
use Rattle.hart_text.specs.Items.{HasBadHexBy, IsBadHexAt, NoPieceBegins, ReadsSoFarBy, ReadsUpTo, closed}
use Rattle.hart_cli.specs.input.Input.{CameTo, Ending, Left}
use Rattle.hart_cli.specs.declared.fault.CliFault.{CliFault}
use Rattle.hart_cli.specs.declared.fault.CliFault.TheVariants as faults
use Rattle.hart_cli.specs.declared.input.InputEnd.TheVariants as ends

-- What was heard in an input before its first fault, if any, and that fault. `Reads` says how texts are decoded. An input that ended holds
-- exactly `heard`, or has bad hex after it. An input that the call left has bad hex after `heard`, whatever bytes follow. If a read failed,
-- or the input exceeded the limit, `heard` is all that is whole in the bytes read.
pub data HasHeardBy {Heard : Type 0} (Reads : List ℕ → List Heard → List ℕ → Type 0) (Stops : List ℕ → Type 0) (text : List ℕ)
    : Ending → List Heard → Option CliFault → Type 0 where
  all : (heard : List Heard) → Reads (closed text) heard [] → HasHeardBy Reads Stops text (CameTo ends.Ended) heard None
  bad_hex : (heard : List Heard) (place : ℕ) → HasBadHexBy Reads Stops (closed text) heard place
      → HasHeardBy Reads Stops text (CameTo ends.Ended) heard (Some (faults.BadHex place))
  decided_bad_hex : (heard : List Heard) (place : ℕ) → ((more : List ℕ) → HasBadHexBy Reads Stops (text ++ more) heard place)
      → HasHeardBy Reads Stops text Left heard (Some (faults.BadHex place))
  failure : (heard : List Heard) → ReadsSoFarBy Reads Stops text heard
      → HasHeardBy Reads Stops text (CameTo ends.ReadFailed) heard (Some faults.Read)
  limit : (heard : List Heard) → ReadsSoFarBy Reads Stops text heard
      → HasHeardBy Reads Stops text (CameTo ends.TooLong) heard (Some faults.TooLong)

-- The characters of an input of hex items before its first fault, and that fault, if any.
abbrev pub HasChars : List ℕ → Ending → List Character → Option CliFault → Type 0
HasChars = HasHeardBy ReadsUpTo NoPieceBegins

-- What was heard in an input of hex items, silences and dates before its first fault, and that fault, if any.
abbrev pub HasHeard : List ℕ → Ending → List Heard → Option CliFault → Type 0
HasHeard = HasHeardBy ReadsHeard NothingBegins

-- The faults of an input that was read to its end. Either the input has bad hex at a place. Or memory for its characters was refused: one
-- character for every two bytes of the input.
abbrev pub IsWholeTextFault : List ℕ → CliFault → Type 0
IsWholeTextFault text (faults.BadHex place) = (chars : List Character) × IsBadHexAt text chars place
IsWholeTextFault text (faults.Memory none) = none.items ≡ length text / 2
IsWholeTextFault text _ = ⊥
