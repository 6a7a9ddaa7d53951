-- The words of `hart request`, and what they describe (implementation choice).
use Rattle.std.specs.Prelude.{◌≡◌, ℕ, false, List, [], Result, Ok, Err}
use Rattle.hart_values.specs.declared.address.Address.{Address}
use Rattle.hart_values.specs.declared.master_id.MasterId.{MasterId}
use Rattle.hart_frame.specs.declared.wire.kind.FrameKind.TheVariants.{Stx}
use Rattle.hart_frame.specs.wire.FrameParts.{FrameParts}
use Rattle.hart_line.specs.script.Words.{HasNoValue, IsAddressWord, IsCommandWord, IsWho}
use Rattle.hart_request.specs.declared.fault.BadField.{BadField}
use Rattle.hart_request.specs.Fields.{payload_of}
use Rattle.hart_station.specs.declared.fault.TextFault.{TextFault}
use Rattle.hart_station.specs.declared.fault.TextFault.TheVariants.{BadField as FaultOfField, BadWord}
use Rattle.hart_station.specs.Lines.{IsMessageLine}

-- A request is given by three words, the words of its fields, and the number of preamble bytes of its message.
pub record RequestWords : Type 0 where
  pub who : List ℕ
  pub address : List ℕ
  pub command : List ℕ
  pub fields : List (List ℕ)
  pub preambles : ℕ

-- The request that the words describe. The first three words give its master, address and command, and the other words give the data. The
-- request is an STX with burst bit 0 and no expansion bytes.
pub record IsRequestByNames (words : RequestWords) (frame : FrameParts) : Type 0 where
  pub master : IsWho words.who frame.master
  pub address : IsAddressWord words.address frame.address
  pub command : IsCommandWord words.command frame.command
  pub payload : payload_of frame.command words.fields ≡ Ok frame.payload
  pub kind : frame.kind ≡ Stx
  pub burst : frame.burst ≡ false
  pub expansion : frame.expansion ≡ []

-- The text for the words is one line: the message of the request that the words describe. The words also give the message's number of
-- preamble bytes.
pub record IsRequestText (words : RequestWords) (text : List ℕ) : Type 0 where
  pub frame : FrameParts
  pub request : IsRequestByNames words frame
  pub line : IsMessageLine frame words.preambles text

-- The number of the first word without a value among the first three words: 1 for WHO, 2 for ADDRESS, 3 for COMMAND.
pub data IsFirstBadWord (words : RequestWords) : ℕ → Type 0 where
  bad_who : HasNoValue (IsWho words.who) → IsFirstBadWord words 1
  bad_address : (master : MasterId) → IsWho words.who master → HasNoValue (IsAddressWord words.address) → IsFirstBadWord words 2
  bad_command : (master : MasterId) (address : Address) → IsWho words.who master → IsAddressWord words.address address
      → HasNoValue (IsCommandWord words.command) → IsFirstBadWord words 3

-- The first three words have values, but the other words do not give the data of the command.
pub record HasBadField (words : RequestWords) (bad : BadField) : Type 0 where
  pub master : MasterId
  pub address : Address
  pub command : ℕ
  pub who_is : IsWho words.who master
  pub address_is : IsAddressWord words.address address
  pub command_is : IsCommandWord words.command command
  pub is_bad : payload_of command words.fields ≡ Err bad

-- The result of reading the words: the frame that they describe, or which word is bad.
abbrev pub ReadOutcome : RequestWords → Result FrameParts TextFault → Type 0
ReadOutcome words (Ok frame) = IsRequestByNames words frame
ReadOutcome words (Err (BadWord number)) = IsFirstBadWord words number
ReadOutcome words (Err (FaultOfField bad)) = HasBadField words bad
ReadOutcome words (Err _) = ⊥
