-- The words of `hart encode`, and what they describe (implementation choice).
use Rattle.std.specs.Prelude.{◌≡◌, ℕ, false, List, [], Result, Ok, Err}
use Rattle.hart_values.specs.declared.address.Address.{Address}
use Rattle.hart_values.specs.declared.master_id.MasterId.{MasterId}
use Rattle.hart_frame.specs.declared.wire.kind.FrameKind.TheVariants.{Stx}
use Rattle.hart_frame.specs.wire.FrameParts.{FrameParts}
use Rattle.hart_station.specs.declared.fault.TextFault.{TextFault}
use Rattle.hart_station.specs.declared.fault.TextFault.TheVariants.{BadWord}
use Rattle.hart_station.specs.Lines.{IsMessageLine}
use Rattle.hart_line.specs.script.Words.{IsAddressWord, IsCommandWord, IsDataWord, HasNoValue, IsWho}

-- The four words that describe a message, and the number of its preamble bytes.
pub record MessageWords : Type 0 where
  pub who : List ℕ
  pub address : List ℕ
  pub command : List ℕ
  pub payload : List ℕ
  pub preambles : ℕ

-- The request that four words describe: an STX with the values of the words, burst bit 0 and no expansion bytes.
pub record IsRequestOf (words : MessageWords) (frame : FrameParts) : Type 0 where
  pub master : IsWho words.who frame.master
  pub address : IsAddressWord words.address frame.address
  pub command : IsCommandWord words.command frame.command
  pub payload : IsDataWord words.payload frame.payload
  pub kind : frame.kind ≡ Stx
  pub burst : frame.burst ≡ false
  pub expansion : frame.expansion ≡ []

-- The text for the words is one line: the message of the request that the words describe. The words also give the message's number of
-- preamble bytes.
pub record IsEncoding (words : MessageWords) (text : List ℕ) : Type 0 where
  pub frame : FrameParts
  pub request : IsRequestOf words frame
  pub line : IsMessageLine frame words.preambles text

-- The number of the first word that has no value: 1 for WHO, 2 for ADDRESS, 3 for COMMAND and 4 for DATA.
pub data IsFirstBad (words : MessageWords) : ℕ → Type 0 where
  bad_who : HasNoValue (IsWho words.who) → IsFirstBad words 1
  bad_address : (master : MasterId) → IsWho words.who master → HasNoValue (IsAddressWord words.address) → IsFirstBad words 2
  bad_command : (master : MasterId) (address : Address) → IsWho words.who master → IsAddressWord words.address address
      → HasNoValue (IsCommandWord words.command) → IsFirstBad words 3
  bad_data : (master : MasterId) (address : Address) (command : ℕ) → IsWho words.who master
      → IsAddressWord words.address address → IsCommandWord words.command command → HasNoValue (IsDataWord words.payload)
      → IsFirstBad words 4

-- The result of reading the words: the frame that they describe, or the number of the first bad word.
abbrev pub WordsOutcome : MessageWords → Result FrameParts TextFault → Type 0
WordsOutcome words (Ok frame) = IsRequestOf words frame
WordsOutcome words (Err (BadWord number)) = IsFirstBad words number
WordsOutcome words (Err _) = ⊥
