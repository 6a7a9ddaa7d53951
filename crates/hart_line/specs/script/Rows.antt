-- The words that stand for each kind of event in a line of a script (implementation choice). The definitions are relations, because a
-- function would have to read items byte by byte, as the code does.
use Rattle.std.specs.Prelude.{◌≡◌, ◌≢◌, ◌⊎◌, ℕ, ◌+◌, ◌++◌, ◌/◌, ◌<◌, Any, Bool, true, false, not, nat_eq, List, [], ◌∷◌, codes, filter}
use Rattle.std.specs.Prelude.{length, slice_get, take, Option, None, Some, Result, Ok, Err}
use Rattle.std.specs.List.{AllZip, starts_with}
use Rattle.std.specs.Result.{result_ok}
use Rattle.hart_commands.specs.RequestData.{request_reading}
use Rattle.hart_line.specs.Types.{Request, Heard, Clean, Lost, Chars, LineEvent, Submit, Turn, Protect, Noise, Restart, LineFault, BadLine}
use Rattle.hart_line.specs.Types.{Memory, Undetected}
use Rattle.hart_line.specs.script.Items.{IsItemsWord}
pub use Rattle.hart_text.specs.Lines.{lines_in_words}
use Rattle.hart_line.specs.script.Words.{◌>>=◌, HasNoValue, IsAddressWord, IsWho, command_of, data_of}
use Rattle.hart_line.specs.declared.script.rows.RowFault.{RowFault}
use Rattle.hart_line.specs.declared.script.rows.RowFault.TheVariants as rows

-- The data of the words after COMMAND. No word means no bytes, and a single word means the bytes that it stands for as DATA. The result is
-- `None` if the single word is not DATA, or if there are more words.
abbrev pub payload_of : List (List ℕ) → Option (List ℕ)
payload_of [] = Some []
payload_of (word ∷ []) = data_of word
payload_of (word ∷ other ∷ more) = None

-- The request that COMMAND and the words of its data stand for, or `None` if they stand for none.
abbrev pub request_of : List ℕ → List (List ℕ) → Option Request
request_of command payload = do
  number ← command_of command
  bytes ← payload_of payload
  result_ok (request_reading number bytes)

-- The word of a leg is `ok` if the leg is clean, and `lost` if it is lost. Otherwise the word has the items of the characters that are
-- heard, one after another.
abbrev pub IsLegWord : List ℕ → Heard → Type 0
IsLegWord word Clean = word ≡ codes "ok"
IsLegWord word Lost = word ≡ codes "lost"
IsLegWord word (Chars chars) = IsItemsWord word chars

-- The words of a line stand for an event. After `submit` come WHO, ADDRESS, COMMAND and perhaps DATA. After `turn` come WHO, UP and DOWN;
-- UP and DOWN say what is heard in the two legs. After `protect` comes `on` or `off`. After `noise` comes one word, with the items of the
-- characters that are heard. After `restart` comes nothing.
abbrev pub Says : List (List ℕ) → LineEvent → Type 0
Says words (Submit who address request) = (master to command : List ℕ) × (payload : List (List ℕ))
    × (words ≡ codes "submit" ∷ master ∷ to ∷ command ∷ payload)
    × IsWho master who × IsAddressWord to address × (request_of command payload ≡ Some request)
Says words (Turn who up down) = (master first second : List ℕ) × (words ≡ codes "turn" ∷ master ∷ first ∷ second ∷ [])
    × IsWho master who × IsLegWord first up × IsLegWord second down
Says words (Protect true) = words ≡ codes "protect" ∷ codes "on" ∷ []
Says words (Protect false) = words ≡ codes "protect" ∷ codes "off" ∷ []
Says words (Noise chars) = (items : List ℕ) × (words ≡ codes "noise" ∷ items ∷ []) × IsItemsWord items chars
Says words Restart = words ≡ codes "restart" ∷ []

-- Whether a line is skipped: it has no words, or its first word begins with `#`.
abbrev pub is_skipped : List (List ℕ) → Bool
is_skipped [] = true
is_skipped (word ∷ words) = starts_with nat_eq word (codes "#")

-- A line is bad if it is not skipped and stands for no event.
abbrev pub IsBadLine : List (List ℕ) → Type 0
IsBadLine words = (is_skipped words ≡ false) × HasNoValue (Says words)

-- Each line that is not skipped stands for one event, and `events` are these events, in order.
abbrev pub AreEvents : List (List (List ℕ)) → List LineEvent → Type 0
AreEvents lines events = AllZip Says (filter (λ words. not (is_skipped words)) lines) events

-- The script of a text is the list of the events that its lines stand for.
abbrev pub IsScript : List ℕ → List LineEvent → Type 0
IsScript text events = AreEvents (lines_in_words text) events

-- The number, counted from 1, of the first bad line of a text. Each line before it stands for an event or is skipped.
pub record HasFirstBadLine (text : List ℕ) (number : ℕ) : Type 0 where
  pub before : ℕ
  pub words : List (List ℕ)
  pub events : List LineEvent
  pub counted : number ≡ before + 1
  pub is : slice_get (lines_in_words text) before ≡ Some words
  pub bad : IsBadLine words
  pub good : AreEvents (take before (lines_in_words text)) events

-- A word of items needs memory for one character for every two of its bytes. A word of fewer than two bytes needs no memory.
abbrev pub IsNeededByItems : List ℕ → ℕ → Type 0
IsNeededByItems word items = (0 < items) × (items ≡ length word / 2)

-- Unless the word of a leg is `ok` or `lost`, it needs the memory that a word of items needs.
abbrev pub IsNeededByLeg : List ℕ → ℕ → Type 0
IsNeededByLeg word items = (word ≢ codes "ok") × (word ≢ codes "lost") × IsNeededByItems word items

-- The words of a line need memory for a leg if they are `turn` and three words, and memory for items if they are `noise` and one word.
-- Other words need no memory.
abbrev pub IsNeededByWords : List (List ℕ) → ℕ → Type 0
IsNeededByWords (kind ∷ who ∷ up ∷ down ∷ []) items = (kind ≡ codes "turn") × (IsNeededByLeg up items ⊎ IsNeededByLeg down items)
IsNeededByWords (kind ∷ word ∷ []) items = (kind ≡ codes "noise") × IsNeededByItems word items
IsNeededByWords words items = ⊥

-- A line that is not skipped needs memory for its one event, and the memory that its words need.
abbrev pub IsNeededByLine : List (List ℕ) → ℕ → Type 0
IsNeededByLine words items =
    (is_skipped words ≡ false) × (((event : LineEvent) × Says words event × (items ≡ 1)) ⊎ IsNeededByWords words items)

-- A text needs memory for this number of items if one of its lines needs memory for this number.
abbrev pub IsNeededByText : List ℕ → ℕ → Type 0
IsNeededByText text items = Any (λ words. IsNeededByLine words items) (lines_in_words text)

-- Reading a text fails because of its first bad line, or because memory that it needs is refused. It never fails because of damage.
abbrev pub IsScriptFault : List ℕ → LineFault → Type 0
IsScriptFault text (BadLine number) = HasFirstBadLine text number
IsScriptFault text (Memory room) = IsNeededByText text room.items
IsScriptFault text (Undetected number leg) = ⊥

-- Only private calls use the definitions from here on. They describe the result of reading one line.

-- The result of reading a value: a value for which `IsSaid` is true, `Bad` if there is no such value, or `Memory` if memory was refused for
-- a number of items for which `IsNeeded` is true.
abbrev pub ReadsWords : {T : Type 0} → (ℕ → Type 0) → (T → Type 0) → Result T RowFault → Type 0
ReadsWords {T} IsNeeded IsSaid (Ok value) = IsSaid value
ReadsWords {T} IsNeeded IsSaid (Err rows.Bad) = HasNoValue IsSaid
ReadsWords {T} IsNeeded IsSaid (Err (rows.Memory room)) = IsNeeded room.items

-- A line that is skipped leaves the events unchanged. Any other line adds its event to the events.
abbrev pub AddsLine : List (List ℕ) → List LineEvent → List LineEvent → Type 0
AddsLine words old new = (said : List LineEvent) × AreEvents (words ∷ []) said × (new ≡ old ++ said)

-- Reading the line with this number fails because the line is bad, or because memory that it needs is refused.
abbrev pub IsLineFault : ℕ → List (List ℕ) → LineFault → Type 0
IsLineFault number words (BadLine at) = (at ≡ number) × IsBadLine words
IsLineFault number words (Memory room) = IsNeededByLine words room.items
IsLineFault number words (Undetected event leg) = ⊥
