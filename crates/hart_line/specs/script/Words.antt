-- The words that describe a message to send, in scripts and on the command line (implementation choice).
use Rattle.std.specs.Prelude.{◌≡◌, ℕ, ◌+◌, ◌*◌, ◌%◌, ◌&&◌, ◌==◌, nat_le, if◌then◌else◌, List, [], ◌∷◌, length, slice_index, codes, Option}
use Rattle.std.specs.Prelude.{None, Some, option_and_then, option_map}
use Rattle.std.specs.Map.{lookup}
use Rattle.std.specs.Option.{option_or}
use Rattle.std.specs.Result.{result_ok}
use Rattle.std.specs.Str.{all_ascii_digits, bytes_eq}
use Rattle.std.specs.Str.Parse.{digits_value}
use Rattle.hex.specs.Hex.{decode_sized}
pub use Rattle.hart_text.specs.Data.{Finds, HasNoValue, IsDataWord, data_of}
use Rattle.hart_values.specs.address.AddressBytes.{broadcast}
use Rattle.hart_values.specs.address.DeviceNumbers.{DeviceNumbers}
use Rattle.hart_line.specs.Types.{Address, MasterId, Primary, Secondary}
use Rattle.hart_values.specs.declared.address.Address.TheVariants.{Polling, Unique}

-- Reads twice: the second reading gets the value that the first reading found. The result is `None` if one of the readings finds nothing.
infixl 10 ◌>>=◌
abbrev pub ◌>>=◌ : {A B : Type 0} → Option A → (A → Option B) → Option B
read >>= next = option_and_then next read

-- The value beside a word in a table of words, or `None` if the word is not in the table.
abbrev pub named_in : {T : Type 0} → List (List ℕ × T) → List ℕ → Option T
named_in {T} table word = lookup (λ name. bytes_eq word name) table

-- WHO is `P` for the primary master and `S` for the secondary.
abbrev pub who_of : List ℕ → Option MasterId
who_of word = named_in ((codes "P", Primary) ∷ (codes "S", Secondary) ∷ []) word

-- The number that a word stands for in decimal, if the word has 1 to `most_digits` digits and the number is at most `greatest`. Otherwise
-- the result is `None`.
abbrev pub decimal_of : (most_digits greatest : ℕ) → List ℕ → Option ℕ
decimal_of most_digits greatest word =
    if all_ascii_digits word && nat_le 1 (length word) && nat_le (length word) most_digits && nat_le (digits_value 10 word) greatest
    then Some (digits_value 10 word) else None

-- A polling address, up to 63, is written as `@`, which is the byte 64, and one or two digits.
abbrev pub polling_of : List ℕ → Option ℕ
polling_of [] = None
polling_of (at ∷ digits) = if at == 64 then decimal_of 2 63 digits else None

-- The numbers of a device from five bytes: two bytes for its type, of which only the lower 14 bits count, and three bytes for its id.
abbrev pub numbers_of : List ℕ → DeviceNumbers
numbers_of bytes = record {
  expanded_type = (256 * slice_index bytes 0 + slice_index bytes 1) % 16384;
  device_id = 65536 * slice_index bytes 2 + 256 * slice_index bytes 3 + slice_index bytes 4;
}

-- A device is written as its five bytes, in ten hex digits of either case.
abbrev pub device_of : List ℕ → Option DeviceNumbers
device_of word = option_map numbers_of (result_ok (decode_sized word 5))

-- An address is `@` and a polling address, ten hex digits, or `all`.
abbrev pub address_of : List ℕ → Option Address
address_of word =
    if bytes_eq word (codes "all") then Some broadcast
    else option_or (option_map Polling (polling_of word)) (option_map Unique (device_of word))

-- A command is a number up to 255, written in one to three digits.
abbrev pub command_of : List ℕ → Option ℕ
command_of word = decimal_of 3 255 word

-- A word stands for this master.
abbrev pub IsWho : List ℕ → MasterId → Type 0
IsWho word master = who_of word ≡ Some master

-- A word stands for this address.
abbrev pub IsAddressWord : List ℕ → Address → Type 0
IsAddressWord word address = address_of word ≡ Some address

-- A word stands for this command.
abbrev pub IsCommandWord : List ℕ → ℕ → Type 0
IsCommandWord word command = command_of word ≡ Some command
