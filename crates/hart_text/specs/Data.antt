-- Data in plain hex (implementation choice).
use Rattle.std.specs.Prelude.{◌≡◌, ℕ, nat_le, if◌then◌else◌, List, length, Option, None, Some, option_and_then}
use Rattle.std.specs.Result.{result_ok}
use Rattle.hex.specs.Hex.{decode_of}

-- Data are written in two hex digits of either case for each byte, at most 255 bytes.
abbrev pub data_of : List ℕ → Option (List ℕ)
data_of word = option_and_then (λ bytes. if nat_le (length bytes) 255 then Some bytes else None) (result_ok (decode_of word))

-- A word stands for these data.
abbrev pub IsDataWord : List ℕ → List ℕ → Type 0
IsDataWord word bytes = data_of word ≡ Some bytes

-- No value makes `IsValue` true.
abbrev pub HasNoValue : {T : Type 0} → (T → Type 0) → Type 0
HasNoValue {T} IsValue = (value : T) → IsValue value → ⊥

-- If a value is found, `IsValue` is true of it. If nothing is found, no value makes `IsValue` true.
abbrev pub Finds : {T : Type 0} → (T → Type 0) → Option T → Type 0
Finds {T} IsValue None = HasNoValue IsValue
Finds {T} IsValue (Some value) = IsValue value
