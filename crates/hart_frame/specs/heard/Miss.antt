-- The miss of a place, found step by step (HCF_SPEC-081; implementation choice). By the law `misses_are_in_the_way`, it is exactly the miss
-- that `InTheWay.IsMiss` describes. The texts of `explain` and the sightings of a list use `miss_of`.
use Rattle.std.specs.Prelude.{◌+◌, ◌-◌, ◌%◌, ◌==◌, ◌&&◌, not, nat_le, nat_lt, if◌then◌else◌, ℕ, zero, suc, Bool, false}
use Rattle.std.specs.Prelude.{List, Option, None, Some, drop, fold, is_none, length, slice_get, slice_index, take, bit_xor}
use Rattle.std.specs.Option.{option_map_or}
use Rattle.hart_frame.specs.heard.Character.{Character, faultless_bytes}
use Rattle.hart_frame.specs.wire.Delimiter.{is_burst_delimiter, is_delimiter}
use Rattle.hart_frame.specs.wire.Layout.{body_length, byte_count_in, byte_count_place, delimiter_in}
use Rattle.hart_frame.specs.declared.heard.miss.Miss.{Miss}
use Rattle.hart_frame.specs.declared.heard.miss.Miss.TheVariants.{Faulty, Burst, BadDelimiter, EndsBeforeByteCount, ShortReply, Missing}
use Rattle.hart_frame.specs.declared.heard.miss.Miss.TheVariants.{BadCheck, OnePreamble}

-- Why a first byte is no STX or ACK delimiter: it is the delimiter of a burst message, or some other byte.
abbrev pub delimiter_miss : ℕ → Miss
delimiter_miss byte = if is_burst_delimiter byte then Burst else BadDelimiter byte

-- The miss of a check byte that does not fit: its place, the check byte itself, and the byte that would fit. The fitting byte is the
-- exclusive or of all bytes of the body before the check byte. A check byte that fits has no miss.
abbrev pub check_miss : List ℕ → ℕ → Option Miss
check_miss bytes start =
    let last = body_length bytes - 1 in
    let fits = fold bit_xor 0 (take last bytes) in
    if slice_index bytes last == fits then None else Some (BadCheck (start + last) (slice_index bytes last) fits)

-- The miss of faultless bytes that end too early: the character with fault bits at `place`, right after them, or the miss `at_end` if the
-- list ends there.
abbrev pub faulty_or : Option Character → ℕ → Miss → Miss
faulty_or None place at_end = at_end
faulty_or (Some character) place at_end = Faulty place character.faults

-- Why no body begins at `start`, or `None` if a body begins there. The first condition that applies decides. `bytes` are the faultless
-- bytes from `start` on. `faulty` is the character with fault bits after them, if there is one, and `faulty_place` is its place.
abbrev pub miss_in : List ℕ → Option Character → ℕ → ℕ → Option Miss
miss_in bytes faulty faulty_place start =
    if length bytes == 0 then Some (faulty_or faulty faulty_place EndsBeforeByteCount)
    else if not (is_delimiter (delimiter_in bytes)) then Some (delimiter_miss (delimiter_in bytes))
    else if nat_le (length bytes) (byte_count_place bytes) then Some (faulty_or faulty faulty_place EndsBeforeByteCount)
    else if (delimiter_in bytes % 8 == 6) && nat_lt (byte_count_in bytes) 2 then Some (ShortReply (byte_count_in bytes))
    else if nat_lt (length bytes) (body_length bytes)
    then Some (faulty_or faulty faulty_place (Missing (body_length bytes - length bytes)))
    else check_miss bytes start

-- Like `miss_in`, but for the list `heard` of all characters from `start` on.
abbrev pub body_miss : ℕ → List Character → Option Miss
body_miss start heard =
    let bytes = faultless_bytes heard in miss_in bytes (slice_get heard (length bytes)) (start + length bytes) start

-- Whether a character is a faultless preamble byte FF.
abbrev pub is_preamble : Character → Bool
is_preamble character = (character.byte == 255) && (character.faults == 0)

-- Whether a faultless FF stands right before a place.
abbrev pub follows_preamble : List Character → ℕ → Bool
follows_preamble chars zero = false
follows_preamble chars (suc before) = option_map_or is_preamble (slice_get chars before) false

-- Whether a body may start at a place: two faultless FF stand right before it, and the character at it is not a faultless FF.
abbrev pub is_start : List Character → ℕ → Bool
is_start chars place =
    follows_preamble chars place && follows_preamble chars (place - 1)
    && option_map_or (λ first. not (is_preamble first)) (slice_get chars place) false

-- Whether exactly one faultless FF stands right before a place.
abbrev pub follows_one_preamble : List Character → ℕ → Bool
follows_one_preamble chars place = follows_preamble chars place && not (follows_preamble chars (place - 1))

-- The miss of a place is the reason why no frame stands there. Where a body may start but no body begins, the miss is what is wrong there.
-- Where a whole body stands after a single faultless FF, the miss is `OnePreamble`. Any other place has no miss.
abbrev pub miss_of : List Character → ℕ → Option Miss
miss_of chars start =
    if is_start chars start then body_miss start (drop start chars)
    else if follows_one_preamble chars start && is_none (body_miss start (drop start chars)) then Some OnePreamble
    else None
