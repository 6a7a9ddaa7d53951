-- Where the parts of a body stand in a list of bytes (HCF_SPEC-081).
use Rattle.std.specs.Prelude.{ℕ, ◌+◌, ◌*◌, ◌/◌, ◌%◌, List, slice_index}

-- The delimiter is the first byte, or 0 if the list is empty.
abbrev pub delimiter_in : List ℕ → ℕ
delimiter_in bytes = slice_index bytes 0

-- The address ends after one byte or five, as bit 7 of the delimiter says.
abbrev pub address_end : List ℕ → ℕ
address_end bytes = 2 + 4 * (delimiter_in bytes / 128)

-- The command stands after the expansion bytes, whose number is in bits 6 and 5 of the delimiter.
abbrev pub command_place : List ℕ → ℕ
command_place bytes = address_end bytes + delimiter_in bytes / 32 % 4

-- The byte count stands after the command.
abbrev pub byte_count_place : List ℕ → ℕ
byte_count_place bytes = command_place bytes + 1

-- The byte count is the byte at `byte_count_place`.
abbrev pub byte_count_in : List ℕ → ℕ
byte_count_in bytes = slice_index bytes (byte_count_place bytes)

-- The length of a body: the bytes up to and including the byte count, the payload, and the check byte. The byte count is the payload's
-- length.
abbrev pub body_length : List ℕ → ℕ
body_length bytes = byte_count_place bytes + byte_count_in bytes + 2
