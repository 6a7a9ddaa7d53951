-- Lines of words and bytes (implementation choice).
use Rattle.std.specs.Prelude.{◌≡◌, ℕ, List, [], ◌∷◌, ◌++◌, codes, decimal, map}
use Rattle.std.specs.List.{join_with_byte}
use Rattle.hex.specs.Hex.{encode_upper}
use Rattle.hart_device.specs.Device.{DeviceState}
use Rattle.hart_device.specs.Image.{image_of}
use Rattle.hart_frame.specs.wire.FrameParts.{FrameParts}
use Rattle.hart_frame.specs.wire.Message.{IsMessage}

-- A line of words: one space between two words, and a line feed at the end.
abbrev pub line_of : List (List ℕ) → List ℕ
line_of words = join_with_byte 32 words ++ 10 ∷ []

-- Bytes as one word: upper case hex, or `-` if there are no bytes.
abbrev pub bytes_word : List ℕ → List ℕ
bytes_word [] = codes "-"
bytes_word (byte ∷ bytes) = encode_upper (byte ∷ bytes)

-- Bytes as items: each byte in upper case hex, with one space between two bytes.
abbrev pub hex_items : List ℕ → List ℕ
hex_items bytes = join_with_byte 32 (map (λ byte. encode_upper (byte ∷ [])) bytes)

-- The line of bytes is their items and a line feed.
abbrev pub hex_line : List ℕ → List ℕ
hex_line bytes = hex_items bytes ++ 10 ∷ []

-- A text is the line of hex for the message of this frame with this number of preamble bytes.
pub record IsMessageLine (frame : FrameParts) (preambles : ℕ) (text : List ℕ) : Type 0 where
  pub message : List ℕ
  pub is_message : IsMessage frame preambles message
  pub line : text ≡ hex_line message

-- The line of the counter has its value in decimal.
abbrev pub counter_line : DeviceState → List ℕ
counter_line device = line_of (codes "counter" ∷ decimal device.counter ∷ [])

-- The line of the image has its bytes in upper case hex.
abbrev pub image_line : DeviceState → List ℕ
image_line device = line_of (codes "image" ∷ encode_upper (image_of device) ∷ [])
