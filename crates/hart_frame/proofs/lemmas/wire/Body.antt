-- Which bytes are a body: the checked part with its check byte, or bytes of even parity. A body begins with its delimiter. The parts into
-- which a layout cuts bytes, joined again, are the bytes.
use Rattle.hart_frame.proofs.Common.{ℕ, ◌-◌, ◌<◌, ◌≤◌, List, [], ◌∷◌, ◌++◌, length, take, arith, common_steps, take_more, take_all, All}
use Rattle.hart_frame.proofs.Common.{append_assoc, length-append, IsBody, IsCheckedPart, FrameParts, IsCheckByte, HasEvenParity, All-push}
use Rattle.hart_frame.proofs.Common.{◌≡◌, delimiter_of, ◌+◌, drop, get_or, take-add, length-drop, drop_more, drop-drop, length-take-le}
use Rattle.hart_frame.proofs.Common.{slice_range, IsAddressBytes, Layout, Describes, body_length, HasCheckByte}
use Rattle.hart_frame.proofs.lemmas.wire.Parity.{HasEvenParity-push}
use Rattle.hart_frame.proofs.lemmas.wire.UnambiguousBodies.{address_type-lt, kind_code-is}
use Rattle.hart_frame.specs.wire.FrameParts.{IsLongEnough}

-- The checked part of a frame, with its check byte, is a body.
pub IsBody-push : (frame : FrameParts) (checked : List ℕ) (check : ℕ) → IsCheckedPart frame checked
    → All (λ byte. byte < 256) checked → IsCheckByte checked check → IsBody frame (checked ++ check ∷ [])
IsBody-push frame checked check part fits check_byte = grind (arith, common_steps, All-push, HasEvenParity-push)

-- Bytes of even parity are a body if all of them but the last are the checked part of a frame.
pub IsBody-whole : (bytes : List ℕ) (frame : FrameParts) → 1 ≤ length bytes → All (λ byte. byte < 256) bytes
    → IsCheckedPart frame (take (length bytes - 1) bytes) → HasEvenParity bytes → IsBody frame bytes
IsBody-whole bytes frame some fits part even = grind (arith, take_all, take_more bytes (length bytes - 1) 0)

-- A body begins with its delimiter, which is not FF.
pub head_of : (f : FrameParts) (body : List ℕ) → IsBody f body
    → (others : List ℕ) × (body ≡ delimiter_of f ∷ others) × (delimiter_of f < 255)
head_of f body is = grind (arith, common_steps, kind_code-is, address_type-lt)

-- An attribute in code cannot name lemmas with a dash in their names, so it names this rule set.
pub ruleset appended = (append_assoc, length-append)

-- A range and the range right after it together are one range.
slice_range-join : (xs : List ℕ) (a b c : ℕ) → a ≤ b → b ≤ c → slice_range xs a b ++ slice_range xs b c ≡ slice_range xs a c
slice_range-join xs a b c ab bc = grind (arith, take-add (b - a) (c - b) (drop a xs), drop-drop (b - a) a xs)

-- A range is its first element and then the rest.
slice_range-first : (xs : List ℕ) (a c : ℕ) → a < c → a < length xs → get_or xs a 0 ∷ slice_range xs (a + 1) c ≡ slice_range xs a c
slice_range-first xs a c ac within = grind (arith, drop_more xs a 0, take-add 1 (c - (a + 1)) (drop a xs))

-- A prefix of a list of bytes is one byte, two ranges, two bytes and a third range, one after another.
cut : (xs : List ℕ) (i j k : ℕ) → 1 ≤ i → i ≤ j → j + 2 ≤ k → k ≤ length xs
    → take k xs ≡ get_or xs 0 0 ∷ slice_range xs 1 i ++ slice_range xs i j ++ get_or xs j 0 ∷ get_or xs (j + 1) 0 ∷ slice_range xs (j + 2) k
cut xs i j k low middle high within =
    grind (arith, slice_range-join xs 1, slice_range-first xs 0 k, slice_range-first xs j k, slice_range-first xs (j + 1) k)

-- The parts of a frame stand in the bytes where the layout says.
pub record StandsByLayout (bytes : List ℕ) (layout : Layout) (frame : FrameParts) : Type 0 where
  pub kind : frame.kind ≡ layout.kind
  pub address : IsAddressBytes frame.master frame.burst frame.address (slice_range bytes 1 layout.address_end)
  pub expansion : frame.expansion ≡ slice_range bytes layout.address_end layout.command_place
  pub command : frame.command ≡ get_or bytes layout.command_place 0
  pub payload : frame.payload ≡ slice_range bytes (layout.command_place + 2) (layout.command_place + 2 + layout.byte_count)
  pub payload_fits : IsLongEnough frame.kind frame.payload

-- The length of a range is the difference of its ends.
pub length-slice_range : (xs : List ℕ) (a b : ℕ) → a ≤ b → b ≤ length xs → length (slice_range xs a b) ≡ b - a
length-slice_range xs a b ab within = length-take-le (b - a) (drop a xs) (omega (arith, length-drop a xs))

-- If the parts of a frame stand in bytes where the layout says, the bytes before the check byte are its checked part.
pub IsCheckedPart-in : (bytes : List ℕ) (layout : Layout) (frame : FrameParts) → Describes layout bytes → HasCheckByte bytes
    → StandsByLayout bytes layout frame → IsCheckedPart frame (take (body_length bytes - 1) bytes)
IsCheckedPart-in bytes layout frame describes whole stands =
    let k = layout.command_place + 2 + layout.byte_count in
    grind (arith, cut bytes layout.address_end layout.command_place k, length-slice_range bytes)
