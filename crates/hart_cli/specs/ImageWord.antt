-- The device of a call, and the word of the image from which the device starts (implementation choice).
use Rattle.std.specs.Prelude.{◌≡◌, ℕ, ◌%◌, ◌/◌, ◌<◌, ◌⊎◌, false, List, length, take, slice_index, Option, None, Some, Result, Ok, Err}
use Rattle.std.specs.List.{AllPass}
use Rattle.hex.specs.Hex.{decode_of, is_hex_digit}
use Rattle.hart_device.specs.Bench.{bench_identity, bench_values}
use Rattle.hart_device.specs.Device.{DeviceState, for_both, new_device}
use Rattle.hart_device.specs.Image.{IsImageOf, IsImageFault}
use Rattle.hart_cli.specs.declared.fault.CliFault.{CliFault}
use Rattle.hart_cli.specs.declared.fault.CliFault.TheVariants.{BadHex, Image, Memory}
use Rattle.hart_cli.specs.stream.Stream.{Stream}

-- The bench device in its first state.
abbrev pub bench_device : DeviceState
bench_device = new_device bench_identity bench_values

-- The word of an image has two hex digits of either case for each byte of the image.
abbrev pub IsImageWord : List ℕ → List ℕ → Type 0
IsImageWord word image = decode_of word ≡ Ok image

-- Without an image, the device of a call is the new bench device. With an image, it is the bench device in the state of that image,
-- with no cold start bit set.
abbrev pub IsDeviceOf : Option (List ℕ) → DeviceState → Type 0
IsDeviceOf None device = device ≡ bench_device
IsDeviceOf (Some word) device =
    (device.identity ≡ bench_identity) × (device.cold_start ≡ for_both false)
    × (image : List ℕ) × IsImageWord word image × IsImageOf device image

-- The place of bad hex in the word of an image. If the word has an odd number of bytes, this place is the word's length. Otherwise it is
-- the place of the first byte that is no hex digit.
pub data IsBadHexWord (word : List ℕ) : ℕ → Type 0 where
  odd : length word % 2 ≡ 1 → IsBadHexWord word (length word)
  no_digit : (place : ℕ) → length word % 2 ≡ 0 → place < length word → is_hex_digit (slice_index word place) ≡ false
      → AllPass is_hex_digit (take place word) → IsBadHexWord word place

-- The fault of an image. If the image's word is bad hex, the fault is the bad hex. Otherwise it is the fault of the bytes that the word
-- encodes.
abbrev pub HasImageFault : Option (List ℕ) → CliFault → Type 0
HasImageFault (Some word) (BadHex place) = IsBadHexWord word place
HasImageFault (Some word) (Image fault) = (image : List ℕ) × IsImageWord word image × IsImageFault image fault
HasImageFault _ _ = ⊥

-- Memory for the bytes of an image was refused. One byte is needed for every two bytes of the image's word. A refusal of memory is no fault
-- of the image.
abbrev pub LacksImageRoom : Option (List ℕ) → CliFault → Type 0
LacksImageRoom (Some word) (Memory none) = none.items ≡ length word / 2
LacksImageRoom _ _ = ⊥

-- The reason why a call has no device: a fault of its image, or refused memory for the bytes of the image.
abbrev pub HasNoDevice : Option (List ℕ) → CliFault → Type 0
HasNoDevice image fault = HasImageFault image fault ⊎ LacksImageRoom image fault

-- A relation between the reader and the writer, each before and after a call, and what the call returned.
abbrev pub OutcomeRelation : Type 1
OutcomeRelation = Stream → Stream → Stream → Stream → Result (Unit {0}) CliFault → Type 0

-- A call returned the reason why it has no device, and did not touch the reader or the writer.
pub record GivesNoDevice (image : Option (List ℕ)) (reader reader_after writer writer_after : Stream)
    (result : Result (Unit {0}) CliFault) : Type 0 where
  pub fault : CliFault
  pub no_device : HasNoDevice image fault
  pub given : result ≡ Err fault
  pub unread : reader_after ≡ reader
  pub unwritten : writer_after ≡ writer

-- A device was made for the call, and `Did` is true of this device.
pub record WentOn (image : Option (List ℕ)) (Did : DeviceState → Type 0) : Type 0 where
  pub device : DeviceState
  pub is_device : IsDeviceOf image device
  pub did : Did device

-- If a call had no device, the call returned the reason, and touched neither the reader nor the writer. If the call had a device, `Outcome`
-- says for this device what the call did.
abbrev pub OutcomeWith : (DeviceState → OutcomeRelation) → Option (List ℕ) → OutcomeRelation
OutcomeWith Outcome image reader reader_after writer writer_after result =
    GivesNoDevice image reader reader_after writer writer_after result
    ⊎ WentOn image (λ device. Outcome device reader reader_after writer writer_after result)
