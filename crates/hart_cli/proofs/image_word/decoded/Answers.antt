use Rattle.std.proofs.Common.{◌≡◌, List, ℕ, ◌/◌, arith, length, Err}
use Rattle.std.proofs.lemmas.Bool.{cases_eq}
use Rattle.std.proofs.lemmas.Grind.{common_steps}
use Rattle.std.proofs.lemmas.List.{length-replicate}
use Rattle.hex.specs.Hex.{decode_of, decode_sized}
use Rattle.hex.specs.declared.error.FromHexError.TheVariants.{InvalidHexCharacter}
use Rattle.hex.proofs.HexLemmas.{decode_of-err, decode_of-odd, decode_sized-odd, decode_sized-twice}
use Rattle.hart_cli.specs.ImageWord.{IsBadHexWord, no_digit, odd}
use Rattle.hart_cli.proofs.image_word.decoded.Goals as goal

-- room for half as many bytes as a word has is enough to decode it
half_sized : (word : List ℕ) → decode_sized word (length word / 2) ≡ decode_of word
half_sized word = grind (arith, common_steps, cases_eq, decode_of-odd, decode_sized-odd, decode_sized-twice)

-- a word that does not decode because of a byte that is no digit has bad hex at that byte
bad_hex : (word : List ℕ) (place c : ℕ) → decode_of word ≡ Err (InvalidHexCharacter c place) → IsBadHexWord word place
bad_hex word place c refused = grind (arith, decode_of-err, decode_of-odd, no_digit)

pub returns-in-Err-InvalidHexCharacter-clause-fault : goal.returns-in-Err-InvalidHexCharacter-clause-fault
returns-in-Err-InvalidHexCharacter-clause-fault c = grind (arith, common_steps, half_sized, length-replicate, bad_hex)

pub returns-in-Err-OddLength-clause-fault : goal.returns-in-Err-OddLength-clause-fault
returns-in-Err-OddLength-clause-fault c = grind (arith, common_steps, half_sized, length-replicate, odd, decode_of-err)

pub unreachable-requires : goal.unreachable-requires
unreachable-requires c = grind (arith, common_steps, half_sized, length-replicate, decode_of-err)

pub unreachable-requires-in-Err-OutOfMemory : goal.unreachable-requires-in-Err-OutOfMemory
unreachable-requires-in-Err-OutOfMemory c = grind (arith, common_steps, half_sized, length-replicate, decode_of-err)
