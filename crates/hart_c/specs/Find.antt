-- The characters that a caller in C passes, and what repeated searches promise if the unused characters are passed again (implementation
-- choice).
use Rattle.std.specs.Prelude.{◌≤◌, ◌≡◌, ◌+◌, ◌<◌, ◌⊎◌, ◌++◌, List, [], ◌∷◌, length, ℕ, Bool, IsTrue, false, drop, map, take, All}
use Rattle.hart_frame.specs.heard.Character.{AreFaultBits, Character}
use Rattle.hart_frame.specs.{declared.heard.found.Found.Found, heard.Frames.IsUndecided, heard.Frames.moved, scan.Next.AreNext}
use Rattle.hart_c.specs.declared.fault.Fault.TheVariants.{BadFaultBits, TooLong}
use Rattle.hart_c.specs.{Faults.Check, Faults.needs, Faults.number_of, Numbers.IsTidy, Numbers.found_in}
use Rattle.hart_c.specs.declared.{find.HartChar.HartChar, find.HartSearch.HartSearch, frame.HartFrame.HartFrame}

-- The `faults` of each character are fault bits only.
abbrev pub HaveFaultBits : List HartChar → Type 0
HaveFaultBits heard = All (λ given. AreFaultBits given.faults) heard

-- The checks of a delivery, in this order: the `faults` of its characters are fault bits only; it has at most 1,024 characters.
abbrev pub heard_checks : List HartChar → List Check
heard_checks heard = needs (HaveFaultBits heard) BadFaultBits ∷ needs (length heard ≤ 1024) TooLong ∷ []

-- A search writes the next frames. If `frames` has room for more frames, the search leaves at most 268 characters unused, and no frame in
-- them is decided yet. If the input has also ended, the search leaves no characters.
pub record Finds (chars : List Character) (ended : Bool) (before after : List HartFrame) (search : HartSearch) : Type 0 where
  pub within : search.count ≤ length after
  pub untouched : drop search.count after ≡ drop search.count before
  pub tidy : All IsTidy (take search.count after)
  pub next : AreNext chars ended 0 (map found_in (take search.count after)) search.used
  pub few : search.count < length after → length chars ≤ search.used + 268
  pub all : search.count < length after → IsTrue ended → search.used ≡ length chars
  pub undecided : search.count < length after → ended ≡ false → IsUndecided (drop search.used chars)
  pub fault : search.fault ≡ 0

-- The character that a `HartChar` describes.
abbrev pub char_of : HartChar → Character
char_of given = record { byte = given.byte; faults = given.faults }

-- If the `faults` of all characters are fault bits only, the next frames are written. Otherwise the fault is 13, the other fields of the
-- result are 0, and `frames` is unchanged.
abbrev pub SearchOutcome : List HartChar → Bool → List HartFrame → List HartFrame → HartSearch → Type 0
SearchOutcome heard ended before after search =
    (HaveFaultBits heard × Finds (map char_of heard) ended before after search)
    ⊎ ((HaveFaultBits heard → ⊥) × (search ≡ record { used = 0; count = 0; fault = number_of BadFaultBits }) × (after ≡ before))

-- What repeated searches have done so far: the characters heard, whether the input has ended, the frames found, and how many characters are
-- used up. Each search updates all four.
pub data IsSearchedSoFar : List Character → Bool → List Found → ℕ → Type 0 where
  begin : IsSearchedSoFar [] false [] 0
  search : (heard piece : List Character) (before ended : Bool) (given found : List Found) (used further : ℕ)
      → IsSearchedSoFar heard before given used → (IsTrue before → (piece ≡ []) × IsTrue ended)
      → AreNext (drop used heard ++ piece) ended 0 found further
      → IsSearchedSoFar (heard ++ piece) ended (given ++ map (moved used) found) (used + further)
