-- What two calls write about the same input (implementation choice).
use Rattle.std.specs.Prelude.{◌≡◌, ℕ, List, [], Option}
use Rattle.hart_frame.specs.heard.Character.{Character}
use Rattle.hart_frame.specs.heard.Frames.{AreFrames}
use Rattle.hart_frame.specs.heard.Sighting.{Seen, sightings}
use Rattle.hart_frame.specs.declared.heard.found.Found.{Found}
use Rattle.hart_text.specs.Heard.{Heard}
use Rattle.hart_listen.specs.Dated.{explanation}
use Rattle.hart_listen.specs.Preambles.{object_lines}
use Rattle.hart_listen.specs.Sightings.{AreSightingsOf, date_of, undated}
use Rattle.hart_cli.specs.declared.fault.CliFault.{CliFault}
use Rattle.hart_cli.specs.dump.Text.{dump_text}
use Rattle.hart_cli.specs.input.Decoding.{Decoding}
use Rattle.hart_cli.specs.input.Input.{Ending}
use Rattle.hart_cli.specs.input.InputChars.{HasChars}

-- Lines of `hart dump` and an explanation are about the same messages: the frames before the first fault of an input, if it has one. Each
-- frame has one line and one paragraph of the explanation, with the same places and in the same order.
pub record AreOfSameMessages (input : List ℕ) (ending : Ending) (fault : Option CliFault) (lines text : List ℕ) : Type 0 where
  pub chars : List Character
  pub has_chars : HasChars input ending chars fault
  pub frames : List Found
  pub are_frames : AreFrames chars 0 frames
  pub dumped : lines ≡ dump_text frames
  pub explained : text ≡ explanation undated [] (sightings chars 0 frames)

-- An explanation and JSON lines are about the same sightings: those in what was heard before the first fault, if any. Both have them in
-- the same order, with the same dates.
pub record AreOfSameSightings (decoding : Decoding (List Heard)) (input : List ℕ) (ending : Ending) (fault : Option CliFault)
    (text lines : List ℕ) : Type 0 where
  pub heard : List Heard
  pub has : decoding.Has input ending heard fault
  pub seen : List Seen
  pub are_sightings : AreSightingsOf heard seen
  pub text_is : text ≡ explanation (date_of heard) [] seen
  pub lines_are : lines ≡ object_lines heard seen
