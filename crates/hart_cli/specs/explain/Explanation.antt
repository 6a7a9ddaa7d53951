-- What `hart explain` says of what was heard, and what it writes for what it reads (implementation choice).
use Rattle.std.specs.Prelude.{◌≡◌, ℕ, Bool, true, false, List, Option}
use Rattle.std.specs.List.{flat_map}
use Rattle.hart_frame.specs.heard.Sighting.{Seen}
use Rattle.hart_text.specs.Heard.{Heard}
use Rattle.hart_listen.specs.Dated.{Dated, line_of, words_of}
use Rattle.hart_listen.specs.Preambles.{told_of}
use Rattle.hart_listen.specs.Sightings.{AreDecided, AreSightingsOf}
use Rattle.hart_cli.specs.declared.fault.CliFault.{CliFault}
use Rattle.hart_cli.specs.declared.calls.explain.printer.Style.{Style}
use Rattle.hart_cli.specs.declared.calls.explain.printer.Style.TheVariants.{Objects, Words}
use Rattle.hart_cli.specs.ImageWord.{OutcomeRelation}
use Rattle.hart_cli.specs.input.Decoding.{Decoding, heard_decoding, raw_decoding, raw_limit}
use Rattle.hart_cli.specs.input.Input.{Ending, stream_limit}
use Rattle.hart_cli.specs.input.LiveInput.{HasText, LiveOutcome}

-- The text of a dated sighting in a style: in words, or its line.
abbrev pub text_of : Style → Dated → List ℕ
text_of Words = words_of
text_of Objects = line_of

-- The text of sightings in a style is the text of each, in their order. What was heard gives their dates and preamble bytes.
abbrev pub text_in : Style → List Heard → List Seen → List ℕ
text_in style heard seen = flat_map (text_of style) (told_of heard seen)

-- The text of what was heard, in a style, is the text of all sightings in it.
pub record IsTextIn (style : Style) (heard : List Heard) (text : List ℕ) : Type 0 where
  pub seen : List Seen
  pub are_sightings : AreSightingsOf heard seen
  pub text_is : text ≡ text_in style heard seen

-- The decided text of what was heard, in a style, is the text of the sightings that it decides.
pub record IsDecidedIn (style : Style) (heard : List Heard) (text : List ℕ) : Type 0 where
  pub seen : List Seen
  pub decided : AreDecided heard seen
  pub text_is : text ≡ text_in style heard seen

-- How the input is decoded: raw, or as hex items with marks.
abbrev pub decoding_of : (is_raw : Bool) → Decoding (List Heard)
decoding_of true = raw_decoding
decoding_of false = heard_decoding

-- The greatest number of bytes of the input: 2^64 - 2 if it is raw, and otherwise 2^64 - 1.
abbrev pub limit_of : (is_raw : Bool) → ℕ
limit_of true = raw_limit
limit_of false = stream_limit

-- The explanation of an input with this first fault, if any: the text in a style of what was heard before the fault.
abbrev pub IsExplanation : Style → (is_raw : Bool) → List ℕ → Ending → Option CliFault → List ℕ → Type 0
IsExplanation style is_raw = HasText (decoding_of is_raw) (IsTextIn style)

-- A call of `explain` reads an input, and writes its explanation. `LiveOutcome` says when the parts are written.
abbrev pub ExplainOutcome : Style → (is_raw : Bool) → OutcomeRelation
ExplainOutcome style is_raw = LiveOutcome (decoding_of is_raw) (limit_of is_raw) (IsTextIn style) (IsDecidedIn style)
