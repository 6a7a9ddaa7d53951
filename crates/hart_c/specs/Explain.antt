-- What a message means, for a caller in C (implementation choice).
use Rattle.std.specs.Prelude.{◌≡◌, ◌≤◌, ◌==◌, ◌++◌, if◌then◌else◌, ℕ, List, [], ◌∷◌, None, length}
use Rattle.hart_frame.specs.declared.heard.found.Found.{Found}
use Rattle.hart_frame.specs.heard.Sighting.{Message}
use Rattle.hart_explain.specs.declared.before.Before.{Before}
use Rattle.hart_explain.specs.{Message.paragraph, Sighting.json_line}
use Rattle.hart_c.specs.Faults.{Check, Outcome, needs, outcome_of, refused_if}
use Rattle.hart_c.specs.Messages.{HasNoRoom, IsFrame, IsWritten, frame_checks}
use Rattle.hart_c.specs.Numbers.{found_in}
use Rattle.hart_c.specs.declared.fault.Fault.TheVariants.{BadStyle, NoRoom}
use Rattle.hart_c.specs.declared.{fault.HartOutcome.HartOutcome, frame.HartFrame.HartFrame}

-- Style 0 is words, and style 1 is an object of JSON.
abbrev pub IsStyle : ℕ → Type 0
IsStyle style = style ≤ 1

-- No message was heard before: a request is sent for the first time, and a reply answers no request. The number of preamble bytes is not
-- known.
abbrev pub nothing_before : Before
nothing_before = record { answers = None; sending = 1; preambles = None }

-- The text of a message that is heard alone is its paragraph in words, or its line of JSON.
abbrev pub explained : ℕ → Found → List ℕ
explained style found = if style == 0 then paragraph nothing_before found else json_line [] nothing_before (Message found)

-- First the frame is checked, then the style, and then whether the text fits.
abbrev pub explain_checks : ℕ → HartFrame → ℕ → List Check
explain_checks style frame room =
    frame_checks frame ++ needs (IsStyle style) BadStyle
    ∷ refused_if (HasNoRoom (λ text. text ≡ explained style (found_in frame)) room) NoRoom ∷ []

-- Either the text of the message is written, and the call returns its length; or the call returns a fault, and the output is unchanged.
abbrev pub ExplainOutcome : ℕ → HartFrame → List ℕ → List ℕ → HartOutcome → Type 0
ExplainOutcome style frame before after =
    Outcome (explain_checks style frame (length before))
    (λ len. IsFrame frame × IsStyle style × IsWritten (λ text. text ≡ explained style (found_in frame)) before after len)
    (after ≡ before) outcome_of
