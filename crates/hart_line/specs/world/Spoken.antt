-- What is spoken on the line (HCF_SPEC-081).
use Rattle.std.specs.Prelude.{◌≡◌, ℕ, Bool, true, false, List, [], ◌∷◌, ◌++◌, Option, None, Some}
use Rattle.std.specs.List.{AllZip}
use Rattle.hart_line.specs.Types.{MasterId, Primary, Secondary, FrameParts, Spoken}
use Rattle.hart_frame.specs.wire.Body.{IsBody}
use Rattle.hart_line.specs.declared.line.report.Party.{Party}
use Rattle.hart_line.specs.declared.line.report.Party.TheVariants as parties

-- A spoken frame, with the party that spoke it and the number of preamble bytes before it.
pub record SpokenFrame : Type 0 where
  pub party : Party
  pub preambles : ℕ
  pub frame : FrameParts

-- The spoken frame of a party, after this number of preamble bytes, if the party speaks a frame.
abbrev pub spoken_by : Party → ℕ → Option FrameParts → Option SpokenFrame
spoken_by party preambles None = None
spoken_by party preambles (Some frame) = Some (record { party = party; preambles = preambles; frame = frame })

-- The frame that a call has written, if the call returned true, and otherwise `None`.
abbrev pub frame_if : Bool → FrameParts → Option FrameParts
frame_if true frame = Some frame
frame_if false frame = None

-- The frame that was spoken, if any.
abbrev pub frame_of : Option SpokenFrame → Option FrameParts
frame_of None = None
frame_of (Some said) = Some said.frame

-- A master as a party of the line.
abbrev pub party_of : MasterId → Party
party_of Primary = parties.Primary
party_of Secondary = parties.Secondary

-- Implementation choice: a master puts 20 preamble bytes before each request.
abbrev pub master_preambles : ℕ
master_preambles = 20

-- A spoken frame is kept as its party, its number of preamble bytes, and the bytes of its body.
pub record IsSpoken (said : SpokenFrame) (spoken : Spoken) : Type 0 where
  pub party : spoken.party ≡ said.party
  pub preambles : spoken.preambles ≡ said.preambles
  pub body : IsBody said.frame spoken.bytes

-- The list of what was spoken grows by this frame, if there is one.
abbrev pub Speaks : Option SpokenFrame → List Spoken → List Spoken → Type 0
Speaks None old new = new ≡ old
Speaks (Some said) old new = (spoken : Spoken) × IsSpoken said spoken × (new ≡ old ++ spoken ∷ [])

-- Spoken frames are kept one by one, in order.
abbrev pub AreSpoken : List SpokenFrame → List Spoken → Type 0
AreSpoken = AllZip IsSpoken
