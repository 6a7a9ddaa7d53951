-- The lines of `hart dump` (implementation choice).
use Rattle.std.specs.Prelude.{ℕ, ◌+◌, ◌*◌, Bool, true, false, List, [], ◌∷◌, codes, decimal, length}
use Rattle.std.specs.List.{flat_map}
use Rattle.hart_values.specs.declared.master_id.MasterId.{MasterId}
use Rattle.hart_values.specs.declared.master_id.MasterId.TheVariants.{Primary, Secondary}
use Rattle.hart_frame.specs.declared.wire.kind.FrameKind.{FrameKind}
use Rattle.hart_frame.specs.declared.wire.kind.FrameKind.TheVariants.{Stx, Ack}
use Rattle.hart_frame.specs.declared.heard.found.Found.{Found}
use Rattle.hart_explain.specs.Header.{address_word}
use Rattle.hart_station.specs.Lines.{bytes_word, line_of}

-- The word of a kind of frame is `STX` for an STX and `ACK` for an ACK.
abbrev pub kind_word : FrameKind → List ℕ
kind_word Stx = codes "STX"
kind_word Ack = codes "ACK"

-- The word of a master is P for the primary and S for the secondary.
abbrev pub master_word : MasterId → List ℕ
master_word Primary = codes "P"
master_word Secondary = codes "S"

-- The word of a burst bit is 1 if the bit is set, and 0 if the bit is not set.
abbrev pub burst_word : Bool → List ℕ
burst_word false = codes "0"
burst_word true = codes "1"

-- The line of a frame has these nine words.
abbrev pub dump_line : Found → List ℕ
dump_line found = line_of (
    decimal found.start ∷ decimal found.stop
    ∷ kind_word found.frame.kind ∷ master_word found.frame.master ∷ burst_word found.frame.burst
    ∷ address_word found.frame.address ∷ bytes_word found.frame.expansion
    ∷ decimal found.frame.command ∷ bytes_word found.frame.payload ∷ []
    )

-- The greatest number of bytes that the line of a frame can have, if the places of the frame fit in 64 bits.
abbrev pub line_room : Found → ℕ
line_room found = 69 + 2 * (length found.frame.expansion + length found.frame.payload)

-- The text of frames is the line of each frame, in their order.
abbrev pub dump_text : List Found → List ℕ
dump_text frames = flat_map dump_line frames
