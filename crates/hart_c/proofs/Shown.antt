-- A message has its frame alone, and one explanation. Frames that are found can be written, and how many of them a delivery has.
use Rattle.std.proofs.Common.{◌≡◌, true, ℕ, List, [], ◌∷◌, Option, None, Some, ap, arith, length, refl, ◌≤◌, ◌<◌, ◌++◌, Bool, false, All}
use Rattle.std.proofs.Common.{drop, map, slice_index_or, take, inl, inr, length-drop}
use Rattle.std.proofs.lemmas.List.{append-nil, length-map, length-take-le}
use Rattle.hart_frame.specs.declared.heard.found.Found.{Found}
use Rattle.hart_frame.specs.declared.scan.view.FoundView.{FoundView}
use Rattle.hart_frame.specs.heard.{Character.Character, Character.faultless, Frames.IsLone}
use Rattle.hart_frame.specs.scan.Next.{AreNext, frames_of}
use Rattle.hart_frame.specs.wire.{FrameParts.FrameParts, Message.IsMessage, View.found_of, View.parts_of}
use Rattle.hart_frame.proofs.lemmas.Laws.{every_list_has_frames, frames_are_unambiguous-one_list, messages_have_their_frame_alone-message}
use Rattle.hart_frame.proofs.lemmas.Laws.{next_frames_are_all-all}
use Rattle.std.proofs.lemmas.List.Elements.{All-cons, All-head, All-nil}
use Rattle.hart_values.specs.address.AddressBytes.{IsAddressBytes}
use Rattle.hart_values.specs.declared.master_id.MasterId.{MasterId}
use Rattle.hart_frame.specs.declared.scan.first.LoneFrame.TheVariants.{Several}
use Rattle.hart_frame.specs.heard.Frames.{AreFrames, first}
use Rattle.hart_frame.specs.wire.Body.{IsBody}
use Rattle.hart_c.specs.Find.{Finds, HaveFaultBits, SearchOutcome, char_of}
use Rattle.hart_c.specs.Messages.{IsFrame, IsInRange}
use Rattle.hart_c.specs.Numbers.{IsTidy, address_of, found_in, frame_in}
use Rattle.hart_c.specs.declared.{find.HartChar.HartChar, find.HartSearch.HartSearch, frame.HartFrame.HartFrame}

-- if characters have one frame, the first frame that is found in them is this frame
pub found_alone : (chars : List Character) (view : Option FoundView) (used : ℕ) (found : Found) → AreFrames chars 0 (found ∷ [])
    → AreNext chars true 0 (frames_of view) used → (view ≡ None → used ≡ length chars)
    → (it : FoundView) × (view ≡ Some it) × (found_of it ≡ found)
found_alone chars None used found alone next all =
    let none : AreFrames chars 0 [] = next_frames_are_all-all chars true [] (rw (all refl) at next) in
    absurd (grind (arith, frames_are_unambiguous-one_list chars 0 [] (found ∷ []) none alone))
found_alone chars (Some it) used found alone next all =
    let rest = every_list_has_frames chars used in
    let are : AreFrames chars 0 (found_of it ∷ rest.0) =
    rw append-nil at (next.leads [] rest.0 (λ closed. refl) (rw append-nil rest.1)) in
    (it, refl, grind (arith, frames_are_unambiguous-one_list chars 0 (found_of it ∷ rest.0) (found ∷ []) are alone))

-- the first frame that is found in a message is the frame of the message
pub found_in_message : (frame : FrameParts) (bytes : List ℕ) (view : Option FoundView) (used : ℕ) → IsMessage frame 5 bytes
    → AreNext (faultless bytes) true 0 (frames_of view) used → (view ≡ None → used ≡ length bytes)
    → (it : FoundView) × (view ≡ Some it) × (parts_of it.frame ≡ frame)
found_in_message frame bytes view used is next all =
    let alone = messages_have_their_frame_alone-message frame 5 bytes (omega arith) is in
    let found = found_alone (faultless bytes) view used _ alone next (λ none. rw length-map (all none)) in
    (found.0, found.1, ap (λ (found : Found). found.frame) found.2)

-- if a body has the address that some numbers describe, these numbers are in range
in_range : (is_unique : Bool) (frame : HartFrame) (master : MasterId) (burst : Bool) (bytes : List ℕ)
    → IsAddressBytes master burst (address_of is_unique frame) bytes → IsInRange is_unique frame
in_range true frame master burst bytes is = grind arith
in_range false frame master burst bytes is = is.0

-- if numbers show the frame of a body, these numbers are a frame that can be written
pub shown : (frame : HartFrame) (body : List ℕ) → IsBody (frame_in frame) body → IsTidy frame → IsFrame frame
shown frame body is tidy =
    (in_range frame.is_unique frame _ _ _ is.checked_part.address_bytes, (tidy.expansion, (is.checked_part.payload_fits, tt)))

-- a frame that is found has a body
abbrev pub HasBody : Found → Type 0
HasBody found = (body : List ℕ) × IsBody found.frame body

pub all_have : (chars : List Character) (from : ℕ) (frames : List Found) → AreFrames chars from frames → All HasBody frames
all_have chars from [] are = All-nil HasBody
all_have chars from (found ∷ later) (first start head others is rest) =
    All-cons HasBody found later (is.stands.body, is.stands.is_body) (all_have chars found.stop later rest)

-- if a search with room for two frames shows fewer, there was room for one more
less_than_two : (count : ℕ) (before after : List HartFrame) → length before ≡ 2 → count < 2 → drop count after ≡ drop count before
    → count < length after
less_than_two count before after two less same = grind (arith, length-drop count after, length-drop count before)

-- if a search shows fewer frames than it has room for, it shows all frames
all_found : (chars : List Character) (before after : List HartFrame) (told : HartSearch) → Finds chars true before after told
    → told.count < length after → AreFrames chars 0 (map found_in (take told.count after))
all_found chars before after told finds less = next_frames_are_all-all chars true _ (rw (finds.all less refl) at finds.next)

-- if a search with room for two frames shows none, there is no frame
pub found_none : (chars : List Character) (before after : List HartFrame) (told : HartSearch) → length before ≡ 2
    → Finds chars true before after told → told.count ≡ 0 → AreFrames chars 0 []
found_none chars before after told two finds none =
    let less = less_than_two told.count before after two (grind (arith, none)) finds.untouched in
    rw none at (all_found chars before after told finds less)

-- if a search with room for two frames shows one, it is the only frame
pub found_one : (chars : List Character) (before after : List HartFrame) (told : HartSearch) (other : HartFrame) → length before ≡ 2
    → Finds chars true before after told → told.count ≡ 1
    → AreFrames chars 0 (found_in (slice_index_or after 0 other) ∷ []) × IsTidy (slice_index_or after 0 other)
    × IsFrame (slice_index_or after 0 other)
found_one chars before [] told other two finds one = absurd (grind (arith, finds.within, one))
found_one chars before (frame ∷ more) told other two finds one =
    let less = less_than_two told.count before (frame ∷ more) two (grind (arith, one)) finds.untouched in
    let alone : AreFrames chars 0 (found_in frame ∷ []) = rw one at (all_found chars before (frame ∷ more) told finds less) in
    let tidy : IsTidy frame = All-head IsTidy frame [] (rw one at finds.tidy) in
    let body = All-head HasBody (found_in frame) [] (all_have chars 0 (found_in frame ∷ []) alone) in
    (alone, tidy, shown frame body.0 body.1 tidy)

-- a list of at least two frames, followed by others, has several frames
several : (chars : List Character) (frames : List HartFrame) (others : List Found) → 2 ≤ length frames
    → AreFrames chars 0 (map found_in frames ++ others) → IsLone chars Several
several chars [] others two are = absurd (grind arith)
several chars (one ∷ []) others two are = absurd (grind arith)
several chars (one ∷ other ∷ more) others two are = (found_in one, found_in other, map found_in more ++ others, are)

-- if a search with room for two frames shows two, there are several
pub found_several : (chars : List Character) (before after : List HartFrame) (told : HartSearch) → Finds chars true before after told
    → 2 ≤ told.count → IsLone chars Several
found_several chars before after told finds two =
    let rest = every_list_has_frames chars told.used in
    let all : AreFrames chars 0 (map found_in (take told.count after) ++ rest.0) =
    rw append-nil at (finds.next.leads [] rest.0 (λ closed. refl) (rw append-nil rest.1)) in
    several chars (take told.count after) rest.0 (grind (arith, length-take-le told.count after finds.within)) all

-- a search of characters whose `faults` are fault bits only returns what `Finds` says
pub finds_of : (heard : List HartChar) (before after : List HartFrame) (told : HartSearch) → HaveFaultBits heard
    → SearchOutcome heard true before after told → Finds (map char_of heard) true before after told
finds_of heard before after told bits (inl is) = is.1
finds_of heard before after told bits (inr why) = absurd (why.0 bits)
