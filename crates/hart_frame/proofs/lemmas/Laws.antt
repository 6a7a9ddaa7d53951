-- The laws of bodies, frames, scanners, starts, damage and sightings, for the proofs of this crate and of the crates above it.
use Rattle.hart_frame.proofs.Common.{arith, ◌≡◌, ◌≢◌, ◌↔◌, ◌+◌, ℕ, Bool, false, IsTrue, List, [], ◌∷◌, ◌++◌, drop, length, map, append-nil}
use Rattle.hart_frame.proofs.Common.{Found, Character}
use Rattle.hart_frame.proofs.Common.{AreFrames, moved, AreNext, Scan}
use Rattle.hart_frame.specs.scan.Streamed.{IsHistory}
use Rattle.hart_frame.proofs.lemmas.heard.Place.{HasNoFrame-end}
use Rattle.hart_frame.proofs.lemmas.heard.Rest.{rest_frames, rest_only}
use Rattle.hart_frame.proofs.lemmas.scan.Next.{next_at_fault, next_frames}
use Rattle.hart_frame.proofs.lemmas.scan.Stream.{history_next, next_rest}
pub use Rattle.hart_frame.proofs.lemmas.heard.FramesFound.{AreFrames-one as frames_are_unambiguous-one_list}
pub use Rattle.hart_frame.proofs.lemmas.scan.Next.{next_grown as next_frames_are_all-grown, next_of_rest as next_frames_are_all-moved}
pub use Rattle.hart_frame.proofs.lemmas.scan.Next.{next_some as next_frames_are_all-some, next_then as next_frames_are_all-onward}
pub use Rattle.hart_frame.proofs.lemmas.scan.Next.{next_ended as next_frames_are_all-ended, next_nothing as next_frames_are_all-nothing}
pub use Rattle.hart_frame.proofs.lemmas.scan.Next.{next_whole as next_frames_are_all-whole}
pub use Rattle.hart_frame.proofs.lemmas.scan.Scan.{moves_frames as scanners_move_past_the_next_frames-frames}
pub use Rattle.hart_frame.proofs.lemmas.scan.Scan.{moves_hearing as scanners_move_past_the_next_frames-hearing}
pub use Rattle.hart_frame.proofs.lemmas.scan.Scan.{moves_then as scanners_move_past_the_next_frames-onward}
pub use Rattle.hart_frame.proofs.lemmas.scan.Stream.{history_next as frames_are_streamed-next, next_rest as next_frames_are_all-rest}
pub use Rattle.hart_frame.proofs.lemmas.scan.Undecided.{gives_onward as held_frames_are_given-onward}
pub use Rattle.hart_frame.proofs.lemmas.heard.Damage.{AreFrames-check as damaged_messages_have_no_other_frame-check}
pub use Rattle.hart_frame.proofs.lemmas.heard.Damage.{AreFrames-marked as damaged_messages_have_no_other_frame-marked}
pub use Rattle.hart_frame.proofs.lemmas.heard.FramesFound.{AreFrames-found as every_list_has_frames}
pub use Rattle.hart_frame.proofs.lemmas.heard.Damage.{AreFrames-message as messages_have_their_frame_alone-message}
pub use Rattle.hart_frame.proofs.lemmas.heard.Damage.{AreFrames-nothing as messages_have_their_frame_alone-nothing}
pub use Rattle.hart_frame.proofs.lemmas.heard.Place.{IsFirstStart-one as first_starts_are_decided-one, start_test}
pub use Rattle.hart_frame.proofs.lemmas.heard.Place.{first_start_decided as first_starts_are_decided-decided}
pub use Rattle.hart_frame.proofs.lemmas.scan.Stream.{history_all as frames_are_streamed-all, history_length as frames_are_streamed-pushed}
pub use Rattle.hart_frame.proofs.lemmas.scan.Stream.{history_held as held_characters_have_the_later_frames-held}
pub use Rattle.hart_frame.proofs.lemmas.scan.SightingLaws.{all as next_sightings_are_all-all, grown as next_sightings_are_all-grown}
pub use Rattle.hart_frame.proofs.lemmas.scan.SightingLaws.{onward as next_sightings_are_all-onward, rest_all as next_sightings_are_all-rest}
pub use Rattle.hart_frame.proofs.lemmas.scan.SightingLaws.{one as sightings_are_unambiguous-one, some as sightings_are_unambiguous-some}
pub use Rattle.hart_frame.proofs.lemmas.scan.SightingLaws.{rest as the_rest_has_the_later_sightings}
pub use Rattle.hart_frame.proofs.lemmas.wire.Header.{headers_are_those_of_frames-body, headers_are_those_of_frames-exactly}
pub use Rattle.hart_frame.proofs.lemmas.wire.Header.{headers_are_those_of_frames-stays}
pub use Rattle.hart_frame.proofs.lemmas.wire.UnambiguousBodies.{bodies_are_unambiguous-no_proper_prefix, bodies_are_unambiguous-one_body}
pub use Rattle.hart_frame.proofs.lemmas.wire.UnambiguousBodies.{bodies_are_unambiguous-one_frame, bodies_are_unambiguous-one_prefix}

pub the_rest_has_the_later_frames : (place : ℕ) (chars : List Character) (frames : List Found)
    → AreFrames (drop place chars) 0 frames ↔ AreFrames chars place (map (moved place) frames)
the_rest_has_the_later_frames place chars frames = (rest_frames place chars frames, rest_only place chars frames)

pub held_characters_have_the_later_frames-later : (past more : List Character) (scan : Scan) (given later : List Found)
    → IsHistory past scan given → (IsTrue scan.finished → more ≡ []) → AreFrames (drop scan.first past ++ more) 0 later
    → AreFrames (past ++ more) 0 (given ++ map (moved scan.first) later)
held_characters_have_the_later_frames-later past more scan given later history =
    next_rest past more scan.finished given later scan.first (history_next past scan given history)

pub next_frames_are_all-all : (chars : List Character) (ended : Bool) (given : List Found) → AreNext chars ended 0 given (length chars)
    → AreFrames chars 0 given
next_frames_are_all-all chars ended given next =
    rw append-nil at
    (next_frames chars ended 0 (length chars) given [] next
    (AreFrames.none (length chars) (HasNoFrame-end chars (length chars) (omega arith))))

pub next_frames_are_all-fault : (chars : List Character) (character : Character) (given : List Found) → character.faults ≢ 0
    → AreFrames chars 0 given → AreNext (chars ++ character ∷ []) false 0 given (length chars + 1)
next_frames_are_all-fault chars character given bad = next_at_fault chars character 0 given bad (omega arith)

-- An attribute in code cannot name lemmas with a dash in their names, so it names this rule set.
pub ruleset held_characters_have_the_later_frames =
    (frames_are_streamed-pushed, held_characters_have_the_later_frames-held, held_characters_have_the_later_frames-later)
