-- The frames of the rest of a list, moved by the place where the rest begins, are the frames of the list from that place on.
use Rattle.hart_frame.proofs.Common.{add-zero, ◌≡◌, ℕ, ◌+◌, ◌-◌, ◌<◌, ◌≤◌, ◌⊎◌, inl, inr, List, [], ◌∷◌, ◌++◌, length, map, take, drop}
use Rattle.hart_frame.proofs.Common.{refl, arith, append_assoc, length-append, length-drop, take-append-drop, common_steps, drop-append-le}
use Rattle.hart_frame.proofs.Common.{drop_at, length-take-le, Found, Character, AreFrames, IsFirst, moved, none, first, StandsIn}
use Rattle.hart_frame.proofs.lemmas.heard.FramesFound.{AreFrames-found, AreFrames-one}
use Rattle.hart_frame.proofs.lemmas.heard.Place.{HasNoFrame-end}

-- If a frame stands in the rest from some place on, the moved frame stands in the whole list.
stands_moved : (before rest : List Character) (found : Found) (n from : ℕ) → length before ≡ n → StandsIn found rest from
    → StandsIn (moved n found) (before ++ rest) (n + from)
stands_moved before rest found n from long stands = grind (arith, append_assoc, length-append before stands.prefix)

-- If a frame stands after some characters, the frame moved back stands in the list without them.
pub stands_back : (before rest : List Character) (found : Found) (n from : ℕ) → length before ≡ n
    → StandsIn found (before ++ rest) (n + from)
    → StandsIn (record { start = found.start - n; stop = found.stop - n; frame = found.frame }) rest from
stands_back before rest found n from long stands =
    grind (arith, length-drop n stands.prefix, drop_at before rest n long, append_assoc, drop-append-le)

pub first_moved : (before rest : List Character) (found : Found) (n from : ℕ) → length before ≡ n → IsFirst found rest from
    → IsFirst (moved n found) (before ++ rest) (n + from)
first_moved before rest found n from long is = record {
  stands = stands_moved before rest found n from long is.stands;
  least = λ other there. omega (arith, there.after, there.start, is.least _ (stands_back before rest other n from long there));
}

-- The frames of the rest, moved by the number of characters before it, are frames of the whole list.
frames_moved : (before rest : List Character) (n : ℕ) (long : length before ≡ n) (from : ℕ) (frames : List Found)
    → AreFrames rest from frames → AreFrames (before ++ rest) (n + from) (map (moved n) frames)
frames_moved before rest n long from frames (none place empty) =
    AreFrames.none (n + from) (λ found there. empty _ (stands_back before rest found n from long there))
frames_moved before rest n long from frames (first place found later is more) =
    AreFrames.first (n + from) (moved n found) (map (moved n) later) (first_moved before rest found n from long is)
    (frames_moved before rest n long found.stop later more)

-- Frames that are equal after a move were equal before it.
all_moved_one : (n : ℕ) (xs ys : List Found) → map (moved n) xs ≡ map (moved n) ys → xs ≡ ys
all_moved_one n [] [] same = refl
all_moved_one n (x ∷ xs) (y ∷ ys) same = grind (arith, common_steps, all_moved_one n xs ys cc)
all_moved_one n xs ys same = absurd cc

-- From the end of a list on there are no frames.
pub frames_none : (chars : List Character) (place : ℕ) (frames : List Found) → length chars ≤ place → AreFrames chars place frames
    → frames ≡ []
frames_none chars place frames end given_4 = grind (arith, common_steps, HasNoFrame-end)

-- The frames of the rest of a list, moved by the place where the rest begins, are frames of the list from there on.
pub rest_frames : (place : ℕ) (chars : List Character) (frames : List Found) → AreFrames (drop place chars) 0 frames
    → AreFrames chars place (map (moved place) frames)
rest_frames place chars frames are =
    let cases : (place ≤ length chars) ⊎ (length chars < place) = grind arith in
    elim cases [
      | inl within ↦ rw (take-append-drop place chars, add-zero place) at
          (frames_moved (take place chars) (drop place chars) place (length-take-le place chars within) 0 frames are)
      | inr past ↦ rw (frames_none (drop place chars) 0 frames (omega (arith, past, length-drop place chars)) are)
          (AreFrames.none place (HasNoFrame-end chars place (omega (arith, past))))
    ]

-- The list of frames from a place on is the list of frames of the rest from that place on, moved.
pub rest_all : (place : ℕ) (chars : List Character) (frames : List Found) → AreFrames chars place frames
    → (own : List Found) × AreFrames (drop place chars) 0 own × (frames ≡ map (moved place) own)
rest_all place chars frames are = grind (arith, common_steps, AreFrames-found (drop place chars) 0, AreFrames-one, rest_frames)

pub rest_only : (place : ℕ) (chars : List Character) (frames : List Found) → AreFrames chars place (map (moved place) frames)
    → AreFrames (drop place chars) 0 frames
rest_only place chars frames are = grind (arith, rest_all place chars (map (moved place) frames), all_moved_one)

-- Moving frames twice moves them by the sum.
pub moved_twice : (n m : ℕ) (frames : List Found) → map (moved n) (map (moved m) frames) ≡ map (moved (n + m)) frames
moved_twice n m [] = refl
moved_twice n m (found ∷ frames) = grind (arith, moved_twice n m frames)

-- If there are frames after a move, there were frames before it.
pub some_moved : (n : ℕ) (found : Found) (more frames : List Found) → found ∷ more ≡ map (moved n) frames
    → (one : Found) × (others : List Found) × (frames ≡ one ∷ others)
some_moved n found more [] same = absurd cc
some_moved n found more (one ∷ others) same = (one, others, refl)

-- If there are no frames after a move, there were none before it.
pub none_moved : (n : ℕ) (frames : List Found) → [] ≡ map (moved n) frames → frames ≡ []
none_moved n [] same = refl
none_moved n (one ∷ others) same = absurd cc
