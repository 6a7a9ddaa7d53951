-- A frame stands where a body may start and a whole body stands. Every list of characters has a list of frames, and only one. An open place
-- can begin a frame.
use Rattle.hart_frame.proofs.Common.{append_assoc, ◌≡◌, ℕ, zero, suc, ◌+◌, ◌≤◌, ◌⊎◌, inl, inr, List, [], ◌∷◌, length, take, drop, arith}
use Rattle.hart_frame.proofs.Common.{◌++◌, length-append, refl, common_steps, take-append-drop, drop_at, Found, Character, faultless, none}
use Rattle.hart_frame.proofs.Common.{faultless_bytes, first, AreFrames, IsFirst, bytes_from, HasBodyAt, HasFrameAt, StandsIn, IsStart}
use Rattle.hart_frame.proofs.Common.{IsBody, BeginsWithBody, FrameParts, ◌<◌, sym, ap, ◌∙◌, All, length-map, get_or-map, map-append}
use Rattle.hart_frame.proofs.Common.{All-from_get_or, get_or-append-add}
use Rattle.hart_frame.specs.heard.Place.{HasFrameUpTo, IsOpen}
use Rattle.hart_frame.proofs.lemmas.wire.Body.{head_of}
use Rattle.hart_frame.proofs.lemmas.heard.Front.{heard_parts, regrouped, faultless_bytes-append}
use Rattle.hart_frame.proofs.lemmas.heard.Place.{preamble, StandsIn-from, StandsIn-within, HasNoFrame-end, start_test}
use Rattle.hart_frame.proofs.lemmas.wire.BodiesFound.{body_decided}
use Rattle.hart_frame.proofs.lemmas.wire.UnambiguousBodies.{BeginsWithBody-append, bodies_are_unambiguous-one_prefix}
use Rattle.hart_frame.proofs.lemmas.wire.Truncated.{CanBecomeBody-truncated}

-- If the bytes from a place on begin with a body, a body stands at that place.
pub body_at : (chars : List Character) (place : ℕ) (f : FrameParts) (len : ℕ) → BeginsWithBody (bytes_from chars place) f len
    → HasBodyAt chars place
body_at chars place f len begins =
    let bytes = bytes_from chars place in
    let tail : List Character = drop (length bytes) (drop place chars) in
    record {
      frame = f;
      body = take len bytes;
      rest = faultless (drop len bytes) ++ tail;
      is_body = begins.body;
      parts = grind (arith, heard_parts, take-append-drop len bytes, regrouped (take len bytes) (drop len bytes) tail);
    }

-- If a body stands at a place, the bytes from there on begin with it.
pub begins_at : (chars : List Character) (place : ℕ) (has : HasBodyAt chars place)
    → BeginsWithBody (bytes_from chars place) has.frame (length has.body)
begins_at chars place has = grind (arith, faultless_bytes-append, BeginsWithBody-append has.frame has.body (faultless_bytes has.rest))

-- A frame stands where its body stands after two preamble bytes.
pub frame_up_to : (chars prefix rest : List Character) (body : List ℕ) (f : FrameParts) (place stop : ℕ) → IsBody f body
    → chars ≡ prefix ++ faultless (255 ∷ 255 ∷ body) ++ rest → place ≡ length prefix + 2 → stop ≡ place + length body
    → HasFrameUpTo chars place stop
frame_up_to chars prefix rest body f place stop is split at to =
    let found : Found = record { start = place; stop = stop; frame = f } in
    let stands : StandsIn found chars 0 = grind (arith, common_steps) in grind (arith, common_steps)

-- Two preamble bytes stand right before a start.
pub record Starts (chars : List Character) (start : ℕ) : Type 0 where
  pub prefix : List Character
  pub at : start ≡ length prefix + 2
  pub split : chars ≡ prefix ++ (preamble ∷ preamble ∷ drop start chars)

pub starts : (chars : List Character) (start : ℕ) → IsStart start chars → Starts chars start
starts chars start is = grind (arith, common_steps, preamble, length-append, drop_at, append_assoc)

-- Where a body may start and a whole body stands, a frame stands.
pub body_frame : (chars : List Character) (start : ℕ) → IsStart start chars → HasBodyAt chars start → HasFrameAt chars start
body_frame chars start is has =
    let at = starts chars start is in
    let split : chars ≡ at.prefix ++ faultless (255 ∷ 255 ∷ has.body) ++ has.rest = grind (arith, common_steps, preamble, append_assoc) in
    let found = frame_up_to chars at.prefix has.rest has.body has.frame start (start + length has.body) has.is_body split at.at refl in
    (found.0, found.1, found.2)

-- Where a frame stands, the list consists of a front that ends in two FF, then the frame's body, and then the rest. So this body stands
-- where a body may start.
pub parts_of : (chars : List Character) (found : Found) (from : ℕ) (stands : StandsIn found chars from)
    → (chars ≡ (stands.prefix ++ (preamble ∷ preamble ∷ [])) ++ (faultless stands.body ++ stands.rest))
    × (drop found.start chars ≡ faultless stands.body ++ stands.rest)
parts_of chars found from stands =
    let split : chars ≡ (stands.prefix ++ (preamble ∷ preamble ∷ [])) ++ (faultless stands.body ++ stands.rest) =
    grind (arith, common_steps, append_assoc, preamble) in (split, grind (arith, common_steps, drop_at, length-append, preamble))

abbrev pub body_of : (chars : List Character) (found : Found) (from : ℕ) → StandsIn found chars from → HasBodyAt chars found.start
body_of chars found from stands = record {
  frame = found.frame;
  body = stands.body;
  rest = stands.rest;
  is_body = stands.is_body;
  parts = (parts_of chars found from stands).1;
}

pub start_of : (chars : List Character) (found : Found) (from : ℕ) → StandsIn found chars from → IsStart found.start chars
start_of chars found from stands =
    grind (arith, common_steps, head_of found.frame stands.body stands.is_body, parts_of chars found from stands, append_assoc)

-- At each place either a frame starts or no frame starts.
frame_decided : (chars : List Character) (start : ℕ) → HasFrameAt chars start ⊎ (HasFrameAt chars start → ⊥)
frame_decided chars start =
    let starts : IsStart start chars ⊎ (IsStart start chars → ⊥) = grind (arith, start_test chars start) in
    elim starts [
      | inr other ↦ inr (λ (found, stands, is). other (rw is at (start_of chars found 0 stands)))
      | inl here ↦ elim (body_decided (bytes_from chars start)) [
        | inl (f, len, begins) ↦ inl (body_frame chars start here (body_at chars start f len begins))
        | inr nothing ↦ inr (λ (found, stands, is).
            let has = rw is at (body_of chars found 0 stands) in nothing has.frame (length has.body) (begins_at chars start has))
      ]
    ]

-- If each frame that stands from `from` on also stands from `to` on, the frames from `to` on are those from `from` on.
pub AreFrames-earlier : (chars : List Character) (from to : ℕ) (frames : List Found) → from ≤ to
    → ((found : Found) → StandsIn found chars from → StandsIn found chars to) → AreFrames chars to frames → AreFrames chars from frames
AreFrames-earlier chars from to frames before skip (none n empty) = AreFrames.none from (λ found stands. empty found (skip found stands))
AreFrames-earlier chars from to frames before skip (first n found later is rest) =
    let within = StandsIn-within found chars to is.stands in
    AreFrames.first from found later (record {
      stands = StandsIn-from found chars to from is.stands (omega (arith, within.after, before));
      least = λ other stands. is.least other (skip other stands);
    }) rest

frames_found : (chars : List Character) (fuel from : ℕ) → length chars ≤ from + fuel → (frames : List Found) × AreFrames chars from frames
frames_found chars zero from enough = ([], AreFrames.none from (HasNoFrame-end chars from (omega (arith, enough))))
frames_found chars (suc fuel) from enough = elim (frame_decided chars (from + 2)) [
  | inl (found, low, start) ↦
      let stands = StandsIn-from found chars 0 from low (omega (arith, start)) in
      let later = frames_found chars fuel found.stop (grind (arith, StandsIn-within)) in
      (found ∷ later.0, AreFrames.first from found later.0 (grind (arith, StandsIn-within)) later.1)
  | inr nothing ↦
      let later = frames_found chars fuel (from + 1) (omega (arith, enough)) in (
        later.0,
        AreFrames-earlier chars from (from + 1) later.0 (omega arith) (λ found stands.
            let low = StandsIn-from found chars from 0 stands (omega (arith, stands.start)) in
            grind (arith, StandsIn-within, StandsIn-from)) later.1,
      )
]

pub AreFrames-found : (chars : List Character) (from : ℕ) → (frames : List Found) × AreFrames chars from frames
AreFrames-found chars from = frames_found chars (length chars) from (omega arith)

-- The frame at the head of a list of frames is the frame with the least start.
pub head_first : (chars : List Character) (from : ℕ) (g : Found) (later : List Found) → AreFrames chars from (g ∷ later)
    → IsFirst g chars from
head_first chars from g later (first n h others is rest) = is

-- At most one frame starts at a place.
StandsIn-one : (f g : Found) (chars : List Character) (m n : ℕ) → StandsIn f chars m → StandsIn g chars n
    → f.start ≡ g.start → f ≡ g
StandsIn-one f g chars m n p q starts =
    let one = begins_at chars f.start (body_of chars f m p) in
    let same = bodies_are_unambiguous-one_prefix f.frame g.frame (bytes_from chars f.start) (length p.body) (length q.body) one
    (rw starts (begins_at chars g.start (body_of chars g n q))) in grind arith

pub IsFirst-one : (f g : Found) (chars : List Character) (from : ℕ) → IsFirst f chars from → IsFirst g chars from → f ≡ g
IsFirst-one f g chars from p q =
    StandsIn-one f g chars from from p.stands q.stands (omega (arith, p.least g q.stands, q.least f p.stands))

pub AreFrames-one : (chars : List Character) (from : ℕ) (xs ys : List Found) → AreFrames chars from xs → AreFrames chars from ys
    → xs ≡ ys
AreFrames-one chars from xs ys (none m empty) (none n void) = refl
AreFrames-one chars from xs ys (none m empty) (first n g more is rest) = absurd (empty g is.stands)
AreFrames-one chars from xs ys (first m f later is rest) (none n empty) = absurd (empty f is.stands)
AreFrames-one chars from xs ys (first m f later is rest) (first n g more also others) =
    let same = IsFirst-one f g chars from is also in
    let all = AreFrames-one chars f.stop later more rest (rw same others) in cc

-- For each open place there are characters that, appended to the list, make a frame stand there.
pub open_begins : (place : ℕ) (chars : List Character) → All (λ character. character.byte < 256) chars → IsOpen place chars
    → (more : List Character) × (found : Found) × StandsIn found (chars ++ more) 0 × (found.start ≡ place)
open_begins place chars all opened =
    let fits = All-from_get_or (λ byte. byte < 256) opened.bytes 0 (λ k below.
    let there = all (length opened.prefix + suc (suc k)) preamble (grind (arith, length-append, length-map)) in
    grind (arith, get_or-append-add, get_or-map)) in
    let can = CanBecomeBody-truncated opened.bytes fits opened.truncated in
    let bytes = opened.bytes ++ can.rest in
    let body = take can.count bytes in
    let rest = faultless (drop can.count bytes) in
    let make = λ (byte : ℕ). let c : Character = record { byte = byte; faults = 0 } in c in
    let parts : faultless opened.bytes ++ faultless can.rest ≡ faultless body ++ rest =
    sym (map-append make opened.bytes can.rest) ∙ ap faultless (sym (take-append-drop can.count bytes))
    ∙ map-append make body (drop can.count bytes) in
    let (found, stands, start, stop) =
    frame_up_to (chars ++ faultless can.rest) opened.prefix rest body can.frame place (place + length body) can.begins.body
    (grind (arith, append_assoc, preamble)) opened.start refl in
    (faultless can.rest, found, stands, start)
