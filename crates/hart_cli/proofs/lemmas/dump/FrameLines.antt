-- The characters that `hart dump` holds, and the lines that it keeps of their frames.
use Rattle.std.proofs.Common.{◌≡◌, ◌≢◌, ◌≤◌, ◌+◌, ◌*◌, ℕ, Bool, false, true, IsTrue, List, [], ◌∷◌, ◌++◌, length, map, take, drop, ap, sym}
use Rattle.std.proofs.Common.{◌∙◌, append_assoc, append-nil, arith, length-append, length-drop, refl}
use Rattle.std.proofs.lemmas.Grind.{common_steps, flat_map-append}
use Rattle.std.proofs.lemmas.List.{drop-append-le, drop-drop, drop-map, drop_all, length-map, length-take-le, map-append, take-append-drop}
use Rattle.hart_frame.specs.declared.heard.found.Found.{Found}
use Rattle.hart_frame.specs.heard.Character.{Character, faultless}
use Rattle.hart_frame.specs.heard.Frames.{AreFrames, HasNoFrame, IsUndecided, moved}
use Rattle.hart_frame.specs.scan.Next.{AreNext}
use Rattle.hart_frame.proofs.lemmas.Laws.{every_list_has_frames, next_frames_are_all-all, next_frames_are_all-fault}
use Rattle.hart_frame.proofs.lemmas.Laws.{next_frames_are_all-grown, next_frames_are_all-moved, next_frames_are_all-nothing}
use Rattle.hart_frame.proofs.lemmas.Laws.{next_frames_are_all-onward, next_frames_are_all-rest}
use Rattle.hart_text.specs.Items.{ReadsUpTo}
use Rattle.hart_text.proofs.lemmas.Items.{ReadsUpTo-on}
use Rattle.hart_cli.specs.declared.calls.dump.frame_lines.FrameLines.{FrameLines}
use Rattle.hart_cli.specs.dump.Dump.{AreDecided, AreFrameLines}
use Rattle.hart_cli.specs.dump.FrameLines.{AddsDecided, AddsRest, HasLines, Hears, HearsText, IsWaiting, lines_from}
use Rattle.hart_cli.specs.dump.Text.{dump_line, line_room}

-- a list of faultless characters is as long as the list of their bytes
pub long_is : (bytes : List ℕ) → length (faultless bytes) ≡ length bytes
long_is bytes = length-map bytes _

-- LINES
-- moving a frame by two numbers moves it by their sum
moved_twice : (a b : ℕ) (found : List Found) → map (moved a) (map (moved b) found) ≡ map (moved (a + b)) found
moved_twice a b [] = refl
moved_twice a b (f ∷ found) = grind (arith, common_steps, moved_twice a b found)

-- the lines of some frames, followed by those of later frames, are the lines of all of them
lines_on : (first used : ℕ) (given later : List Found)
    → lines_from first given ++ lines_from (first + used) later ≡ lines_from first (given ++ map (moved used) later)
lines_on first used given later = rw (map-append, flat_map-append, moved_twice first used later) refl

-- the lines with one more frame end with the line of that frame
one_more : (first : ℕ) (given : List Found) (found : Found)
    → lines_from first (given ++ found ∷ []) ≡ lines_from first given ++ dump_line (moved first found)
one_more first given found = grind (arith, common_steps, map-append)

-- FRAMES IN HELD BYTES
-- the first frame of a list takes up at least 6 characters besides its expansion and payload
first_long : (chars : List Character) (from : ℕ) (found : Found) (later : List Found) → AreFrames chars from (found ∷ later)
    → from + 6 + length found.frame.expansion + length found.frame.payload ≤ found.stop
first_long chars from found later are = grind (arith, common_steps)

-- the next frame takes up at least 6 characters besides its expansion and payload
pub next_long : (chars : List Character) (ended : Bool) (from to : ℕ) (found : Found) → AreNext chars ended from (found ∷ []) to
    → from + 6 + length found.frame.expansion + length found.frame.payload ≤ to
next_long chars ended from to found next =
    let later = every_list_has_frames (chars ++ []) to in
    let long = first_long (chars ++ []) from found later.0 (next.leads [] later.0 (λ over. refl) later.1) in
    omega (arith, long, next.stops 0 found (omega arith))

-- the lines added so far for the frames in held bytes
pub record AddedSoFar (first : ℕ) (held : List ℕ) (ended : Bool) (used : ℕ) (before after : List ℕ) : Type 0 where
  pub given : List Found
  pub next : AreNext (faultless held) ended 0 given used
  pub adds : after ≡ before ++ lines_from first given
  pub room : length after ≤ length before + 12 * used
  pub within : used ≤ length held

pub added_none : (first : ℕ) (held : List ℕ) (ended : Bool) (before : List ℕ) → AddedSoFar first held ended 0 before before
added_none first held ended before = record {
  given = [];
  next = next_frames_are_all-nothing (faultless held) ended 0 (omega arith);
  adds = sym (append-nil before);
  room = omega arith;
  within = omega arith;
}

-- the line of one more frame was added
pub added_next : (first : ℕ) (held : List ℕ) (ended : Bool) (used to : ℕ) (a b c : List ℕ) (found : Found)
    → AddedSoFar first held ended used a b → AreNext (faultless held) ended used (found ∷ []) to → to ≤ length held
    → c ≡ b ++ dump_line (moved first found) → length c ≤ length b + line_room found → AddedSoFar first held ended to a c
added_next first held ended used to a b c found h next within added few = record {
  given = h.given ++ found ∷ [];
  next = next_frames_are_all-onward (faultless held) ended 0 used to h.given (found ∷ []) h.next next;
  adds = rw (added, h.adds, one_more first h.given found) (append_assoc a (lines_from first h.given) (dump_line (moved first found)));
  room = omega (arith, h.room, few, next_long (faultless held) ended used to found next);
  within = within;
}

-- if no decided frame is left, the lines of all decided frames were added
pub added_all : (first : ℕ) (held : List ℕ) (ended : Bool) (used to : ℕ) (a b : List ℕ) → AddedSoFar first held ended used a b
    → AreNext (faultless held) ended used [] to → to ≤ length held → length held ≤ to + 268 → (IsTrue ended → to ≡ length held)
    → (ended ≡ false → IsUndecided (faultless (drop to held))) → AddsDecided first held ended to a b
added_all first held ended used to a b h next within few all undecided = record {
  given = h.given;
  next = rw append-nil at (next_frames_are_all-onward (faultless held) ended 0 used to h.given [] h.next next);
  adds = h.adds;
  room = omega (arith, h.room, next.onward);
  within = within;
  few = few;
  all = all;
  undecided = undecided;
}

-- if nothing more comes, the lines of all frames were added
pub adds_rest : (first : ℕ) (held : List ℕ) (used : ℕ) (before after : List ℕ) → AddsDecided first held true used before after
    → AddsRest first held before after
adds_rest first held used before after adds =
    let all : used ≡ length (faultless held) = adds.all refl ∙ sym (long_is held) in
    record {
      given = adds.given;
      are = next_frames_are_all-all (faultless held) true adds.given (rw all at adds.next);
      adds = adds.adds;
    }

-- WHAT IS HEARD
-- before anything is heard, nothing is decided
pub waits_nothing : IsWaiting []
waits_nothing =
    let empty : HasNoFrame [] 0 = λ found stands. grind (arith, ap (λ (cs : List Character). length cs) stands.split, length-append) in
    grind arith

-- hearing no characters changes nothing
pub hears_nothing : (f : FrameLines) → Hears f f []
hears_nothing f = record {
  given = [];
  used = 0;
  next = next_frames_are_all-nothing (faultless f.held ++ []) false 0 (omega arith);
  first = omega arith;
  held = sym (append-nil (faultless f.held));
  adds = sym (append-nil f.lines);
  room = omega arith;
}

-- after bytes were searched and dropped as `used` says, they are heard
pub heard_bytes : (old new : FrameLines) (bytes : List ℕ) (used : ℕ)
    → AddsDecided old.first (old.held ++ bytes) false used old.lines new.lines → new.first ≡ old.first + used
    → new.held ≡ drop used (old.held ++ bytes) → Hears old new (faultless bytes) × IsWaiting new.held
heard_bytes old new bytes used adds first held =
    let same : faultless (old.held ++ bytes) ≡ faultless old.held ++ faultless bytes = map-append _ old.held bytes in
    let all = length-append old.held bytes in
    let left : length new.held + used ≡ length old.held + length bytes =
    omega (arith, ap (λ (xs : List ℕ). length xs) held, length-drop used (old.held ++ bytes), all, adds.within) in (
      record {
        given = adds.given;
        used = used;
        next = rw same at adds.next;
        first = first;
        held = rw (held, ← same) (sym (drop-map _ used (old.held ++ bytes)));
        adds = adds.adds;
        room = omega (arith, adds.room, left, long_is bytes);
      },
      record {
        undecided = rw held (adds.undecided refl);
        few = omega (arith, adds.few, left, all);
      },
    )

-- bytes that are searched in place, while none are held, are heard
pub heard_in_place : (old new : FrameLines) (bytes : List ℕ) (used : ℕ) → old.held ≡ []
    → AddsDecided old.first bytes false used old.lines new.lines → new.first ≡ old.first + used
    → new.held ≡ old.held ++ drop used bytes → Hears old new (faultless bytes) × IsWaiting new.held
heard_in_place old new bytes used none adds first held =
    let all : old.held ++ bytes ≡ bytes = rw none refl in
    heard_bytes old new bytes used (rw all adds) first (rw all (rw none at held))

-- a character with faults, after which nothing is held, is heard
pub heard_fault : (old new : FrameLines) (c : Character) (used : ℕ) → c.faults ≢ 0
    → AddsDecided old.first old.held true used old.lines new.lines → new.first ≡ old.first + (used + 1) → new.held ≡ []
    → Hears old new (c ∷ [])
heard_fault old new c used bad adds first none =
    let long = long_is old.held in
    let all : used ≡ length (faultless old.held) = adds.all refl ∙ sym long in
    let end = length-append (faultless old.held) (c ∷ []) in
    record {
      given = adds.given;
      used = used + 1;
      next = rw (← all) at (next_frames_are_all-fault (faultless old.held) c adds.given bad
          (next_frames_are_all-all (faultless old.held) true adds.given (rw all at adds.next)));
      first = first;
      held = rw none (sym (drop_all (used + 1) (faultless old.held ++ c ∷ []) (omega (arith, all, end))));
      adds = adds.adds;
      room = rw none (omega (arith, adds.room, adds.within));
    }

-- the characters that were dropped and those that are held add up to all that were heard
pub hears_long : (a b : FrameLines) (xs : List Character) → Hears a b xs
    → b.first + length b.held ≡ a.first + length a.held + length xs
hears_long a b xs h =
    let held : length (faultless b.held) ≡ length (drop h.used (faultless a.held ++ xs)) = ap (λ (cs : List Character). length cs) h.held in
    let all = length-append (faultless a.held) xs in
    omega (arith, h.next.within, h.first, held, long_is a.held, long_is b.held, length-drop h.used (faultless a.held ++ xs), all)

-- the next frames of a list, followed by the next frames of its rest, are the next frames of the list
next_later : (chars : List Character) (first used : ℕ) (given later : List Found) → AreNext chars false 0 given first
    → AreNext (drop first chars) false 0 later used → AreNext chars false 0 (given ++ map (moved first) later) (first + used)
next_later chars first used given later next on =
    next_frames_are_all-onward chars false 0 first (first + used) given (map (moved first) later) next
    (next_frames_are_all-moved first chars false later used next.within on)

-- dropping characters before more are heard gives the same as dropping them afterwards
held_on : (chars more : List Character) (held : List ℕ) (place : ℕ) → faultless held ≡ drop place chars → place ≤ length chars
    → faultless held ++ more ≡ drop place (chars ++ more)
held_on chars more held place is within =
    ap (λ (cs : List Character). cs ++ more) is ∙ sym (drop-append-le place chars more within)

-- if some characters were heard and then others, all of them were heard
pub hears_then : (a b c : FrameLines) (xs ys : List Character) → Hears a b xs → Hears b c ys → Hears a c (xs ++ ys)
hears_then a b c xs ys h k =
    let chars = faultless a.held ++ xs in
    let now = held_on chars ys b.held h.used h.held h.next.within in
    let text = k.adds ∙ (ap (λ (text : List ℕ). text ++ lines_from b.first k.given) h.adds
    ∙ append_assoc a.lines (lines_from a.first h.given) (lines_from b.first k.given)) in
    record {
      given = h.given ++ map (moved h.used) k.given;
      used = h.used + k.used;
      next = rw (← append_assoc)
          (next_later (chars ++ ys) h.used k.used h.given k.given (next_frames_are_all-grown chars ys false 0 h.used h.given h.next)
          (rw now at k.next));
      first = omega (arith, h.first, k.first);
      held = rw (← append_assoc) (k.held ∙ (ap (drop k.used) now ∙ drop-drop k.used h.used (chars ++ ys)));
      adds = rw (← lines_on a.first h.used h.given k.given, ← h.first) text;
      room = omega (arith, h.room, k.room, length-append xs ys);
    }

-- if a text was heard up to a rest, and then the rest, the whole text was heard
pub text_on : {text rest last : List ℕ} (old now new : FrameLines) (more : List Character) → HearsText old now text rest
    → ReadsUpTo rest more last → Hears now new more → HearsText old new text last
text_on old now new more heard reads hears = record {
  chars = heard.chars ++ more;
  reads = grind (arith, ReadsUpTo-on);
  hears = hears_then old now new heard.chars more heard.hears hears;
}

-- ALL THAT WAS HEARD
pub has_nothing : HasLines [] 0 [] []
has_nothing = record { given = []; next = next_frames_are_all-nothing [] false 0 (omega arith); left = refl; lines = refl }

-- the characters that have lines and those that are held add up to all that were heard
pub has_long : (chars : List Character) (first : ℕ) (held text : List ℕ) → HasLines chars first held text
    → first + length held ≡ length chars
has_long chars first held text has =
    let same : length (faultless held) ≡ length (drop first chars) = ap (λ (cs : List Character). length cs) has.left in
    omega (arith, same, long_is held, length-drop first chars, has.next.within)

-- if more characters are heard, the lines are those of the longer list
pub has_more : (chars more : List Character) (old new : FrameLines) (text : List ℕ) → HasLines chars old.first old.held text
    → old.lines ≡ [] → Hears old new more → HasLines (chars ++ more) new.first new.held (text ++ new.lines)
has_more chars more old new text has quiet hears =
    let now = held_on chars more old.held old.first has.left has.next.within in
    let added : new.lines ≡ lines_from old.first hears.given = rw quiet at hears.adds in
    record {
      given = has.given ++ map (moved old.first) hears.given;
      next = rw hears.first
          (next_later (chars ++ more) old.first hears.used has.given hears.given
          (next_frames_are_all-grown chars more false 0 old.first has.given has.next) (rw now at hears.next));
      left = rw hears.first (hears.held ∙ (ap (drop hears.used) now ∙ drop-drop hears.used old.first (chars ++ more)));
      lines = rw (has.lines, added, flat_map-append) refl;
    }

-- if nothing is decided in the held characters, exactly the decided frames have lines
pub are_decided : (chars : List Character) (first : ℕ) (held text : List ℕ) → (has : HasLines chars first held text)
    → IsUndecided (faultless held) → AreDecided chars has.given
are_decided chars first held text has undecided =
    let long : length (take first chars) ≡ first = length-take-le first chars has.next.within in
    record {
      passed = take first chars;
      rest = faultless held;
      split = rw has.left (sym (take-append-drop first chars));
      first = λ more later are. has.next.leads more later (λ over. absurd cc) (rw long at are);
      undecided = undecided;
    }

-- if the lines of the frames in the held characters are added, all frames have lines
pub all_lines : (chars : List Character) (first : ℕ) (held text rest : List ℕ) → HasLines chars first held text
    → AddsRest first held [] rest → AreFrameLines chars (text ++ rest)
all_lines chars first held text rest has adds = record {
  frames = has.given ++ map (moved first) adds.given;
  are_frames = rw append-nil at
      (next_frames_are_all-rest chars [] false has.given adds.given first has.next (λ over. refl)
      (rw append-nil (rw has.left at adds.are)));
  text = rw (has.lines, adds.adds, flat_map-append) refl;
}
