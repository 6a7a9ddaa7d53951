-- An input that is read and heard, step by step.
use Rattle.std.proofs.Common.{◌≡◌, ◌≤◌, ◌<◌, ◌+◌, ◌-◌, ◌*◌, ◌^◌, ℕ, List, [], ◌++◌, length, Option, None, refl, arith}
use Rattle.std.proofs.lemmas.Grind.{common_steps}
use Rattle.hart_frame.specs.heard.Character.{Character}
use Rattle.hart_frame.proofs.lemmas.Laws.{every_list_has_frames}
use Rattle.hart_text.specs.Items.{MayBegin, NoPieceBegins, Opens, ReadsUpTo}
use Rattle.hart_text.proofs.lemmas.Items.{item_laws, ReadsUpTo-few}
use Rattle.hart_text.proofs.lemmas.Marks.{items_never_open, items_open}
use Rattle.hart_cli.specs.declared.calls.dump.frame_lines.FrameLines.{FrameLines}
use Rattle.hart_cli.specs.declared.fault.CliFault.{CliFault}
use Rattle.hart_cli.specs.declared.input.InputEnd.{InputEnd}
use Rattle.hart_cli.specs.declared.input.Portion.{Portion}
use Rattle.hart_cli.specs.declared.input.ahead.NextStep.TheVariants.{Stop}
use Rattle.hart_cli.specs.dump.Dump.{AreDecidedLines, AreFrameLines}
use Rattle.hart_cli.specs.dump.FrameLines.{HasLines, HearsAll, HearsText, IsWaiting}
use Rattle.hart_cli.specs.dump.Text.{dump_text}
use Rattle.hart_cli.specs.input.Ahead.{IsNextStep, ReadsAhead, ended_length}
use Rattle.hart_cli.specs.input.Decoding.{item_decoding, most_ahead}
use Rattle.hart_cli.specs.input.Input.{ending_of}
use Rattle.hart_station.specs.Station.{input_limit}
use Rattle.hart_cli.specs.input.LiveInput.{IsDecidedText, StopsWriting, WroteInTime}
use Rattle.hart_cli.specs.stream.Stream.{FailsToWrite, Stream, WritesAll}
use Rattle.hart_cli.proofs.lemmas.Writes.{FailsToWrite-longer, FailsToWrite-on}
use Rattle.hart_cli.proofs.lemmas.dump.FrameLines.{are_decided, has_long, has_more, hears_long}
use Rattle.hart_cli.proofs.lemmas.input.Decoded.{DecodedUpTo, are_decoded, decoded_step, decodes_all, in_time_before, read_to, step_by}
use Rattle.hart_cli.proofs.lemmas.input.Decoded.{stops_in}

-- an input was read and heard up to a rest where no piece begins yet; these are its lines so far
pub record HeardUpTo (old new : Stream) (first : ℕ) (held : List ℕ) (end : Option InputEnd) (rest : List ℕ) (read : ℕ)
    (lines : List ℕ) : Type 0 where
  pub input : List ℕ
  pub chars : List Character
  pub decoded : DecodedUpTo ReadsUpTo NoPieceBegins most_ahead input_limit old new end rest read input chars
  pub has : HasLines chars first held lines
  pub waiting : IsWaiting held

-- after one more read, its characters are heard, and the lines that were decided before it were written in time
pub heard_step : (r r1 r2 w w1 : Stream) (old new : FrameLines) (read : ℕ) (ahead after rest text : List ℕ) (portion : Portion)
    → HeardUpTo r r1 old.first old.held None ahead read text → old.lines ≡ [] → WritesAll w w1 text
    → MayBegin ahead → ReadsAhead r1 r2 ahead after (input_limit - read) portion → length after ≤ most_ahead
    → NoPieceBegins rest → HearsText old new after rest → IsWaiting new.held
    → (now : HeardUpTo r r2 new.first new.held portion.end rest (read + portion.len) (text ++ new.lines))
    × WroteInTime (IsDecidedText item_decoding AreDecidedLines) now.input w w1
heard_step r r1 r2 w w1 old new read ahead after rest text portion due none wrote may more few stops heard waiting = (
  record {
    input = due.input ++ more.bytes;
    chars = due.chars ++ heard.chars;
    decoded = decoded_step ReadsUpTo NoPieceBegins most_ahead item_laws input_limit r r1 r2 ahead after rest read portion due.input
        due.chars heard.chars due.decoded (items_open ahead may) more
        few stops heard.reads;
    has = has_more due.chars heard.chars old new text due.has none heard.hears;
    waiting = waiting;
  },
  in_time_before ReadsUpTo NoPieceBegins most_ahead item_laws AreDecidedLines input_limit r r1 w w1 ahead read due.input due.chars text
      more.bytes due.decoded (items_open ahead may) more.few
      (record {
        frames = due.has.given;
        decided = are_decided due.chars old.first old.held text due.has due.waiting.undecided;
        text = due.has.lines;
      }) wrote.0,
)

-- the places of the held characters fit in 64 bits
pub heard_places : (r r1 : Stream) (old new : FrameLines) (read : ℕ) (ahead after rest text : List ℕ)
    → HeardUpTo r r1 old.first old.held None ahead read text → length after ≤ most_ahead → HearsText old new after rest
    → new.first + length new.held < 2 ^ 64
heard_places r r1 old new read ahead after rest text due few heard =
    let before = has_long due.chars old.first old.held text due.has in
    let long = hears_long old new heard.chars heard.hears in
    let read_few : 2 * length due.chars + length ahead ≤ length due.input = ReadsUpTo-few _ _ _ due.decoded.reads in
    let more_few = ReadsUpTo-few _ _ _ heard.reads in
    let within = due.decoded.came.1 in
    grind (arith, common_steps)

-- if a write of the kept lines fails, the call has stopped as `StopsWriting` says
pub stopped_writing : (r r2 w w1 w2 : Stream) (first : ℕ) (held : List ℕ) (end : Option InputEnd) (rest : List ℕ) (read : ℕ)
    (text lines : List ℕ) (heard : HeardUpTo r r2 first held end rest read (text ++ lines)) → WritesAll w w1 text
    → WroteInTime (IsDecidedText item_decoding AreDecidedLines) heard.input w w1 → FailsToWrite w1 w2 lines
    → StopsWriting item_decoding input_limit AreFrameLines AreDecidedLines r r2 w w2
stopped_writing r r2 w w1 w2 first held end rest read text lines heard wrote in_time fails =
    let later = every_list_has_frames (heard.chars ++ []) first in
    let are = heard.has.next.leads [] later.0 (λ over. refl) later.1 in
    let all = FailsToWrite-longer _ w2 (text ++ lines) (dump_text later.0) (FailsToWrite-on _ _ w2 text lines wrote fails) in
    stops_in item_decoding input_limit AreFrameLines AreDecidedLines r r2 w w1 w2 heard.input (ending_of end) heard.chars
    ((text ++ lines) ++ dump_text later.0) lines (read_to r r2 heard.input input_limit end heard.decoded.came)
    (are_decoded ReadsUpTo NoPieceBegins most_ahead item_laws input_limit r r2 end rest read heard.input heard.chars heard.decoded)
    (grind (arith, common_steps)) in_time all fails

-- if no more of an input is read, the last step has the fault of the input
pub hears_all : (r r2 w w1 : Stream) (frames : FrameLines) (end : Option InputEnd) (rest : List ℕ) (read : ℕ) (text : List ℕ)
    (fault : Option CliFault) (heard : HeardUpTo r r2 frames.first frames.held end rest read text)
    → frames.first + length frames.held < 2 ^ 64 → frames.lines ≡ []
    → WritesAll w w1 text → WroteInTime (IsDecidedText item_decoding AreDecidedLines) heard.input w w1
    → IsNextStep MayBegin end rest (ended_length end read - length rest) (Stop fault) → HearsAll r r2 w w1 frames fault
hears_all r r2 w w1 frames end rest read text fault heard places none wrote in_time step = record {
  input = heard.input;
  chars = heard.chars;
  text = text;
  decodes = decodes_all ReadsUpTo NoPieceBegins most_ahead item_laws input_limit r r2 end rest read heard.input heard.chars fault
      heard.decoded (step_by MayBegin (Opens NoPieceBegins) rest (items_open rest) (items_never_open rest) end _ (Stop fault) step);
  has = heard.has;
  places = places;
  waiting = heard.waiting;
  none_kept = none;
  wrote = wrote;
  in_time = in_time;
}
