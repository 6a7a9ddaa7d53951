-- An input that is read and decoded, portion by portion.
use Rattle.std.proofs.Common.{◌≡◌, ◌≤◌, ◌+◌, ◌-◌, ℕ, List, [], ◌++◌, length, Option, None, Some, refl, arith, inl, inr, MatchOption, ◌∙◌}
use Rattle.std.proofs.Common.{◌≢◌, ◌<◌, ◌∷◌, Err, append_assoc, append-nil, length-append, sym}
use Rattle.std.proofs.KnownBytes.{Consumes-trans}
use Rattle.std.proofs.lemmas.Grind.{common_steps}
use Rattle.std.specs.Io.KnownBytes.{Appends}
use Rattle.hart_text.specs.Items.{Opens}
use Rattle.hart_text.proofs.lemmas.Reads.{Laws, decided_rest}
use Rattle.hart_frame.specs.heard.Character.{faultless}
use Rattle.hart_text.specs.Heard.{Heard, heard_chars}
use Rattle.hart_cli.specs.declared.fault.CliFault.{CliFault}
use Rattle.hart_cli.specs.declared.input.InputEnd.{InputEnd}
use Rattle.hart_cli.specs.declared.input.InputEnd.TheVariants.{Ended, ReadFailed, TooLong}
use Rattle.hart_cli.specs.declared.input.Portion.{Portion}
use Rattle.hart_cli.specs.declared.input.ahead.NextStep.{NextStep}
use Rattle.hart_cli.specs.declared.input.ahead.NextStep.TheVariants.{ReadOn, Stop}
use Rattle.hart_cli.specs.input.Ahead.{DecodesAll, IsNextStep, ReadsAhead, ended_length}
use Rattle.hart_cli.specs.input.Input.{CameTo, Ending, Left, ReadsPortion, ReadsToWithin, ReadsWell, ReadsWithin, ending_of, most_at_once}
use Rattle.hart_cli.specs.input.Decoding.{AreDecodedBy, Decoding, decoding_by, ended_text, HasRaw, raw_decoding}
use Rattle.hart_cli.specs.input.LiveInput.{IsDecidedText, LiveOutcome, ReadsText, StopsSoon, StopsWriting, TextRelation, WroteInTime}
use Rattle.hart_cli.specs.stream.Stream.{FailsToWrite, Stream, WritesAll}
use Rattle.hart_cli.specs.input.InputChars.{HasHeardBy, all, bad_hex, decided_bad_hex, failure}
use Rattle.hart_cli.proofs.lemmas.Writes.{in_time_on}

-- if bytes were read, and then more within the limit, all of them were read
pub read_more : (a b c : Stream) (text bytes : List ℕ) (room limit : ℕ) (end : Option InputEnd) → ReadsWell a b text
    → length text + room ≡ limit → ReadsPortion b c bytes room end
    → MatchOption end (ReadsWell a c (text ++ bytes) × (length (text ++ bytes) ≤ limit))
    (λ came. ReadsWithin limit a c (text ++ bytes) came)
read_more a b c text bytes room limit end h k e = grind (arith, common_steps, Consumes-trans)

-- what was read of an input, by whether the input came to its end
pub read_to : (old new : Stream) (input : List ℕ) (limit : ℕ) (end : Option InputEnd)
    → MatchOption end (ReadsWell old new input × (length input ≤ limit)) (λ came. ReadsWithin limit old new input came)
    → ReadsToWithin limit old new input (ending_of end)
read_to old new input limit None h = inl h
read_to old new input limit (Some end) h = h

-- an input was read, and decoded up to a rest from which nothing can be decoded yet
pub record DecodedUpTo {Heard : Type 0} (Reads : List ℕ → List Heard → List ℕ → Type 0) (Stops : List ℕ → Type 0)
    (most limit : ℕ) (old new : Stream) (end : Option InputEnd) (rest : List ℕ) (read : ℕ)
    (input : List ℕ) (heard : List Heard) : Type 0 where
  pub came : MatchOption end (ReadsWell old new input × (length input ≤ limit)) (λ came. ReadsWithin limit old new input came)
  pub count : read ≡ length input
  pub reads : Reads (ended_text input (ending_of end)) heard rest
  pub no_piece : Stops rest
  pub few : length rest ≤ most
  pub still_open : end ≡ Some ReadFailed → Opens Stops rest

-- the length of an input, with the space for its end if it ended
ended_long : (input : List ℕ) (end : Option InputEnd) → length (ended_text input (ending_of end)) ≡ ended_length end (length input)
ended_long input None = refl
ended_long input (Some Ended) = length-append input _
ended_long input (Some ReadFailed) = refl
ended_long input (Some TooLong) = refl

-- the space for the end of an input follows the input's last bytes
ended_on : (input bytes : List ℕ) (end : Option InputEnd)
    → ended_text (input ++ bytes) (ending_of end) ≡ input ++ ended_text bytes (ending_of end)
ended_on input bytes end = grind (arith, common_steps, append_assoc)

-- the call reads on only if the input did not come to its end and the rest is open
pub read_on : (IsOpen : List ℕ → Type 0) (end : Option InputEnd) (rest : List ℕ) (place : ℕ) → IsNextStep IsOpen end rest place ReadOn
    → (end ≡ None) × IsOpen rest
read_on IsOpen None rest place step = (refl, step)
read_on IsOpen (Some Ended) rest place step = absurd step
read_on IsOpen (Some ReadFailed) rest place step = absurd step
read_on IsOpen (Some TooLong) rest place step = absurd step

-- if two meanings of open are equivalent, the next step is right for both
pub step_by : (A B : List ℕ → Type 0) (rest : List ℕ) → (A rest → B rest) → ((A rest → ⊥) → B rest → ⊥) → (end : Option InputEnd)
    (place : ℕ) (step : NextStep) → IsNextStep A end rest place step → IsNextStep B end rest place step
step_by A B rest to never None place ReadOn is = to is
step_by A B rest to never None place (Stop fault) is = (never is.0, is.1)
step_by A B rest to never (Some Ended) place ReadOn is = is
step_by A B rest to never (Some Ended) place (Stop None) is = is
step_by A B rest to never (Some Ended) place (Stop (Some fault)) is = is
step_by A B rest to never (Some ReadFailed) place ReadOn is = is
step_by A B rest to never (Some ReadFailed) place (Stop fault) is = is
step_by A B rest to never (Some TooLong) place ReadOn is = is
step_by A B rest to never (Some TooLong) place (Stop fault) (inl ajar) = inl (to ajar.0, ajar.1)
step_by A B rest to never (Some TooLong) place (Stop fault) (inr none) = inr (never none.0, none.1)

-- a read that did not end the input gave at least one byte, and at most the room
pub some_long : (bytes : List ℕ) → bytes ≢ [] → 0 < length bytes
some_long [] some = absurd (some refl)
some_long (byte ∷ bytes) some = omega arith

pub more_read : (old new : Stream) (before after : List ℕ) (room : ℕ) (portion : Portion) → ReadsAhead old new before after room portion
    → portion.end ≡ None → (0 < portion.len) × (portion.len ≤ room)
more_read old new before after room portion one on =
    let reads = rw on at one.reads in
    (omega (arith, one.count, some_long one.bytes reads.1), omega (arith, one.count, reads.2))

-- if a write failed within the last part of a text, the call has stopped as `StopsWriting` says
pub stops_in : {Heard : Type 0} (decoding : Decoding Heard) (limit : ℕ) (IsText IsDecided : TextRelation Heard) (r r2 w w1 w2 : Stream)
    (input : List ℕ) (ending : Ending) (heard : Heard) (text last : List ℕ) → ReadsToWithin limit r r2 input ending
    → decoding.Decoded input ending heard → IsText heard text → WroteInTime (IsDecidedText decoding IsDecided) input w w1
    → FailsToWrite w w2 text → FailsToWrite w1 w2 last → StopsWriting decoding limit IsText IsDecided r r2 w w2
stops_in decoding limit IsText IsDecided r r2 w w1 w2 input ending heard text last reads decoded is in_time fails last_fails = record {
  input = input;
  ending = ending;
  reads = reads;
  heard = heard;
  decoded = decoded;
  text = text;
  is_text = is;
  fails = fails;
  in_time = in_time_on (IsDecidedText decoding IsDecided) input w w1 w2 last_fails.0.prefix in_time last_fails.0.written;
}

module _ {Heard : Type 0} (Reads : List ℕ → List Heard → List ℕ → Type 0) (Stops : List ℕ → Type 0) (most : ℕ)
    (laws : Laws Reads Stops) where
  -- the rest is at most as long as what was read
  pub rest_within : (limit : ℕ) (old new : Stream) (end : Option InputEnd) (rest : List ℕ) (read : ℕ) (input : List ℕ)
      (chars : List Heard) → DecodedUpTo Reads Stops most limit old new end rest read input chars → length rest ≤ ended_length end read
  rest_within limit old new end rest read input chars h =
      rw h.count (omega (arith, ended_long input end, laws.shorter _ chars rest h.reads))

  -- decoding the bytes of one read continues what was decoded before
  reads_on : (input bytes ahead after rest : List ℕ) (end : Option InputEnd) (chars more : List Heard) → Reads input chars ahead
      → after ≡ ahead ++ ended_text bytes (ending_of end) → Reads after more rest
      → Reads (ended_text (input ++ bytes) (ending_of end)) (chars ++ more) rest
  reads_on input bytes ahead after rest end chars more before added reads =
      let ended = ended_text bytes (ending_of end) in
      rw (ended_on input bytes end)
      (laws.on _ _ (ahead ++ ended) _ _ (laws.more _ _ _ ended before) (rw added at reads))

  -- the bytes of one read were within the limit
  came_on : (limit : ℕ) (r r1 r2 : Stream) (ahead after : List ℕ) (read : ℕ) (portion : Portion) (input : List ℕ) (chars : List Heard)
      → DecodedUpTo Reads Stops most limit r r1 None ahead read input chars → (one : ReadsAhead r1 r2 ahead after (limit - read) portion)
      → MatchOption portion.end (ReadsWell r r2 (input ++ one.bytes) × (length (input ++ one.bytes) ≤ limit))
      (λ came. ReadsWithin limit r r2 (input ++ one.bytes) came)
  came_on limit r r1 r2 ahead after read portion input chars due one =
      read_more r r1 r2 input one.bytes (limit - read) limit portion.end due.came.0 (omega (arith, due.came.1, due.count)) one.reads

  -- after a failed read a piece may still begin in the rest
  failed_open : (limit : ℕ) (r r1 r2 : Stream) (ahead after rest : List ℕ) (read : ℕ) (portion : Portion) (input : List ℕ)
      (chars more : List Heard) → DecodedUpTo Reads Stops most limit r r1 None ahead read input chars → Opens Stops ahead
      → ReadsAhead r1 r2 ahead after (limit - read) portion → Reads after more rest → portion.end ≡ Some ReadFailed → Opens Stops rest
  failed_open limit r r1 r2 ahead after rest read portion input chars more due may one reads is =
      let none : one.bytes ≡ [] = (rw is at one.reads).1 in
      let same : after ≡ ahead = rw (is, none, append-nil) at one.added in
      let stay = laws.stays ahead more rest (rw same at reads) due.no_piece in
      rw (← stay.1) may

  -- the bytes of one read are decoded
  pub decoded_step : (limit : ℕ) (r r1 r2 : Stream) (ahead after rest : List ℕ) (read : ℕ) (portion : Portion) (input : List ℕ)
      (chars more : List Heard) → DecodedUpTo Reads Stops most limit r r1 None ahead read input chars → Opens Stops ahead
      → (one : ReadsAhead r1 r2 ahead after (limit - read) portion) → length after ≤ most → Stops rest
      → Reads after more rest
      → DecodedUpTo Reads Stops most limit r r2 portion.end rest (read + portion.len) (input ++ one.bytes) (chars ++ more)
  decoded_step limit r r1 r2 ahead after rest read portion input chars more due may one few stops reads = record {
    came = came_on limit r r1 r2 ahead after read portion input chars due one;
    count = omega (arith, due.count, one.count, length-append input one.bytes);
    reads = reads_on input one.bytes ahead after rest portion.end chars more due.reads one.added reads;
    no_piece = stops;
    few = omega (arith, few, laws.shorter after more rest reads);
    still_open = failed_open limit r r1 r2 ahead after rest read portion input chars more due may one reads;
  }

  -- a part of the bytes of one read is decoded
  pub decoded_part : (limit : ℕ) (r r1 r2 : Stream) (ahead after rest : List ℕ) (read : ℕ) (portion : Portion) (input : List ℕ)
      (chars more : List Heard) → DecodedUpTo Reads Stops most limit r r1 None ahead read input chars
      → (one : ReadsAhead r1 r2 ahead after (limit - read) portion) → length after ≤ most → Reads after more rest
      → ReadsToWithin limit r r2 (input ++ one.bytes) (ending_of portion.end)
      × AreDecodedBy Reads most (input ++ one.bytes) (ending_of portion.end) (chars ++ more)
  decoded_part limit r r1 r2 ahead after rest read portion input chars more due one few reads = (
    read_to r r2 (input ++ one.bytes) limit portion.end (came_on limit r r1 r2 ahead after read portion input chars due one),
    record {
      rest = rest;
      reads = reads_on input one.bytes ahead after rest portion.end chars more due.reads one.added reads;
      few = omega (arith, few, laws.shorter after more rest reads);
    },
  )

  -- a text is written in time if it was decided, and also written, before the last read
  pub in_time_before : (IsDecided : TextRelation (List Heard)) (limit : ℕ) (r r1 w w1 : Stream) (ahead : List ℕ) (read : ℕ) (input : List ℕ)
      (chars : List Heard) (text bytes : List ℕ) → DecodedUpTo Reads Stops most limit r r1 None ahead read input chars → Opens Stops ahead
      → length bytes ≤ most_at_once → IsDecided chars text → Appends w.bytes w1.bytes text
      → WroteInTime (IsDecidedText (decoding_by Reads Stops most) IsDecided) (input ++ bytes) w w1
  in_time_before IsDecided limit r r1 w w1 ahead read input chars text bytes due may few decided written = record {
    before = input;
    last = bytes;
    split = refl;
    few = few;
    text = text;
    decided = record {
      heard = chars;
      reads = record { rest = ahead; reads = due.reads; no_piece = due.no_piece; open_end = may };
      decided = decided;
    };
    more = [];
    written = rw append-nil written;
  }

  -- what was read is decoded
  pub are_decoded : (limit : ℕ) (old new : Stream) (end : Option InputEnd) (rest : List ℕ) (read : ℕ) (input : List ℕ)
      (chars : List Heard) → DecodedUpTo Reads Stops most limit old new end rest read input chars
      → AreDecodedBy Reads most input (ending_of end) chars
  are_decoded limit old new end rest read input chars h = record { rest = rest; reads = h.reads; few = h.few }

  -- if no more of an input is read, it was decoded up to its end or its first fault
  decodes_to : (limit : ℕ) (r r2 : Stream) (rest input : List ℕ) (chars : List Heard) (fault : Option CliFault) (ending : Ending)
      → ReadsToWithin limit r r2 input ending → Reads (ended_text input ending) chars rest → length rest ≤ most
      → HasHeardBy Reads Stops input ending chars fault × StopsSoon most input fault
      → DecodesAll (decoding_by Reads Stops most) limit r r2 fault input chars
  decodes_to limit r r2 rest input chars fault ending came reads few is = record {
    ending = ending;
    reads = came;
    has = is.0;
    decoded = record { rest = rest; reads = reads; few = few };
    soon = is.1;
  }

  -- if no more of an input is read, the last step has the fault of the input
  decodes_at : (limit : ℕ) (r r2 : Stream) (end : Option InputEnd) (rest : List ℕ) (place read : ℕ) (input : List ℕ)
      (chars : List Heard) (fault : Option CliFault) → DecodedUpTo Reads Stops most limit r r2 end rest read input chars
      → place + length rest ≡ length (ended_text input (ending_of end)) → IsNextStep (Opens Stops) end rest place (Stop fault)
      → DecodesAll (decoding_by Reads Stops most) limit r r2 fault input chars
  decodes_at limit r r2 None rest place read input chars fault h placed step =
      decodes_to limit r r2 rest input chars fault Left (inl h.came) h.reads h.few
      (rw step.1 (
        decided_bad_hex chars place (decided_rest Reads Stops laws input chars rest place h.reads placed h.no_piece step.0),
        omega (arith, placed, h.few),
      ))
  decodes_at limit r r2 (Some Ended) rest place read input chars None h placed step =
      decodes_to limit r r2 rest input chars None (CameTo Ended) h.came h.reads h.few (all chars (rw step at h.reads), tt)
  decodes_at limit r r2 (Some Ended) rest place read input chars (Some fault) h placed step =
      decodes_to limit r r2 rest input chars (Some fault) (CameTo Ended) h.came h.reads h.few
      (rw step.1 (
        bad_hex chars place (record { rest = rest; reads = h.reads; begins = placed; more = step.0; no_piece = h.no_piece }),
        omega (arith, placed, h.few, length-append input (32 ∷ [])),
      ))
  decodes_at limit r r2 (Some ReadFailed) rest place read input chars fault h placed step =
      decodes_to limit r r2 rest input chars fault (CameTo ReadFailed) h.came h.reads h.few
      (rw step
      (failure chars (record { rest = rest; reads = h.reads; no_piece = h.no_piece; open_end = h.still_open refl }), tt))
  decodes_at limit r r2 (Some TooLong) rest place read input chars fault h placed (inl may) =
      decodes_to limit r r2 rest input chars fault (CameTo TooLong) h.came h.reads h.few
      (rw may.1 (HasHeardBy.limit chars (record { rest = rest; reads = h.reads; no_piece = h.no_piece; open_end = may.0 }), tt))
  decodes_at limit r r2 (Some TooLong) rest place read input chars fault h placed (inr never) =
      decodes_to limit r r2 rest input chars fault Left (inr h.came) h.reads h.few
      (rw never.1 (
        decided_bad_hex chars place (decided_rest Reads Stops laws input chars rest place h.reads placed h.no_piece never.0),
        omega (arith, placed, h.few),
      ))

  pub decodes_all : (limit : ℕ) (r r2 : Stream) (end : Option InputEnd) (rest : List ℕ) (read : ℕ) (input : List ℕ)
      (chars : List Heard) (fault : Option CliFault) → DecodedUpTo Reads Stops most limit r r2 end rest read input chars
      → IsNextStep (Opens Stops) end rest (ended_length end read - length rest) (Stop fault)
      → DecodesAll (decoding_by Reads Stops most) limit r r2 fault input chars
  decodes_all limit r r2 end rest read input chars fault h step =
      let within = rest_within limit r r2 end rest read input chars h in
      let same : ended_length end read ≡ length (ended_text input (ending_of end)) = rw h.count (sym (ended_long input end)) in
      decodes_at limit r r2 end rest (ended_length end read - length rest) read input chars fault h (omega (arith, same, within)) step

-- if the text of an input was written, the call may return any fault that the input can have
fault_ends : {Heard : Type 0} (Reads : List ℕ → List Heard → List ℕ → Type 0) (Stops : List ℕ → Type 0) (most limit : ℕ)
    (IsText IsDecided : TextRelation (List Heard)) (r r' w w' : Stream) (input : List ℕ) (ending : Ending)
    (heard : List Heard) (fault : CliFault) → HasHeardBy Reads Stops input ending heard (Some fault)
    → (text : List ℕ) × ReadsText (decoding_by Reads Stops most) limit IsText r r' (Some fault) text × WritesAll w w' text
    → LiveOutcome (decoding_by Reads Stops most) limit IsText IsDecided r r' w w' (Err fault)
fault_ends Reads Stops most limit IsText IsDecided r r' w w' input _ _ _ (HasHeardBy.bad_hex _ place bad) wrote = wrote
fault_ends Reads Stops most limit IsText IsDecided r r' w w' input _ _ _ _ wrote = wrote

-- if the text of an input with a fault was written, the call may return this fault
pub ends_with : {Heard : Type 0} (Reads : List ℕ → List Heard → List ℕ → Type 0) (Stops : List ℕ → Type 0) (most limit : ℕ)
    (IsText IsDecided : TextRelation (List Heard)) (r r' w w' : Stream) (fault : CliFault) (text : List ℕ)
    → ReadsText (decoding_by Reads Stops most) limit IsText r r' (Some fault) text → WritesAll w w' text
    → LiveOutcome (decoding_by Reads Stops most) limit IsText IsDecided r r' w w' (Err fault)
ends_with Reads Stops most limit IsText IsDecided r r' w w' fault text reads wrote =
    fault_ends Reads Stops most limit IsText IsDecided r r' w w' reads.input reads.ending reads.has_text.heard fault reads.has_text.has
    (text, reads, wrote)

-- RAW INPUTS
-- a raw input has only one list of characters, and only one fault
pub one_raw_input : (input : List ℕ) (ending : Ending) (xs ys : List Heard) (f g : Option CliFault) → HasRaw input ending xs f
    → HasRaw input ending ys g → (xs ≡ ys) × (f ≡ g)
one_raw_input input _ _ _ _ _ (HasRaw.all xs h) (HasRaw.all ys k) = (h ∙ sym k, refl)
one_raw_input input _ _ _ _ _ (HasRaw.failure xs h) (HasRaw.failure ys k) = (h ∙ sym k, refl)
one_raw_input input _ _ _ _ _ (HasRaw.limit xs h) (HasRaw.limit ys k) = (h ∙ sym k, refl)

-- the characters of a raw input are its bytes
pub raw_chars : (input : List ℕ) (ending : Ending) (heard : List Heard) (fault : Option CliFault)
    → HasRaw input ending heard fault → heard ≡ heard_chars (faultless input)
raw_chars input _ _ _ (HasRaw.all chars is) = is
raw_chars input _ _ _ (HasRaw.failure chars is) = is
raw_chars input _ _ _ (HasRaw.limit chars is) = is

-- if the text of a raw input was written, the call may return any fault that the input can have
raw_fault_ends : (limit : ℕ) (IsText IsDecided : TextRelation (List Heard)) (r r' w w' : Stream) (input : List ℕ) (ending : Ending)
    (heard : List Heard) (fault : CliFault) → HasRaw input ending heard (Some fault)
    → (text : List ℕ) × ReadsText raw_decoding limit IsText r r' (Some fault) text × WritesAll w w' text
    → LiveOutcome raw_decoding limit IsText IsDecided r r' w w' (Err fault)
raw_fault_ends limit IsText IsDecided r r' w w' input _ _ _ (HasRaw.failure chars is) wrote = wrote
raw_fault_ends limit IsText IsDecided r r' w w' input _ _ _ (HasRaw.limit chars is) wrote = wrote

-- if the text of a raw input with a fault was written, the call may return this fault
pub raw_ends_with : (limit : ℕ) (IsText IsDecided : TextRelation (List Heard)) (r r' w w' : Stream) (fault : CliFault)
    (text : List ℕ) → ReadsText raw_decoding limit IsText r r' (Some fault) text → WritesAll w w' text
    → LiveOutcome raw_decoding limit IsText IsDecided r r' w w' (Err fault)
raw_ends_with limit IsText IsDecided r r' w w' fault text reads wrote =
    raw_fault_ends limit IsText IsDecided r r' w w' reads.input reads.ending reads.has_text.heard fault reads.has_text.has
    (text, reads, wrote)
