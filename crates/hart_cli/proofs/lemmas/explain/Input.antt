-- An input that is read and printed, step by step: as hex items, or raw.
use Rattle.std.proofs.Common.{◌≡◌, ◌≤◌, ◌<◌, ◌+◌, ◌-◌, ◌*◌, ◌^◌, ℕ, false, true, List, [], ◌∷◌, ◌++◌, length, Option, None, Some, Ok, Err}
use Rattle.std.proofs.Common.{MatchOption, MatchResult, Result, append-nil, arith, inl, inr, length-append, refl}
use Rattle.std.proofs.KnownBytes.{Consumes-nil}
use Rattle.std.proofs.lemmas.List.{map-append}
use Rattle.std.specs.Io.KnownBytes.{Appends}
use Rattle.hart_frame.specs.heard.Character.{faultless}
use Rattle.hart_text.specs.Heard as reading
use Rattle.hart_text.specs.Heard.{Heard, NothingBegins, ReadsHeard, heard_chars}
use Rattle.hart_text.specs.Items.{Opens, nothing}
use Rattle.hart_text.proofs.lemmas.Heard.{chars_on, heard_laws}
use Rattle.hart_listen.specs.Listener.{HasTold, IsWaiting}
use Rattle.hart_listen.specs.declared.listener.Listener.{Listener}
use Rattle.hart_listen.proofs.lemmas.Laws.{characters_take_two_bytes}
use Rattle.hart_cli.specs.declared.calls.explain.printer.Printer.{Printer}
use Rattle.hart_cli.specs.declared.calls.explain.printer.Style.{Style}
use Rattle.hart_cli.specs.declared.fault.CliFault.{CliFault}
use Rattle.hart_cli.specs.declared.fault.CliFault.TheVariants.{Write}
use Rattle.hart_cli.specs.declared.input.InputEnd.{InputEnd}
use Rattle.hart_cli.specs.declared.input.InputEnd.TheVariants.{Ended, ReadFailed, TooLong}
use Rattle.hart_cli.specs.declared.input.Portion.{Portion}
use Rattle.hart_cli.specs.declared.input.ahead.NextStep.TheVariants.{Stop}
use Rattle.hart_cli.specs.explain.Explanation.{ExplainOutcome, IsDecidedIn, IsTextIn}
use Rattle.hart_cli.specs.explain.Printer.{EndsText, IsBlank, Prints}
use Rattle.hart_cli.specs.input.Ahead.{DecodesAll, IsNextStep, ReadsAhead, ended_length}
use Rattle.hart_cli.specs.input.Decoding.{AreRaw, Decoding, HasRaw, ended_text, heard_decoding, most_heard_ahead, raw_decoding, raw_limit}
use Rattle.hart_cli.specs.input.Input.{CameTo, Ending, Left, ReadsPortion, ReadsToWithin, ReadsWell, ReadsWithin, ending_of, fault_of_end}
use Rattle.hart_cli.specs.input.Input.{most_at_once, stream_limit}
use Rattle.hart_cli.specs.input.LiveInput.{IsDecidedText, LiveOutcome, ReadsText, StopsSoon, StopsWriting, WroteInTime}
use Rattle.hart_cli.specs.stream.Stream.{Stream, WritesAll}
use Rattle.hart_cli.proofs.lemmas.Writes.{FailsToWrite-longer, in_time_on}
use Rattle.hart_cli.proofs.lemmas.explain.Grow.{begins_text}
use Rattle.hart_cli.proofs.lemmas.explain.Printer.{prints_decided, prints_none, prints_since, took_all}
use Rattle.hart_cli.proofs.lemmas.input.Decoded.{DecodedUpTo, are_decoded, decoded_step, decodes_all, ends_with, in_time_before}
use Rattle.hart_cli.proofs.lemmas.input.Decoded.{raw_ends_with, read_more, read_to, some_long}

-- an input was read and printed: `Decoded` is true of the input and of what was heard in it
pub record PrintedUpTo (Decoded : List ℕ → List Heard → Type 0) (style : Style) (listener : Listener) (printer : Printer)
    (writer writer_after : Stream) : Type 0 where
  pub input : List ℕ
  pub heard : List Heard
  pub decoded : Decoded input heard
  pub prints : Prints false style writer writer_after listener printer heard writer_after
  pub waiting : IsWaiting listener

-- nothing was read yet
printed_nothing : (Decoded : List ℕ → List Heard → Type 0) (style : Style) (l : Listener) (p : Printer) (w : Stream) → Decoded [] []
    → HasTold false l [] [] → IsWaiting l → IsBlank p.page → p.style ≡ style → PrintedUpTo Decoded style l p w w
printed_nothing Decoded style l p w decoded told waiting blank is = record {
  input = [];
  heard = [];
  decoded = decoded;
  prints = prints_none style l p w told blank is;
  waiting = waiting;
}

-- what one read gave is printed, and what was decided before that read was written in time
printed_step : (Old New : List ℕ → List Heard → Type 0) (decoding : Decoding (List Heard)) (style : Style) (old new : Listener)
    (p q : Printer) (w w1 w2 : Stream) (input : List ℕ) (heard : List Heard) → (due : PrintedUpTo Old style old p w w1)
    → p.page.kept ≡ [] → p.page.failed ≡ false → New input heard
    → ((text : List ℕ) → IsDecidedIn style due.heard text → Appends w.bytes w1.bytes text
    → WroteInTime (IsDecidedText decoding (IsDecidedIn style)) input w w1)
    → Prints false style w w1 new q heard w2 → IsWaiting new
    → (now : PrintedUpTo New style new q w w2) × WroteInTime (IsDecidedText decoding (IsDecidedIn style)) now.input w w2
printed_step Old New decoding style old new p q w w1 w2 input heard due quiet unfailed decoded in_time prints waiting =
    let written = took_all p.page.failed w w1 p.page.kept _ quiet unfailed due.prints.2.taken.kept in
    let before = in_time _ (prints_decided style w w1 old p due.heard w1 due.prints due.waiting) written.0 in (
      record {
        input = input;
        heard = heard;
        decoded = decoded;
        prints = prints_since style w w1 new q heard w2 prints;
        waiting = waiting;
      },
      in_time_on (IsDecidedText decoding (IsDecidedIn style)) input w w1 w2 prints.2.taken.more before prints.2.taken.added,
    )

-- a write failed in the text of what was heard
stops_printing : (Decoded : List ℕ → List Heard → Type 0) (decoding : Decoding (List Heard)) (limit : ℕ) (r r2 w w2 : Stream)
    (style : Style) (l : Listener) (p : Printer) (ending : Ending) → (now : PrintedUpTo Decoded style l p w w2)
    → ReadsToWithin limit r r2 now.input ending → decoding.Decoded now.input ending now.heard
    → WroteInTime (IsDecidedText decoding (IsDecidedIn style)) now.input w w2 → p.page.failed ≡ true
    → StopsWriting decoding limit (IsTextIn style) (IsDecidedIn style) r r2 w w2
stops_printing Decoded decoding limit r r2 w w2 style l p ending now reads decoded in_time failed =
    let (more, is) = begins_text style now.heard _ (prints_decided style w w2 l p now.heard w2 now.prints now.waiting) in
    record {
      input = now.input;
      ending = ending;
      reads = reads;
      heard = now.heard;
      decoded = decoded;
      text = _;
      is_text = is;
      fails = FailsToWrite-longer w w2 _ more (rw failed at now.prints.2.taken.kept);
      in_time = in_time;
    }

-- the whole text was written, and the result is the fault of the input, if it has one
live : (decoding : Decoding (List Heard)) (limit : ℕ) (r r2 w w2 : Stream) (style : Style) (fault : Option CliFault)
    (result : Result (Unit {0}) CliFault) (text : List ℕ)
    → ((it : CliFault) → ReadsText decoding limit (IsTextIn style) r r2 (Some it) text → WritesAll w w2 text
    → LiveOutcome decoding limit (IsTextIn style) (IsDecidedIn style) r r2 w w2 (Err it))
    → ReadsText decoding limit (IsTextIn style) r r2 fault text → WritesAll w w2 text
    → MatchResult result (λ _. fault ≡ None) (λ it. fault ≡ Some it)
    → LiveOutcome decoding limit (IsTextIn style) (IsDecidedIn style) r r2 w w2 result
live decoding limit r r2 w w2 style fault (Ok done) text faulty reads wrote is = (text, rw is at reads, wrote)
live decoding limit r r2 w w2 style fault (Err it) text faulty reads wrote is = faulty it (rw is at reads) wrote

-- a write failed, and the result says so
stopped : (decoding : Decoding (List Heard)) (limit : ℕ) (r r2 w w2 : Stream) (style : Style) (result : Result (Unit {0}) CliFault)
    → StopsWriting decoding limit (IsTextIn style) (IsDecidedIn style) r r2 w w2 → MatchResult result (λ _. ⊥) (λ it. it ≡ Write)
    → LiveOutcome decoding limit (IsTextIn style) (IsDecidedIn style) r r2 w w2 result
stopped decoding limit r r2 w w2 style (Ok done) stops never = absurd never
stopped decoding limit r r2 w w2 style (Err it) stops is = rw is stops

-- once the rest is printed and written, the call has its outcome
outcome : (decoding : Decoding (List Heard)) (limit : ℕ) (r r2 w w1 w2 : Stream) (style : Style) (input : List ℕ)
    (heard : List Heard) (fault : Option CliFault) (result : Result (Unit {0}) CliFault)
    → ((it : CliFault) (text : List ℕ) → ReadsText decoding limit (IsTextIn style) r r2 (Some it) text → WritesAll w w2 text
    → LiveOutcome decoding limit (IsTextIn style) (IsDecidedIn style) r r2 w w2 (Err it))
    → DecodesAll decoding limit r r2 fault input heard → WroteInTime (IsDecidedText decoding (IsDecidedIn style)) input w w1
    → EndsText style w w1 heard fault w2 result
    → LiveOutcome decoding limit (IsTextIn style) (IsDecidedIn style) r r2 w w2 result
outcome decoding limit r r2 w w1 w2 style input heard fault result faulty all in_time ends =
    elim ends.ends [
      | inl (wrote, is) ↦
          live decoding limit r r2 w w2 style fault result ends.text (λ it. faulty it ends.text)
          (record {
            input = input;
            ending = all.ending;
            reads = all.reads;
            has_text = record { heard = heard; has = all.has; is_text = ends.is_text };
            soon = all.soon;
          })
          wrote is
      | inr (fails, is) ↦
          stopped decoding limit r r2 w w2 style result
          (record {
            input = input;
            ending = all.ending;
            reads = all.reads;
            heard = heard;
            decoded = all.decoded;
            text = ends.text;
            is_text = ends.is_text;
            fails = fails;
            in_time = in_time_on (IsDecidedText decoding (IsDecidedIn style)) input w w1 w2 ends.more in_time ends.added;
          })
          is
    ]

-- HEX ITEMS
-- an input of hex items was read and printed up to a rest where nothing begins yet
abbrev pub HeardUpTo : Stream → Stream → Option InputEnd → List ℕ → ℕ → Style → Listener → Printer → Stream → Stream → Type 0
HeardUpTo old new end rest read =
    PrintedUpTo (DecodedUpTo ReadsHeard NothingBegins most_heard_ahead stream_limit old new end rest read)

pub heard_nothing : (r w : Stream) (style : Style) (l : Listener) (p : Printer) → HasTold false l [] [] → IsWaiting l → IsBlank p.page
    → p.style ≡ style → HeardUpTo r r None [] 0 style l p w w
heard_nothing r w style l p = printed_nothing _ style l p w (record {
  came = ((Consumes-nil _, refl), omega arith);
  count = refl;
  reads = reading.items [] [] [] (nothing []);
  no_piece = heard_laws.none;
  few = omega arith;
  still_open = λ is. cc is;
})

-- an input, with a space added for its end, has at most one byte more than the limit
input_within : (input : List ℕ) (ending : Ending) (r r2 : Stream) → ReadsToWithin stream_limit r r2 input ending
    → length (ended_text input ending) ≤ stream_limit + 1
input_within input Left r r2 (inl reads) = omega (arith, reads.1)
input_within input Left r r2 (inr past) = omega (arith, past.1)
input_within input (CameTo Ended) r r2 reads = omega (arith, reads.2, length-append input (32 ∷ []))
input_within input (CameTo ReadFailed) r r2 reads = omega (arith, reads.1)
input_within input (CameTo TooLong) r r2 reads = omega (arith, reads.1)

-- twice the number of characters heard, and the length of the rest, add up to at most 2^64
pub places_fit : (r r1 : Stream) (style : Style) (l : Listener) (p : Printer) (end : Option InputEnd) (rest : List ℕ) (read : ℕ)
    (w w1 : Stream) → HeardUpTo r r1 end rest read style l p w w1 → 2 * (l.first + length l.held) + length rest ≤ 2 ^ 64
places_fit r r1 style l p end rest read w w1 now =
    let few = characters_take_two_bytes l now.heard now.prints.0 _ rest now.prints.1 now.decoded.reads in
    let within = input_within now.input (ending_of end) r r1 (read_to r r1 now.input stream_limit end now.decoded.came) in
    omega (arith, few, within)

-- what one read gave is printed, and what was decided before that read was written in time
pub heard_step : (r r1 r2 w w1 w2 : Stream) (style : Style) (old new : Listener) (p q : Printer) (ahead after rest : List ℕ) (read : ℕ)
    (portion : Portion) (more : List Heard) → (due : HeardUpTo r r1 None ahead read style old p w w1) → p.page.kept ≡ []
    → p.page.failed ≡ false → Opens NothingBegins ahead → ReadsAhead r1 r2 ahead after (stream_limit - read) portion
    → length after ≤ most_heard_ahead → NothingBegins rest → ReadsHeard after more rest
    → Prints false style w w1 new q (due.heard ++ more) w2 → IsWaiting new
    → (now : HeardUpTo r r2 portion.end rest (read + portion.len) style new q w w2)
    × WroteInTime (IsDecidedText heard_decoding (IsDecidedIn style)) now.input w w2
heard_step r r1 r2 w w1 w2 style old new p q ahead after rest read portion more due quiet unfailed may one few stops reads prints =
    printed_step _ _ heard_decoding style old new p q w w1 w2 (due.input ++ one.bytes) (due.heard ++ more) due quiet unfailed
    (decoded_step ReadsHeard NothingBegins most_heard_ahead heard_laws stream_limit r r1 r2 ahead after rest read
    portion due.input due.heard more due.decoded may one few stops reads)
    (λ text. in_time_before ReadsHeard NothingBegins most_heard_ahead heard_laws (IsDecidedIn style) stream_limit r r1 w w1 ahead read
    due.input due.heard text one.bytes due.decoded may one.few)
    prints

pub stops_up_to : (r r2 w w2 : Stream) (style : Style) (l : Listener) (p : Printer) (end : Option InputEnd) (rest : List ℕ) (read : ℕ)
    → (now : HeardUpTo r r2 end rest read style l p w w2)
    → WroteInTime (IsDecidedText heard_decoding (IsDecidedIn style)) now.input w w2 → p.page.failed ≡ true
    → StopsWriting heard_decoding stream_limit (IsTextIn style) (IsDecidedIn style) r r2 w w2
stops_up_to r r2 w w2 style l p end rest read now =
    stops_printing _ heard_decoding stream_limit r r2 w w2 style l p (ending_of end) now
    (read_to r r2 now.input stream_limit end now.decoded.came)
    (are_decoded ReadsHeard NothingBegins most_heard_ahead heard_laws stream_limit r r2 end rest read now.input now.heard now.decoded)

-- once no more of an input is read, the last step says the fault of the input
pub heard_outcome : (r r2 w w1 w2 : Stream) (style : Style) (l : Listener) (p : Printer) (end : Option InputEnd) (rest : List ℕ)
    (read : ℕ) (fault : Option CliFault) (result : Result (Unit {0}) CliFault) → (now : HeardUpTo r r2 end rest read style l p w w1)
    → WroteInTime (IsDecidedText heard_decoding (IsDecidedIn style)) now.input w w1
    → IsNextStep (Opens NothingBegins) end rest (ended_length end read - length rest) (Stop fault)
    → EndsText style w w1 now.heard fault w2 result
    → ExplainOutcome style false r r2 w w2 result
heard_outcome r r2 w w1 w2 style l p end rest read fault result now in_time step =
    outcome heard_decoding stream_limit r r2 w w1 w2 style now.input now.heard fault result
    (ends_with ReadsHeard NothingBegins most_heard_ahead stream_limit (IsTextIn style) (IsDecidedIn style) r r2 w w2)
    (decodes_all ReadsHeard NothingBegins most_heard_ahead heard_laws stream_limit r r2 end rest read now.input now.heard fault
    now.decoded step)
    in_time

-- RAW BYTES
-- the bytes of a raw input were read: these are their characters
pub record RawDecoded (old new : Stream) (end : Option InputEnd) (read : ℕ) (input : List ℕ) (heard : List Heard) : Type 0 where
  pub came : MatchOption end (ReadsWell old new input × (length input ≤ raw_limit)) (λ came. ReadsWithin raw_limit old new input came)
  pub count : read ≡ length input
  pub raw : AreRaw input heard

-- a raw input was read and printed
abbrev pub RawUpTo : Stream → Stream → Option InputEnd → ℕ → Style → Listener → Printer → Stream → Stream → Type 0
RawUpTo old new end read = PrintedUpTo (RawDecoded old new end read)

pub raw_nothing : (r w : Stream) (style : Style) (l : Listener) (p : Printer) → HasTold false l [] [] → IsWaiting l → IsBlank p.page
    → p.style ≡ style → RawUpTo r r None 0 style l p w w
raw_nothing r w style l p =
    printed_nothing _ style l p w (record { came = ((Consumes-nil _, refl), omega arith); count = refl; raw = refl })

-- no more is read than the limit allows
raw_within : (r r2 : Stream) (end : Option InputEnd) (input : List ℕ)
    → MatchOption end (ReadsWell r r2 input × (length input ≤ raw_limit)) (λ came. ReadsWithin raw_limit r r2 input came)
    → length input ≤ raw_limit
raw_within r r2 None input came = came.1
raw_within r r2 (Some Ended) input came = came.2
raw_within r r2 (Some ReadFailed) input came = came.1
raw_within r r2 (Some TooLong) input came = omega (arith, came.1)

-- the bytes of one read were within the limit
raw_came : (r r1 r2 : Stream) (read : ℕ) (input bytes : List ℕ) (heard : List Heard) (end : Option InputEnd)
    → RawDecoded r r1 None read input heard → ReadsPortion r1 r2 bytes (raw_limit - read) end
    → MatchOption end (ReadsWell r r2 (input ++ bytes) × (length (input ++ bytes) ≤ raw_limit))
    (λ came. ReadsWithin raw_limit r r2 (input ++ bytes) came)
raw_came r r1 r2 read input bytes heard end due =
    read_more r r1 r2 input bytes (raw_limit - read) raw_limit end due.came.0 (omega (arith, due.came.1, due.count))

-- no more was read than the limit allows
pub raw_few : (r r1 r2 w w1 : Stream) (style : Style) (l : Listener) (p : Printer) (read : ℕ) (bytes : List ℕ) (end : Option InputEnd)
    → RawUpTo r r1 None read style l p w w1 → ReadsPortion r1 r2 bytes (raw_limit - read) end → read + length bytes ≤ raw_limit
raw_few r r1 r2 w w1 style l p read bytes end due reads =
    omega (
      arith,
      raw_within r r2 end (due.input ++ bytes) (raw_came r r1 r2 read due.input bytes due.heard end due.decoded reads),
      due.decoded.count,
      length-append due.input bytes,
    )

-- what one read gave is printed, and what was decided before that read was written in time
pub raw_step : (r r1 r2 w w1 w2 : Stream) (style : Style) (old new : Listener) (p q : Printer) (read len : ℕ) (bytes : List ℕ)
    (end : Option InputEnd) → len ≡ length bytes → (due : RawUpTo r r1 None read style old p w w1) → p.page.kept ≡ []
    → p.page.failed ≡ false → ReadsPortion r1 r2 bytes (raw_limit - read) end → length bytes ≤ most_at_once
    → Prints false style w w1 new q (due.heard ++ heard_chars (faultless bytes)) w2 → IsWaiting new
    → (now : RawUpTo r r2 end (read + len) style new q w w2)
    × WroteInTime (IsDecidedText raw_decoding (IsDecidedIn style)) now.input w w2
raw_step r r1 r2 w w1 w2 style old new p q read len bytes end long due quiet unfailed reads few prints =
    printed_step _ _ raw_decoding style old new p q w w1 w2 (due.input ++ bytes) (due.heard ++ heard_chars (faultless bytes)) due quiet
    unfailed
    (record {
      came = raw_came r r1 r2 read due.input bytes due.heard end due.decoded reads;
      count = omega (arith, due.decoded.count, long, length-append due.input bytes);
      raw = rw (due.decoded.raw, map-append, chars_on) refl;
    })
    (λ text decided written. record {
      before = due.input;
      last = bytes;
      split = refl;
      few = few;
      text = text;
      decided = record { heard = due.heard; reads = due.decoded.raw; decided = decided };
      more = [];
      written = rw append-nil written;
    })
    prints

-- a write failed in the text of the bytes read so far
pub raw_stopped : (r r2 w w2 : Stream) (style : Style) (l : Listener) (p : Printer) (end : Option InputEnd) (read : ℕ)
    → (now : RawUpTo r r2 end read style l p w w2) → WroteInTime (IsDecidedText raw_decoding (IsDecidedIn style)) now.input w w2
    → p.page.failed ≡ true → StopsWriting raw_decoding raw_limit (IsTextIn style) (IsDecidedIn style) r r2 w w2
raw_stopped r r2 w w2 style l p end read now =
    stops_printing _ raw_decoding raw_limit r r2 w w2 style l p (ending_of end) now
    (read_to r r2 now.input raw_limit end now.decoded.came) now.decoded.raw

-- a raw input has the fault of its end
raw_has : (end : InputEnd) (input : List ℕ) → HasRaw input (CameTo end) (heard_chars (faultless input)) (fault_of_end end)
raw_has Ended input = HasRaw.all (heard_chars (faultless input)) refl
raw_has ReadFailed input = HasRaw.failure (heard_chars (faultless input)) refl
raw_has TooLong input = HasRaw.limit (heard_chars (faultless input)) refl

-- the fault of the end of a raw input is never bad hex
raw_soon : (end : InputEnd) (input : List ℕ) → StopsSoon 0 input (fault_of_end end)
raw_soon Ended input = tt
raw_soon ReadFailed input = tt
raw_soon TooLong input = tt

-- a raw input was printed up to its end
pub raw_outcome : (r r2 w w1 w2 : Stream) (style : Style) (l : Listener) (p : Printer) (last : Option InputEnd) (end : InputEnd) (read : ℕ)
    (result : Result (Unit {0}) CliFault) → last ≡ Some end → (now : RawUpTo r r2 last read style l p w w1)
    → WroteInTime (IsDecidedText raw_decoding (IsDecidedIn style)) now.input w w1
    → EndsText style w w1 now.heard (fault_of_end end) w2 result → ExplainOutcome style true r r2 w w2 result
raw_outcome r r2 w w1 w2 style l p last end read result is now in_time =
    outcome raw_decoding raw_limit r r2 w w1 w2 style now.input now.heard (fault_of_end end) result
    (raw_ends_with raw_limit (IsTextIn style) (IsDecidedIn style) r r2 w w2)
    (record {
      ending = CameTo end;
      reads = rw is at now.decoded.came;
      has = rw now.decoded.raw (raw_has end now.input);
      decoded = now.decoded.raw;
      soon = raw_soon end now.input;
    })
    in_time

-- a read that did not end the input gave at least one byte, within the limit
pub raw_more : (r1 r2 : Stream) (bytes : List ℕ) (read : ℕ) (end : Option InputEnd) → ReadsPortion r1 r2 bytes (raw_limit - read) end
    → end ≡ None → (0 < length bytes) × (length bytes ≤ raw_limit - read)
raw_more r1 r2 bytes read end reads on = let now = rw on at reads in (some_long bytes now.1, now.2)
