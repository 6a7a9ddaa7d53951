-- An input that is served while it is read.
use Rattle.std.proofs.Common.{◌≡◌, ◌≤◌, ◌+◌, ◌-◌, ℕ, List, [], ◌++◌, length, map, Option, None, Some, refl, append_assoc, append-nil, arith}
use Rattle.std.proofs.KnownBytes.{Appends-trans}
use Rattle.std.proofs.lemmas.Grind.{common_steps}
use Rattle.std.proofs.lemmas.List.{map-append}
use Rattle.std.specs.Io.KnownBytes.{Appends}
use Rattle.std.specs.Str.Lines.{strip_carriage_return}
use Rattle.hart_cli.specs.declared.input.InputEnd.{InputEnd}
use Rattle.hart_cli.specs.declared.input.InputEnd.TheVariants.{Ended}
use Rattle.hart_cli.specs.input.Input.{CameTo, Left, ReadsPortion, ReadsWell, ending_of, most_at_once, stream_limit}
use Rattle.hart_cli.specs.input.LiveInput.{WroteInTime}
use Rattle.hart_cli.specs.session.Session.{IsServedSoFar, ServesTo, StopsSaying, last_lines}
use Rattle.hart_station.specs.Station.{Manner, Serves}
use Rattle.hart_cli.specs.session.Server.{FailsInParts, IsCut, Keeps, ServerState, ServesAll, ServesParts, ServesWhole}
use Rattle.hart_cli.specs.stream.Stream.{FailsToWrite, Stream, WritesAll}
use Rattle.hart_cli.proofs.lemmas.Writes.{FailsToWrite-on, WritesAll-on}
use Rattle.hart_cli.proofs.lemmas.input.Decoded.{read_more, read_to}
use Rattle.hart_cli.proofs.lemmas.session.Cuts.{cut_has_lines, cut_on}
use Rattle.hart_cli.proofs.lemmas.session.Served.{Serves-on}
use Rattle.hart_cli.proofs.lemmas.session.Server.{parts_on}

-- an input was read so far, and the station's answers to all its whole lines were written
pub record ServedUpTo {S : Type 0} (M : Manner S) (station : S) (server : ServerState S) (room : ℕ)
    (old new writer writer_after : Stream) : Type 0 where
  pub input : List ℕ
  pub read : ReadsWell old new input
  pub left : length input + room ≡ stream_limit
  pub parts : List (List ℕ)
  pub rest : List ℕ
  pub cut : IsCut input parts rest
  pub keeps : Keeps server rest
  pub said : List ℕ
  pub serves : ServesParts M station parts server.station said
  pub wrote : WritesAll writer writer_after said

-- if the last read was served and the input ended with it, the whole input was served
pub served_end : {S : Type 0} (M : Manner S) (station : S) (now next : ServerState S) (room : ℕ) (r r1 r2 w w1 w2 : Stream)
    (bytes : List ℕ) (end : InputEnd)
    → (h : ServedUpTo M station now room r r1 w w1) → ReadsPortion r1 r2 bytes room (Some end) → now.kept ≡ [] → next.kept ≡ []
    → ServesWhole M now next (h.rest ++ bytes) w1 w2 → ServesAll M station next end r r2 w w2
served_end M station now next room r r1 r2 w w1 w2 bytes end h more was quiet k =
    let same : k.adds.written ≡ k.said = grind (arith, append-nil) in
    record {
      input = h.input ++ bytes;
      reads = read_more r r1 r2 h.input bytes room stream_limit (Some end) h.read h.left more;
      parts = h.parts ++ k.parts;
      rest = k.rest;
      cut = cut_on h.input bytes h.parts h.rest k.parts k.rest h.cut k.cut;
      keeps = k.keeps;
      quiet = quiet;
      said = h.said ++ k.said;
      serves = parts_on M station now.station next.station h.parts k.parts h.said k.said h.serves k.serves;
      wrote = WritesAll-on w w1 w2 h.said k.said h.wrote (rw same at k.adds.wrote);
    }

-- if one more read was served and the input may go on, the input was served so far
pub served_on : {S : Type 0} (M : Manner S) (station : S) (now next : ServerState S) (room : ℕ) (r r1 r2 w w1 w2 : Stream) (bytes : List ℕ)
    → (h : ServedUpTo M station now room r r1 w w1) → ReadsPortion r1 r2 bytes room None → now.kept ≡ [] → next.kept ≡ []
    → ServesWhole M now next (h.rest ++ bytes) w1 w2 → ServedUpTo M station next (room - length bytes) r r2 w w2
served_on M station now next room r r1 r2 w w1 w2 bytes h more was quiet k =
    let same : k.adds.written ≡ k.said = grind (arith, append-nil) in
    record {
      input = h.input ++ bytes;
      read = (read_more r r1 r2 h.input bytes room stream_limit None h.read h.left more).0;
      left = grind (arith, common_steps);
      parts = h.parts ++ k.parts;
      rest = k.rest;
      cut = cut_on h.input bytes h.parts h.rest k.parts k.rest h.cut k.cut;
      keeps = k.keeps;
      said = h.said ++ k.said;
      serves = parts_on M station now.station next.station h.parts k.parts h.said k.said h.serves k.serves;
      wrote = WritesAll-on w w1 w2 h.said k.said h.wrote (rw same at k.adds.wrote);
    }

-- no answer was late: those to the whole lines before the last read had been written
said_in_time : {S : Type 0} (M : Manner S) (station after : S) (input bytes : List ℕ) (parts : List (List ℕ)) (rest said : List ℕ)
    (w w1 w2 : Stream)
    → IsCut input parts rest → ServesParts M station parts after said → WritesAll w w1 said → length bytes ≤ most_at_once
    → (more : List ℕ) → Appends w1.bytes w2.bytes more → WroteInTime (IsServedSoFar M station) (input ++ bytes) w w2
said_in_time M station after input bytes parts rest said w w1 w2 cut serves wrote few more written = record {
  before = input;
  last = bytes;
  split = refl;
  few = few;
  text = said;
  decided = record {
    lines = map strip_carriage_return parts ++ [];
    has_lines = cut_has_lines input Left parts rest cut;
    after = after;
    serves = rw append-nil serves;
  };
  more = more;
  written = Appends-trans _ _ _ said more wrote.0 written;
}

-- if a write failed within the answers of one read, the call has stopped as `StopsSaying` says
pub stops_saying : {S : Type 0} (M : Manner S) (station : S) (now : ServerState S) (room : ℕ) (r r1 r2 w w1 w2 : Stream)
    (bytes : List ℕ) (end : Option InputEnd)
    → (h : ServedUpTo M station now room r r1 w w1) → ReadsPortion r1 r2 bytes room end → length bytes ≤ most_at_once → now.kept ≡ []
    → FailsInParts M now.station now.kept (h.rest ++ bytes) w1 w2 → StopsSaying M station r r2 w w2
stops_saying M station now room r r1 r2 w w1 w2 bytes end h more few was k =
    let fails : FailsToWrite w1 w2 k.said = rw was at k.fails in
    let strip = strip_carriage_return in
    let ends = last_lines (ending_of end) (strip k.rest) in
    let cut = cut_on h.input bytes h.parts h.rest (k.parts ++ k.later) k.rest h.cut k.cut in
    let order : map strip (h.parts ++ (k.parts ++ k.later)) ++ ends ≡ map strip (h.parts ++ k.parts) ++ (map strip k.later ++ ends) =
    rw (map-append, map-append, map-append) (simp append_assoc refl) in
    record {
      input = h.input ++ bytes;
      ending = ending_of end;
      reads = read_to r r2 (h.input ++ bytes) stream_limit end (read_more r r1 r2 h.input bytes room stream_limit end h.read h.left more);
      first = map strip (h.parts ++ k.parts);
      later = map strip k.later ++ ends;
      has_lines = rw order at (cut_has_lines (h.input ++ bytes) (ending_of end) (h.parts ++ (k.parts ++ k.later)) k.rest cut);
      after = k.after;
      text = h.said ++ k.said;
      serves = parts_on M station now.station k.after h.parts k.parts h.said k.said h.serves k.serves;
      fails = FailsToWrite-on w w1 w2 h.said k.said h.wrote fails;
      in_time = said_in_time M station now.station h.input bytes h.parts h.rest h.said w w1 w2 h.cut h.serves h.wrote few
          fails.0.prefix fails.0.written;
    }

-- if the last line was served too, the call has served its whole input
pub serves_to : {S : Type 0} (M : Manner S) (station after : S) (server : ServerState S) (r r1 w w1 w2 : Stream) (said : List ℕ)
    → (h : ServesAll M station server Ended r r1 w w1)
    → Serves M server.station (last_lines (CameTo Ended) (strip_carriage_return h.rest)) after said
    → WritesAll w1 w2 said → ServesTo M station (CameTo Ended) r r1 w w2
serves_to M station after server r r1 w w1 w2 said h serves wrote =
    let lines = map strip_carriage_return h.parts in
    let last = last_lines (CameTo Ended) (strip_carriage_return h.rest) in
    record {
      input = h.input;
      reads = h.reads;
      text = h.said ++ said;
      is_served = record {
        lines = lines ++ last;
        has_lines = cut_has_lines h.input (CameTo Ended) h.parts h.rest h.cut;
        after = after;
        serves = Serves-on M station server.station after lines last h.said said h.serves serves;
      };
      wrote = WritesAll-on w w1 w2 h.said said h.wrote wrote;
    }

-- if a write failed within the answer to the last line, the call has stopped as `StopsSaying` says
pub stops_at_last : {S : Type 0} (M : Manner S) (station after : S) (server : ServerState S) (r r1 w w1 w2 : Stream) (said : List ℕ)
    → (h : ServesAll M station server Ended r r1 w w1)
    → Serves M server.station (last_lines (CameTo Ended) (strip_carriage_return h.rest)) after said
    → FailsToWrite w1 w2 said → StopsSaying M station r r1 w w2
stops_at_last M station after server r r1 w w1 w2 said h serves fails =
    let lines = map strip_carriage_return h.parts in
    let last = last_lines (CameTo Ended) (strip_carriage_return h.rest) in
    record {
      input = h.input;
      ending = CameTo Ended;
      reads = h.reads;
      first = lines ++ last;
      later = [];
      has_lines = rw append-nil (cut_has_lines h.input (CameTo Ended) h.parts h.rest h.cut);
      after = after;
      text = h.said ++ said;
      serves = Serves-on M station server.station after lines last h.said said h.serves serves;
      fails = FailsToWrite-on w w1 w2 h.said said h.wrote fails;
      in_time = rw append-nil at (said_in_time M station server.station h.input [] h.parts h.rest h.said w w1 w2 h.cut h.serves h.wrote
          (omega arith) fails.0.prefix fails.0.written);
    }

-- if the last line does not count, the whole lines are all that is served
pub serves_whole : {S : Type 0} (M : Manner S) (station : S) (server : ServerState S) (end : InputEnd) (r r1 w w1 : Stream)
    → (h : ServesAll M station server end r r1 w w1) → last_lines (CameTo end) (strip_carriage_return h.rest) ≡ []
    → ServesTo M station (CameTo end) r r1 w w1
serves_whole M station server end r r1 w w1 h none_last = record {
  input = h.input;
  reads = h.reads;
  text = h.said;
  is_served = record {
    lines = map strip_carriage_return h.parts ++ last_lines (CameTo end) (strip_carriage_return h.rest);
    has_lines = cut_has_lines h.input (CameTo end) h.parts h.rest h.cut;
    after = server.station;
    serves = rw (none_last, append-nil) h.serves;
  };
  wrote = h.wrote;
}
