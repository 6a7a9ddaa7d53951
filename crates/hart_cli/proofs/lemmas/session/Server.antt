-- A server that serves the lines of a text, part by part.
use Rattle.std.proofs.Common.{◌≡◌, ◌≤◌, ◌==◌, ℕ, false, List, [], ◌∷◌, ◌++◌, length, map, take, Result, Err, refl, sym, ◌∙◌, ap}
use Rattle.std.proofs.Common.{append_assoc, append-nil, arith}
use Rattle.std.proofs.lemmas.Grind.{common_steps}
use Rattle.std.proofs.lemmas.List.{map-append, take-append-le}
use Rattle.std.proofs.lemmas.List.Elements.{All-append}
use Rattle.std.specs.Str.Lines.{strip_carriage_return}
use Rattle.hart_cli.specs.declared.stream.Failed.{Failed}
use Rattle.hart_station.specs.Station.{Manner, first, line_read, nothing}
use Rattle.hart_cli.specs.session.Server.{BeginsWithPart, FailsInParts, HasNoFeed, Keeps, ServerState, ServesPart, ServesParts, ServesText}
use Rattle.hart_cli.specs.session.Server.{ServesWhole, most_kept}
use Rattle.hart_cli.specs.stream.Kept.{AddsText}
use Rattle.hart_cli.specs.stream.Stream.{FailsToWrite, Stream, WritesAll}
use Rattle.hart_cli.proofs.lemmas.Kept.{adds_kept, adds_then, fails_then}
use Rattle.hart_cli.proofs.lemmas.Writes.{FailsToWrite-on, WritesAll-on}
use Rattle.hart_cli.proofs.lemmas.session.Cuts.{cut_on, cut_part, cut_rest, every_cut}
use Rattle.hart_cli.proofs.lemmas.session.Lines.{reads_kept}
use Rattle.hart_cli.proofs.lemmas.session.Served.{Serves-on}

-- cutting the first of two joined texts to `most` bytes does not change the first `most` bytes of both
take_more : (most : ℕ) (xs ys : List ℕ) → take most (take most xs ++ ys) ≡ take most (xs ++ ys)
take_more most xs ys = grind (arith, common_steps, take-append-le)

-- a station that serves the line of a part serves the list of that one part
one_part : {S : Type 0} (M : Manner S) (station after : S) (part said : List ℕ)
    → M station (line_read (strip_carriage_return part)) after said → ServesParts M station (part ∷ []) after said
one_part M station after part said h =
    rw (← append-nil said) (first station after after (strip_carriage_return part) [] said [] h (nothing after))

-- if some parts were served and then others, all of them were served
pub parts_on : {S : Type 0} (M : Manner S) (a b c : S) (xs ys : List (List ℕ)) (s t : List ℕ) → ServesParts M a xs b s
    → ServesParts M b ys c t → ServesParts M a (xs ++ ys) c (s ++ t)
parts_on M a b c xs ys s t h k =
    rw map-append (Serves-on M a b c (map strip_carriage_return xs) (map strip_carriage_return ys) s t h k)

-- at first, nothing is read and nothing is served
serves_none : {S : Type 0} (M : Manner S) (server : ServerState S) (part : List ℕ) (w : Stream) → HasNoFeed part → Keeps server part
    → ServesWhole M server server (part ++ []) w w
serves_none M server part w free keeps = record {
  parts = [];
  rest = part;
  cut = rw append-nil (cut_rest part free);
  keeps = keeps;
  said = [];
  serves = nothing server.station;
  adds = adds_kept w server.kept server.kept [] (sym (append-nil server.kept));
}

-- after one more part is read and served, the text up to its end is served
serves_next : {S : Type 0} (M : Manner S) (old now kept next : ServerState S) (text piece : List ℕ) (w w1 w2 : Stream)
    → ServesWhole M old now text w w1 → HasNoFeed piece → kept.station ≡ now.station → kept.part ≡ take most_kept (now.part ++ piece)
    → AddsText w1 w2 now.kept kept.kept [] → ServesPart M kept next → ServesWhole M old next (text ++ (piece ++ 10 ∷ [])) w w2
serves_next M old now kept next text piece w w1 w2 h free station bytes adds part =
    let whole = h.rest ++ piece in
    let is : kept.part ≡ take most_kept whole =
    bytes ∙ (ap (λ xs. take most_kept (xs ++ piece)) h.keeps ∙ take_more most_kept h.rest piece) in
    let served : M now.station (line_read (strip_carriage_return whole)) next.station part.said =
    rw (is, reads_kept whole, station) at part.serves in
    let freed : HasNoFeed whole = All-append (λ (byte : ℕ). (byte == 10) ≡ false) h.rest piece h.cut.open_end free in
    let told : AddsText w1 w2 now.kept next.kept ([] ++ part.said) =
    adds_then w1 w2 w2 now.kept kept.kept next.kept [] part.said adds (adds_kept w2 kept.kept next.kept part.said part.kept) in
    record {
      parts = h.parts ++ whole ∷ [];
      rest = [];
      cut = cut_on text (piece ++ 10 ∷ []) h.parts h.rest (whole ∷ []) [] h.cut (rw append_assoc at (cut_part whole freed));
      keeps = part.begins;
      said = h.said ++ part.said;
      serves = parts_on M old.station now.station next.station h.parts (whole ∷ []) h.said part.said h.serves
          (one_part M now.station next.station whole part.said served);
      adds = adds_then w w1 w2 old.kept now.kept next.kept h.said part.said h.adds told;
    }

-- if a write failed before one more part was served, serving the text failed
fails_next : {S : Type 0} (M : Manner S) (old now : ServerState S) (text more : List ℕ) (w w1 w2 : Stream) → ServesWhole M old now text w w1
    → FailsToWrite w1 w2 (now.kept ++ []) → FailsInParts M old.station old.kept (text ++ more) w w2
fails_next M old now text more w w1 w2 h fails =
    let later = every_cut (h.rest ++ more) in
    record {
      parts = h.parts;
      later = later.parts;
      rest = later.rest;
      cut = cut_on text more h.parts h.rest later.parts later.rest h.cut later.cut;
      after = now.station;
      said = h.said;
      serves = h.serves;
      fails = rw append-nil at (fails_then w w1 w2 old.kept now.kept h.said [] h.adds fails);
    }

-- after the rest, which has no line feed, is read, the text is served
serves_last : {S : Type 0} (M : Manner S) (old now kept : ServerState S) (text piece : List ℕ) (w w1 : Stream)
    → ServesWhole M old now text w w1 → HasNoFeed piece → kept.station ≡ now.station → kept.kept ≡ now.kept
    → kept.part ≡ take most_kept (now.part ++ piece) → ServesWhole M old kept (text ++ piece) w w1
serves_last M old now kept text piece w w1 h free station lines bytes =
    let whole = h.rest ++ piece in
    let freed : HasNoFeed whole = All-append (λ (byte : ℕ). (byte == 10) ≡ false) h.rest piece h.cut.open_end free in
    record {
      parts = h.parts ++ [];
      rest = whole;
      cut = cut_on text piece h.parts h.rest [] whole h.cut (cut_rest whole freed);
      keeps = bytes ∙ (ap (λ xs. take most_kept (xs ++ piece)) h.keeps ∙ take_more most_kept h.rest piece);
      said = h.said;
      serves = rw (append-nil, station) h.serves;
      adds = rw lines h.adds;
    }

-- writing the kept answers does not change what was served
pub serves_written : {S : Type 0} (M : Manner S) (old now quiet : ServerState S) (text : List ℕ) (w w1 w2 : Stream) → old.kept ≡ []
    → ServesWhole M old now text w w1 → WritesAll w1 w2 now.kept → quiet.station ≡ now.station → quiet.part ≡ now.part
    → quiet.kept ≡ [] → ServesWhole M old quiet text w w2
serves_written M old now quiet text w w1 w2 silent h wrote station part none_kept =
    let all = WritesAll-on w w1 w2 h.adds.written now.kept h.adds.wrote wrote in
    let whole : h.adds.written ++ now.kept ≡ h.said = h.adds.whole ∙ ap (λ xs. xs ++ h.said) silent in
    record {
      parts = h.parts;
      rest = h.rest;
      cut = h.cut;
      keeps = part ∙ h.keeps;
      said = h.said;
      serves = rw station h.serves;
      adds = record { written = h.said; wrote = rw whole at all; whole = rw (none_kept, silent) (append-nil h.said) };
    }

-- if a write failed within the kept answers, serving the text failed
pub fails_written : {S : Type 0} (M : Manner S) (old now : ServerState S) (text : List ℕ) (w w1 w2 : Stream) → old.kept ≡ []
    → ServesWhole M old now text w w1 → FailsToWrite w1 w2 now.kept → FailsInParts M old.station old.kept text w w2
fails_written M old now text w w1 w2 silent h fails =
    let all = FailsToWrite-on w w1 w2 h.adds.written now.kept h.adds.wrote fails in
    record {
      parts = h.parts;
      later = [];
      rest = h.rest;
      cut = rw append-nil h.cut;
      after = now.station;
      said = h.said;
      serves = h.serves;
      fails = rw h.adds.whole at all;
    }

-- the whole lines of a first part of a text were served
pub record ServesFront {S : Type 0} (M : Manner S) (old now : ServerState S) (part more rest : List ℕ) (w w1 : Stream) : Type 0 where
  pub done : List ℕ
  pub split : more ≡ done ++ rest
  pub whole : ServesWhole M old now (part ++ done) w w1

-- at first, nothing of a text is served
pub front_none : {S : Type 0} (M : Manner S) (server : ServerState S) (part more : List ℕ) (w : Stream) → HasNoFeed part
    → Keeps server part → ServesFront M server server part more more w w
front_none M server part more w free keeps = record { done = []; split = refl; whole = serves_none M server part w free keeps }

-- after one more part is served, the text up to its end is served
front_next : {S : Type 0} (M : Manner S) {kept next : ServerState S} (serves : ServesPart M kept next) (old now : ServerState S)
    (part more rest piece after : List ℕ) (w w1 w2 : Stream) → ServesFront M old now part more rest w w1 → BeginsWithPart rest piece after
    → kept.station ≡ now.station → kept.part ≡ take most_kept (now.part ++ piece) → AddsText w1 w2 now.kept kept.kept []
    → ServesFront M old next part more after w w2
front_next M {kept} {next} serves old now part more rest piece after w w1 w2 h begins station bytes adds = record {
  done = h.done ++ (piece ++ 10 ∷ []);
  split = h.split ∙ (ap (λ xs. h.done ++ xs) begins.feed ∙ simp append_assoc refl);
  whole = rw append_assoc at
      (serves_next M old now kept next (part ++ h.done) piece w w1 w2 h.whole begins.free station bytes adds serves);
}

-- after the rest of a text, which has no line feed, is read, the whole text is served
front_all : {S : Type 0} (M : Manner S) (old now kept : ServerState S) (part more rest : List ℕ) (w w1 : Stream)
    → ServesFront M old now part more rest w w1 → HasNoFeed rest → kept.station ≡ now.station → kept.kept ≡ now.kept
    → kept.part ≡ take most_kept (now.part ++ rest) → ServesWhole M old kept (part ++ more) w w1
front_all M old now kept part more rest w w1 h free station lines bytes =
    rw (h.split, ← append_assoc) (serves_last M old now kept (part ++ h.done) rest w w1 h.whole free station lines bytes)

-- like `front_next`, for a server that is equal to another one
pub front_next_at : {S : Type 0} (M : Manner S) {kept next : ServerState S} (serves : ServesPart M kept next) (old now at : ServerState S)
    (same : at ≡ now) (part more rest piece after : List ℕ) (w w1 w2 : Stream) → ServesFront M old now part more rest w w1
    → BeginsWithPart rest piece after → kept.station ≡ at.station → kept.part ≡ take most_kept (at.part ++ piece)
    → AddsText w1 w2 at.kept kept.kept [] → ServesFront M old next part more after w w2
front_next_at M {kept} {next} serves old now at same part more rest piece after w w1 w2 h begins station bytes adds =
    front_next M serves old at part more rest piece after w w1 w2 (rw (← same) at h) begins station bytes adds

pub front_all_at : {S : Type 0} (M : Manner S) (old now at kept : ServerState S) (same : at ≡ now) (part more rest : List ℕ) (w w1 : Stream)
    → ServesFront M old now part more rest w w1 → HasNoFeed rest → kept.station ≡ at.station → kept.kept ≡ at.kept
    → kept.part ≡ take most_kept (at.part ++ rest) → ServesWhole M old kept (part ++ more) w w1
front_all_at M old now at kept same part more rest w w1 h free station lines bytes =
    front_all M old at kept part more rest w w1 (rw (← same) at h) free station lines bytes

-- if a write failed before one more part was served, serving the text failed
pub front_fails : {S : Type 0} (M : Manner S) (old now : ServerState S) (part more rest : List ℕ) (w w1 w2 : Stream)
    → ServesFront M old now part more rest w w1 → FailsToWrite w1 w2 (now.kept ++ [])
    → FailsInParts M old.station old.kept (part ++ more) w w2
front_fails M old now part more rest w w1 w2 h fails =
    rw (h.split, ← append_assoc) (fails_next M old now (part ++ h.done) rest w w1 w2 h.whole fails)

-- if a call returns an error after a failed write, `ServesText` is true of it
pub text_fails : {S T : Type 0} (M : Manner S) (old new : ServerState S) (text : List ℕ) (w w1 : Stream) (failed : Failed)
    (result : Result T Failed) → result ≡ Err failed → FailsInParts M old.station old.kept text w w1
    → ServesText M old new text w w1 result
text_fails M old new text w w1 failed result is fails = rw is fails

-- taking `most` bytes of a text gives at most `most` bytes
pub take_few : (most : ℕ) (xs ys : List ℕ) → ys ≡ take most xs → length ys ≤ most
take_few most xs ys is = grind (arith, common_steps)

-- equal servers have equal stations
pub station_of : {S : Type 0} {a b : ServerState S} → a ≡ b → a.station ≡ b.station
station_of {S} {a} {b} same = ap (λ (s : ServerState S). s.station) same

pub part_of : {S : Type 0} {a b : ServerState S} → a ≡ b → a.part ≡ b.part
part_of {S} {a} {b} same = ap (λ (s : ServerState S). s.part) same

pub kept_of : {S : Type 0} {a b : ServerState S} → a ≡ b → a.kept ≡ b.kept
kept_of {S} {a} {b} same = ap (λ (s : ServerState S). s.kept) same
