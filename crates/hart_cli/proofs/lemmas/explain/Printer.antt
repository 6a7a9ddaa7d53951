-- Dated sightings that are printed on a page, and the page's text on its way to a writer.
use Rattle.std.proofs.Common.{◌≡◌, ◌∙◌, ◌++◌, ◌∷◌, ℕ, Bool, false, true, List, [], Option, Result, Ok, Err, MatchResult, inl, inr, refl}
use Rattle.std.proofs.Common.{sym}
use Rattle.std.proofs.Common.{ap, append-nil}
use Rattle.std.proofs.KnownBytes.{Appends-nil, Appends-trans}
use Rattle.std.proofs.lemmas.Grind.{flat_map-append}
use Rattle.std.specs.Io.KnownBytes.{Appends}
use Rattle.std.specs.List.{flat_map}
use Rattle.hart_text.specs.Heard.{Heard}
use Rattle.hart_listen.specs.Dated.{Dated}
use Rattle.hart_listen.specs.Listener.{HasTold, IsWaiting}
use Rattle.hart_listen.specs.declared.listener.Listener.{Listener}
use Rattle.hart_listen.proofs.lemmas.Laws.{listeners_tell_all_sightings-all, listeners_tell_all_sightings-decided}
use Rattle.hart_cli.specs.declared.calls.explain.printer.Page.{Page}
use Rattle.hart_cli.specs.declared.calls.explain.printer.Printer.{Printer}
use Rattle.hart_cli.specs.declared.calls.explain.printer.Style.{Style}
use Rattle.hart_cli.specs.declared.fault.CliFault.{CliFault}
use Rattle.hart_cli.specs.declared.stream.Failed.{Failed}
use Rattle.hart_cli.specs.explain.Explanation.{IsDecidedIn, text_of}
use Rattle.hart_cli.specs.explain.Printer.{EndsText, EndsWith, HasTaken, IsBlank, IsKeptUnlessFailed, IsPrinted, Prints, Takes}
use Rattle.hart_cli.specs.stream.Kept.{AddsText}
use Rattle.hart_cli.specs.stream.Stream.{FailsToWrite, Stream, Writes, WritesAll}
use Rattle.hart_cli.proofs.lemmas.Kept.{adds_kept, adds_then}
use Rattle.hart_cli.proofs.lemmas.Writes.{FailsToWrite-longer, FailsToWrite-on, WritesAll-on}

-- THE PAGE
-- a page with no text took none
pub taken_none : (page : Page) (w : Stream) → IsBlank page → HasTaken w w page [] w
taken_none page w blank = record {
  kept = rw (blank.unfailed, blank.quiet) (adds_kept w [] [] [] refl);
  more = [];
  added = Appends-nil _;
}

-- the bytes since any moment were added, if it is this moment
pub taken_since : (start since : Stream) (page : Page) (text : List ℕ) (w : Stream) → HasTaken start since page text w
    → HasTaken start w page text w
taken_since start since page text w h = record { kept = h.kept; more = []; added = Appends-nil _ }

-- a page that is as before took nothing more
pub takes_none : (page : Page) (w : Stream) → Takes page page w w []
takes_none page w start since text h = rw append-nil h

-- text that is kept comes after what was taken before, and is dropped after a failed write
keeps_more : (failed : Bool) (start w : Stream) (kept text more : List ℕ) → IsKeptUnlessFailed failed start w kept text
    → IsKeptUnlessFailed failed start w (kept ++ more) (text ++ more)
keeps_more false start w kept text more h =
    adds_then start w w [] kept (kept ++ more) text more h (adds_kept w kept (kept ++ more) more refl)
keeps_more true start w kept text more h = FailsToWrite-longer start w text more h

pub takes_kept : (a b c : Page) (w w1 : Stream) (more : List ℕ) → Takes a b w w1 [] → c.failed ≡ b.failed → c.kept ≡ b.kept ++ more
    → Takes a c w w1 more
takes_kept a b c w w1 more h failed kept start since text taken =
    let before = rw append-nil at (h start since text taken) in
    record {
      kept = rw (failed, kept) (keeps_more b.failed start w1 b.kept text more before.kept);
      more = before.more;
      added = before.added;
    }

-- a page that had failed took nothing more, and nothing was written
pub takes_dropped : (a b : Page) (w : Stream) → a.failed ≡ true → b.failed ≡ true → Takes a b w w []
takes_dropped a b w old new start since text taken = record {
  kept = rw (new, append-nil text) (rw old at taken.kept);
  more = taken.more;
  added = taken.added;
}

-- the kept text was written, or a write failed in it
writes_kept : {T : Type 0} (failed : Bool) (result : Result T Failed) (start since w w1 : Stream) (kept text more : List ℕ)
    → MatchResult result (λ _. failed ≡ false) (λ _. failed ≡ true) → Writes w w1 kept result
    → IsKeptUnlessFailed false start w kept text → Appends since.bytes w.bytes more
    → IsKeptUnlessFailed failed start w1 [] text × (added : List ℕ) × Appends since.bytes w1.bytes added
writes_kept failed (Ok done) start since w w1 kept text more is wrote h added = (
  rw is (record {
    written = h.written ++ kept;
    wrote = WritesAll-on start w w1 h.written kept h.wrote wrote;
    whole = rw append-nil h.whole;
  }),
  more ++ kept,
  Appends-trans _ _ _ more kept added wrote.0,
)
writes_kept failed (Err fault) start since w w1 kept text more is fails h added = (
  rw is (rw h.whole at (FailsToWrite-on start w w1 h.written kept h.wrote fails)),
  more ++ fails.0.prefix,
  Appends-trans _ _ _ more fails.0.prefix added fails.0.written,
)

pub takes_written : {T : Type 0} (a b : Page) (w w1 : Stream) (result : Result T Failed) → a.failed ≡ false → b.kept ≡ []
    → MatchResult result (λ _. b.failed ≡ false) (λ _. b.failed ≡ true) → Writes w w1 a.kept result → Takes a b w w1 []
takes_written a b w w1 result before quiet is wrote start since text taken =
    let now = writes_kept b.failed result start since w w1 a.kept text taken.more is wrote (rw before at taken.kept) taken.added in
    record { kept = rw (quiet, append-nil text) now.0; more = now.1; added = now.2 }

-- THE SIGHTINGS
-- nothing was heard yet
pub prints_none : (style : Style) (l : Listener) (p : Printer) (w : Stream) → HasTold false l [] [] → IsBlank p.page → p.style ≡ style
    → Prints false style w w l p [] w
prints_none style l p w told blank is = ([], told, record { style_is = is; taken = taken_none p.page w blank })

-- one more sighting was printed
pub printed_more : (p q : Printer) (w w1 : Stream) (d : Dated) → q.style ≡ p.style → Takes p.page q.page w w1 (text_of p.style d)
    → (style : Style) (start since : Stream) (list : List Dated) → IsPrinted style start since p w list
    → IsPrinted style start since q w1 (list ++ d ∷ [])
printed_more p q w w1 d same takes style start since list h =
    let text : flat_map (text_of style) list ++ text_of p.style d ≡ flat_map (text_of style) (list ++ d ∷ []) =
    ap (λ kind. flat_map (text_of style) list ++ text_of kind d) h.style_is
    ∙ (ap (λ xs. flat_map (text_of style) list ++ xs) (sym (append-nil (text_of style d)))
    ∙ sym (flat_map-append (text_of style) list (d ∷ []))) in
    record { style_is = same ∙ h.style_is; taken = rw text at (takes start since _ h.taken) }

-- the page wrote what it kept
pub prints_page : (ended : Bool) (style : Style) (start since : Stream) (l : Listener) (p q : Printer) (heard : List Heard) (w w1 : Stream)
    → q.style ≡ p.style → Takes p.page q.page w w1 [] → Prints ended style start since l p heard w
    → Prints ended style start since l q heard w1
prints_page ended style start since l p q heard w w1 same takes (list, told, h) =
    (list, told, record { style_is = same ∙ h.style_is; taken = rw append-nil at (takes start since _ h.taken) })

-- the text stands from any moment on
pub prints_since : (style : Style) (start since : Stream) (l : Listener) (p : Printer) (heard : List Heard) (w : Stream)
    → Prints false style start since l p heard w → Prints false style start w l p heard w
prints_since style start since l p heard w (list, told, h) =
    (list, told, record { style_is = h.style_is; taken = taken_since start since p.page _ w h.taken })

-- what a waiting listener told has the decided text
pub prints_decided : (style : Style) (start since : Stream) (l : Listener) (p : Printer) (heard : List Heard) (w : Stream)
    → (s : Prints false style start since l p heard w) → IsWaiting l → IsDecidedIn style heard (flat_map (text_of style) s.0)
prints_decided style start since l p heard w (list, told, h) waiting =
    let (seen, decided, is) = listeners_tell_all_sightings-decided l heard list told waiting in
    record { seen = seen; decided = decided; text_is = ap (flat_map (text_of style)) is }

-- what a page took was written if the page keeps nothing and no write failed
pub took_all : (failed : Bool) (start w : Stream) (kept text : List ℕ) → kept ≡ [] → failed ≡ false
    → IsKeptUnlessFailed failed start w kept text → WritesAll start w text
took_all failed start w kept text quiet unfailed h =
    let adds : AddsText start w [] [] text = rw (unfailed, quiet) at h in
    let whole : adds.written ≡ text = sym (append-nil adds.written) ∙ adds.whole in rw whole at adds.wrote

-- what a page took was written, or a write failed in it
ends_with : {T : Type 0} (failed : Bool) (fault : Option CliFault) (result : Result T CliFault) (start w : Stream) (kept text : List ℕ)
    → kept ≡ [] → EndsWith fault (failed ≡ false) (failed ≡ true) result → IsKeptUnlessFailed failed start w kept text
    → EndsWith fault (WritesAll start w text) (FailsToWrite start w text) result
ends_with failed fault result start w kept text quiet (inl (is, end)) h = inl (took_all failed start w kept text quiet is h, end)
ends_with failed fault result start w kept text quiet (inr (is, end)) h = inr (rw is at h, end)

-- the rest was printed and written
pub prints_end : {T : Type 0} (style : Style) (start since : Stream) (l : Listener) (p : Printer) (heard : List Heard)
    (fault : Option CliFault) (w : Stream) (result : Result T CliFault) → Prints true style start since l p heard w → l.held ≡ []
    → p.page.kept ≡ [] → EndsWith fault (p.page.failed ≡ false) (p.page.failed ≡ true) result
    → EndsText style start since heard fault w result
prints_end style start since l p heard fault w result (list, told, h) none quiet end =
    let (seen, are, is) = listeners_tell_all_sightings-all l heard list told none in
    record {
      text = flat_map (text_of style) list;
      is_text = record { seen = seen; are_sightings = are; text_is = ap (flat_map (text_of style)) is };
      ends = ends_with p.page.failed fault result start w p.page.kept _ quiet end h.taken.kept;
      more = h.taken.more;
      added = h.taken.added;
    }
