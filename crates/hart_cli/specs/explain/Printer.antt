-- Dated sightings that are printed on a page, and the page's text on its way to a writer. Only private calls use these definitions
-- (implementation choice).
use Rattle.std.specs.Prelude.{◌≡◌, ◌⊎◌, ◌++◌, ℕ, Bool, true, false, List, [], Option, None, Some, Result, MatchResult}
use Rattle.std.specs.Io.KnownBytes.{Appends}
use Rattle.std.specs.List.{flat_map}
use Rattle.hart_text.specs.Heard.{Heard}
use Rattle.hart_listen.specs.Dated.{Dated}
use Rattle.hart_listen.specs.Listener.{HasTold}
use Rattle.hart_listen.specs.Teller.{Moment, ToldBetween}
use Rattle.hart_listen.specs.declared.listener.Listener.{Listener}
use Rattle.hart_cli.specs.declared.calls.explain.printer.Page.{Page}
use Rattle.hart_cli.specs.declared.calls.explain.printer.Printer.{Printer}
use Rattle.hart_cli.specs.declared.calls.explain.printer.Style.{Style}
use Rattle.hart_cli.specs.declared.fault.CliFault.{CliFault}
use Rattle.hart_cli.specs.declared.fault.CliFault.TheVariants.{Write}
use Rattle.hart_cli.specs.explain.Explanation.{IsTextIn, text_of}
use Rattle.hart_cli.specs.stream.Kept.{AddsText}
use Rattle.hart_cli.specs.stream.Stream.{FailsToWrite, Stream, WritesAll}

-- No text is kept, and no write failed.
pub record IsBlank (page : Page) : Type 0 where
  pub quiet : page.kept ≡ []
  pub unfailed : page.failed ≡ false

-- What became of a text, from the stream `start` on. Either a first part of it was written, and the rest is kept. Or a write failed after a
-- prefix of the text was written.
abbrev pub IsKeptUnlessFailed : Bool → Stream → Stream → List ℕ → List ℕ → Type 0
IsKeptUnlessFailed false start writer kept text = AddsText start writer [] kept text
IsKeptUnlessFailed true start writer kept text = FailsToWrite start writer text

-- A page took this text, from the stream `start` on. Since the stream was `since`, bytes were only added to it.
pub record HasTaken (start since : Stream) (page : Page) (text : List ℕ) (writer : Stream) : Type 0 where
  pub kept : IsKeptUnlessFailed page.failed start writer page.kept text
  pub more : List ℕ
  pub added : Appends since.bytes writer.bytes more

-- A page took more text, whatever it took before.
abbrev pub Takes : Page → Page → Stream → Stream → List ℕ → Type 0
Takes old new writer writer_after more = (start since : Stream) (text : List ℕ) → HasTaken start since old text writer
    → HasTaken start since new (text ++ more) writer_after

-- A printer that kept its style took the text of these dated sightings, from the stream `start` on. Since the stream was `since`, bytes
-- were only added to it.
pub record IsPrinted (style : Style) (start since : Stream) (printer : Printer) (writer : Stream) (list : List Dated) : Type 0 where
  pub style_is : printer.style ≡ style
  pub taken : HasTaken start since printer.page (flat_map (text_of style) list) writer

-- A printer took the text of these dated sightings, from the moment `start` on. Since the moment `since`, bytes were only added to the
-- stream. `stream` gives the stream of a writer.
abbrev pub PrintedBetween : {W : Type 0} → (W → Stream) → ToldBetween Printer W
PrintedBetween stream start since now list =
    IsPrinted start.teller.style (stream start.writer) (stream since.writer) now.teller (stream now.writer) list

-- A listener heard these things, and a printer took the text of what the listener told of them. If `ended` is true, nothing comes after the
-- last stretch.
abbrev pub Prints : (ended : Bool) → Style → Stream → Stream → Listener → Printer → List Heard → Stream → Type 0
Prints ended style start since listener printer heard writer =
    (list : List Dated) × HasTold ended listener heard list × IsPrinted style start since printer writer list

-- The whole text was written, and the result is the fault of the input, if it has one. Or a write failed in the text.
abbrev pub EndsWith : {T : Type 0} → Option CliFault → (Wrote Fails : Type 0) → Result T CliFault → Type 0
EndsWith fault Wrote Fails result = (Wrote × MatchResult result (λ _. fault ≡ None) (λ it. fault ≡ Some it))
    ⊎ (Fails × MatchResult result (λ _. ⊥) (λ it. it ≡ Write))

-- The whole text of what was heard was written, or a write failed in it.
pub record EndsText {T : Type 0} (style : Style) (start since : Stream) (heard : List Heard) (fault : Option CliFault) (writer : Stream)
    (result : Result T CliFault) : Type 0 where
  pub text : List ℕ
  pub is_text : IsTextIn style heard text
  pub ends : EndsWith fault (WritesAll start writer text) (FailsToWrite start writer text) result
  pub more : List ℕ
  pub added : Appends since.bytes writer.bytes more

-- The rest of what was heard was printed and written, whatever was heard before.
abbrev pub Ends : {T W : Type 0} → (W → Stream) → Listener → Printer → Option CliFault → W → W → Result T CliFault → Type 0
Ends {T} {W} stream listener printer fault writer writer_after result = (start since : Moment Printer W) (heard : List Heard)
    → Prints false start.teller.style (stream start.writer) (stream since.writer) listener printer heard (stream writer)
    → EndsText start.teller.style (stream start.writer) (stream since.writer) heard fault (stream writer_after) result
