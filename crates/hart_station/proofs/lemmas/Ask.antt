-- What lines ask of a master.
use Rattle.std.proofs.Common.{◌≡◌, ℕ, List, [], false, Option, None, Some, Result, Ok, Err, arith, refl, sym}
use Rattle.hart_values.specs.declared.master_id.MasterId.{MasterId}
use Rattle.hart_frame.specs.declared.wire.kind.FrameKind.TheVariants.{Stx}
use Rattle.hart_frame.specs.wire.FrameParts.{FrameParts}
use Rattle.hart_master.specs.FrameMaster.{IsRequestFrame}
use Rattle.hart_line.specs.script.Words.{Finds, decimal_of}
use Rattle.hart_station.specs.declared.ask.Ask.{Ask}
use Rattle.hart_station.specs.declared.ask.Ask.TheVariants as forms
use Rattle.hart_station.specs.declared.ask.Verb.{Verb}
use Rattle.hart_station.specs.declared.ask.Verb.TheVariants as verbs
use Rattle.hart_station.specs.declared.fault.TextFault.{TextFault}
use Rattle.hart_station.specs.Encode.{WordsOutcome}
use Rattle.hart_station.specs.Ask.{AsksBy, ReadsAsk, ReadsWords, known, message_words, readable, request_words, submitted, ticked}
use Rattle.hart_station.specs.MasterLines.{IsProper}
use Rattle.hart_station.specs.LineWords.{word_at}
use Rattle.hart_station.specs.Request.{ReadOutcome}

-- an STX with burst bit 0 and without expansion bytes is a request frame
is_request : (frame : FrameParts) → frame.kind ≡ Stx → frame.burst ≡ false → frame.expansion ≡ [] → IsRequestFrame frame
is_request frame kind burst expansion = grind arith

-- a request that is read from words is a request frame
submits_request : (who : MasterId) (given : List (List ℕ)) (ask : Ask) (read : Result FrameParts TextFault)
    → WordsOutcome (message_words who given) read → Ok ask ≡ submitted read → IsProper ask
submits_request who given ask (Ok frame) h is =
    let same : ask ≡ forms.Submit frame = grind arith in
    rw same (is_request frame h.kind h.burst h.expansion)
submits_request who given ask (Err fault) h is = absurd (grind arith)

asks_request : (who : MasterId) (given : List (List ℕ)) (ask : Ask) (read : Result FrameParts TextFault)
    → ReadOutcome (request_words who given) read → Ok ask ≡ submitted read → IsProper ask
asks_request who given ask (Ok frame) h is =
    let same : ask ≡ forms.Submit frame = grind arith in
    rw same (is_request frame h.kind h.burst h.expansion)
asks_request who given ask (Err fault) h is = absurd (grind arith)

-- a line that asks for time to pass asks for no request
ticks_properly : (ask : Ask) (count : Option ℕ) → Ok ask ≡ ticked count → IsProper ask
ticks_properly ask (Some count) is =
    let same : ask ≡ forms.Tick count = grind arith in rw same tt
ticks_properly ask None is = absurd (grind arith)

asks_properly : (who : MasterId) (given : List (List ℕ)) (verb : Verb) (ask : Ask) → AsksBy who given verb (Ok ask) → IsProper ask
asks_properly who given verbs.Submit ask h = submits_request who given ask h.0 h.1 h.2
asks_properly who given verbs.Ask ask h = asks_request who given ask h.0 h.1 h.2
asks_properly who given verbs.Send ask h =
    let same : ask ≡ forms.Send = grind arith in rw same tt
asks_properly who given verbs.Tick ask h = ticks_properly ask (decimal_of 3 255 (word_at given 1)) h

words_properly : (who : MasterId) (given : List (List ℕ)) (ask : Ask) → ReadsWords who given (Ok ask) → IsProper ask
words_properly who given ask (known verb _ named few by) = asks_properly who given verb ask by

-- a request that a line asks for is a request frame
pub proper_ask : (who : MasterId) (line : List ℕ) (ask : Ask) → ReadsAsk who line (Ok ask) → IsProper ask
proper_ask who line ask (readable _ all reads) = words_properly who _ ask reads

-- if a value is searched for by a function, the function gives it
pub found_is : (given found : Option ℕ) → Finds (λ value. given ≡ Some value) found → found ≡ given
found_is (Some v) (Some w) h = sym h
found_is (Some v) None h = absurd (h v refl)
found_is None (Some w) h = absurd (grind arith)
found_is None None h = refl
