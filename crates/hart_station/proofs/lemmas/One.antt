-- A master has only one answer to each line.
use Rattle.std.proofs.Common.{◌≡◌, ◌<◌, ◌+◌, ◌⊎◌, ◌∙◌, ℕ, All, List, [], ◌∷◌, ◌++◌, Option, None, Some, Result, Ok, Err}
use Rattle.std.proofs.Common.{ap, arith, codes, inl, inr, length, refl, sym}
use Rattle.std.proofs.lemmas.Grind.{common_steps}
use Rattle.std.proofs.lemmas.List.Elements.{All-head, All-tail}
use Rattle.std.specs.Str.{IsUtf8}
use Rattle.hart_values.specs.declared.master_id.MasterId.{MasterId}
use Rattle.hart_frame.proofs.lemmas.Laws.{frames_are_unambiguous-one_list}
use Rattle.hart_frame.specs.heard.Character.{Character}
use Rattle.hart_frame.specs.wire.FrameParts.{FrameParts}
use Rattle.hart_master.specs.FrameMaster.{frame_due}
use Rattle.hart_master.specs.declared.frame_event.FrameEvent.{FrameEvent}
use Rattle.hart_master.specs.declared.frame_hand.FrameHand.{FrameHand}
use Rattle.hart_text.proofs.lemmas.Items.{not_both, one_place, NoPieceBegins-nil, one_reading}
use Rattle.hart_station.specs.declared.ask.Ask.{Ask}
use Rattle.hart_station.specs.declared.ask.Ask.TheVariants as forms
use Rattle.hart_station.specs.declared.ask.Verb.{Verb}
use Rattle.hart_station.specs.declared.ask.Verb.TheVariants as verbs
use Rattle.hart_station.specs.declared.fault.TextFault.{TextFault}
use Rattle.hart_station.specs.Ask.{AsksBy, ReadsAsk, ReadsWords, known, message_words, readable, request_words, submitted, too_many}
use Rattle.hart_station.specs.Ask.{unknown, unreadable}
use Rattle.hart_station.specs.MasterLines as lines
use Rattle.hart_station.specs.MasterLines.{Hears, IsAskedLine, IsDueLine, LineMaster, ServesMasterLine}
use Rattle.hart_station.specs.LineWords.{AreReadable, IsFirstUnreadable, words_of}
use Rattle.hart_station.proofs.lemmas.OneWay.{messages_have_one_line, one_named_read, one_read}

-- what is true of all words before the later of two words is true of the earlier one
holds_before : (P : List ℕ → Type 0) (xs ys : List (List ℕ)) (x y : List ℕ) (s t : List (List ℕ)) → xs ++ x ∷ s ≡ ys ++ y ∷ t
    → length xs < length ys → All P ys → P x
holds_before P xs [] x y s t same short all = absurd (omega (arith, short))
holds_before P [] (b ∷ ys) x y s t same short all =
    let is : x ≡ b = grind (arith, common_steps) in rw is (All-head P b ys all)
holds_before P (a ∷ xs) (b ∷ ys) x y s t same short all =
    let rest : xs ++ x ∷ s ≡ ys ++ y ∷ t = grind (arith, common_steps) in
    holds_before P xs ys x y s t rest (grind (arith, common_steps)) (All-tail P b ys all)

-- what is true of all words of a list is true of each of them
holds_in : (P : List ℕ → Type 0) (xs : List (List ℕ)) (x : List ℕ) (s : List (List ℕ)) → All P (xs ++ x ∷ s) → P x
holds_in P [] x s all = All-head P x s all
holds_in P (a ∷ xs) x s all = holds_in P xs x s (All-tail P a (xs ++ x ∷ s) all)

-- a word in valid UTF-8 with fewer than 64 words before it can be read
can_be_read : (count : ℕ) (word : List ℕ) → count < 64 → IsUtf8 word → (count ≡ 64) ⊎ (IsUtf8 word → ⊥) → ⊥
can_be_read count word few utf8 (inl many) = omega (arith, few, many)
can_be_read count word few utf8 (inr bad) = bad utf8

-- of two first unreadable words, neither comes before the other
not_before : (words : List (List ℕ)) (m n : ℕ) (h : IsFirstUnreadable words m) (k : IsFirstUnreadable words n)
    → length h.earlier < length k.earlier → ⊥
not_before words m n h k short =
    let utf8 = holds_before IsUtf8 h.earlier k.earlier h.word k.word h.later k.later (sym h.split ∙ k.split) short k.readable.1 in
    can_be_read (length h.earlier) h.word (omega (arith, short, k.readable.0)) utf8 h.bad

one_number : (words : List (List ℕ)) (m n : ℕ) → IsFirstUnreadable words m → IsFirstUnreadable words n → m ≡ n
one_number words m n h k =
    let below = λ (short : length h.earlier < length k.earlier). not_before words m n h k short in
    let above = λ (short : length k.earlier < length h.earlier). not_before words n m k h short in
    let same : length h.earlier ≡ length k.earlier = grind arith in
    h.numbered ∙ ap (λ count. count + 1) same ∙ sym k.numbered

-- if words are readable, none of them is the first unreadable word
not_both_ways : (words : List (List ℕ)) (number : ℕ) → AreReadable words → IsFirstUnreadable words number → ⊥
not_both_ways words number all h =
    let few : length h.earlier < 64 = grind (arith, common_steps) in
    can_be_read (length h.earlier) h.word few (holds_in IsUtf8 h.earlier h.word h.later (rw h.split at all.1)) h.bad

-- the words of a line ask only one thing
one_asked : (who : MasterId) (words : List (List ℕ)) (verb : Verb) (a b : Result Ask TextFault) → AsksBy who words verb a
    → AsksBy who words verb b → a ≡ b
one_asked who words verbs.Submit a b h k = h.2 ∙ ap submitted (one_read (message_words who words) h.0 k.0 h.1 k.1) ∙ sym k.2
one_asked who words verbs.Ask a b h k = h.2 ∙ ap submitted (one_named_read (request_words who words) h.0 k.0 h.1 k.1) ∙ sym k.2
one_asked who words verbs.Send a b h k = h ∙ sym k
one_asked who words verbs.Tick a b h k = h ∙ sym k

one_reading_of : (who : MasterId) (words : List (List ℕ)) (a b : Result Ask TextFault) → ReadsWords who words a → ReadsWords who words b
    → a ≡ b
one_reading_of who words _ _ (unknown none) (unknown also) = refl
one_reading_of who words _ _ (unknown none) (too_many w is more) = absurd (grind arith)
one_reading_of who words _ _ (unknown none) (known w _ is few by) = absurd (grind arith)
one_reading_of who words _ _ (too_many v is many) (unknown none) = absurd (grind arith)
one_reading_of who words _ _ (too_many v is many) (too_many w also more) = let same : v ≡ w = grind arith in rw same refl
one_reading_of who words _ _ (too_many v is many) (known w _ also few by) =
    let same : v ≡ w = grind arith in absurd (omega (arith, few, rw same at many))
one_reading_of who words _ _ (known v _ is few by) (unknown none) = absurd (grind arith)
one_reading_of who words _ _ (known v _ is few by) (too_many w also many) =
    let same : v ≡ w = grind arith in absurd (omega (arith, rw same at few, many))
one_reading_of who words a b (known v _ is few by) (known w _ also fewer asks) =
    let same : v ≡ w = grind arith in one_asked who words w a b (rw same at by) asks

-- a line asks only one thing
one_ask : (who : MasterId) (line : List ℕ) (a b : Result Ask TextFault) → ReadsAsk who line a → ReadsAsk who line b → a ≡ b
one_ask who line _ _ (unreadable m h) (unreadable n k) = let same : m ≡ n = one_number (words_of line) m n h k in rw same refl
one_ask who line _ _ (unreadable m h) (readable _ all reads) = absurd (not_both_ways (words_of line) m all h)
one_ask who line _ _ (readable _ all reads) (unreadable n k) = absurd (not_both_ways (words_of line) n all k)
one_ask who line a b (readable _ all reads) (readable _ also again) = one_reading_of who (words_of line) a b reads again

-- there is only one answer to what a line asks
one_due : (preambles : ℕ) (due : Option FrameParts) (xs ys : List ℕ) → IsDueLine preambles due xs → IsDueLine preambles due ys → xs ≡ ys
one_due preambles None xs ys h k = h ∙ sym k
one_due preambles (Some frame) xs ys h k =
    let same = messages_have_one_line frame preambles h.message_line k.message_line h.is_line k.is_line in
    h.whole ∙ ap (λ line. codes "send " ++ line) same ∙ sym k.whole

one_said : (asker : LineMaster) (ask : Ask) (xs ys : List ℕ) → IsAskedLine asker ask xs → IsAskedLine asker ask ys → xs ≡ ys
one_said asker (forms.Submit request) xs ys h k = h ∙ sym k
one_said asker forms.Send xs ys h k = one_due asker.preambles (frame_due asker.master.hand) xs ys h k
one_said asker (forms.Tick count) xs ys h k = h ∙ sym k

-- a delivery brings only one event, and this event has only one line
one_event : (hand : FrameHand) (delivery : List Character) (a b : FrameEvent) (xs ys : List ℕ) → Hears hand delivery a xs
    → Hears hand delivery b ys → (a ≡ b) × (xs ≡ ys)
one_event hand delivery _ _ _ _ (lines.answered f alone brings) (lines.answered g also again) =
    let lists = frames_are_unambiguous-one_list delivery 0 (f ∷ []) (g ∷ []) alone also in
    let same : f ≡ g = grind arith in (refl, rw same refl)
one_event hand delivery _ _ _ _ (lines.answered f alone brings) (lines.nothing none) = absurd (none f alone brings)
one_event hand delivery _ _ _ _ (lines.nothing none) (lines.answered g also again) = absurd (none g also again)
one_event hand delivery _ _ _ _ (lines.nothing none) (lines.nothing more) = (refl, refl)

-- a line has only one answer, and leads to only one master
pub one_line : (asker a b : LineMaster) (line : Option (List ℕ)) (xs ys : List ℕ) → ServesMasterLine asker line a xs
    → ServesMasterLine asker line b ys → (a ≡ b) × (xs ≡ ys)
one_line asker _ _ None _ _ lines.too_long lines.too_long = (refl, refl)
one_line asker _ _ (Some line) xs ys (lines.heard _ i p e _ is reads hears) (lines.heard _ j q f _ also again hears_too) =
    let items : i ≡ j = grind arith in
    let same = (one_reading _ p [] q [] (rw items at reads) again NoPieceBegins-nil NoPieceBegins-nil).0 in
    let one = one_event asker.master.hand q e f xs ys (rw same at hears) hears_too in (rw one.0 refl, one.1)
one_line asker _ _ (Some line) _ _ (lines.heard _ i p e _ is reads hears) (lines.bad_hex _ j chars place also bad) =
    let items : i ≡ j = grind arith in absurd (not_both _ p chars place (rw items at reads) bad)
one_line asker _ _ (Some line) _ _ (lines.heard _ i p e _ is reads hears) (lines.asked _ ask _ none by answer) = absurd (grind arith)
one_line asker _ _ (Some line) _ _ (lines.heard _ i p e _ is reads hears) (lines.bad_word _ fault none by) = absurd (grind arith)
one_line asker _ _ (Some line) _ _ (lines.bad_hex _ i chars place is bad) (lines.heard _ j q f _ also again hears) =
    let items : i ≡ j = grind arith in absurd (not_both _ q chars place again (rw items at bad))
one_line asker _ _ (Some line) _ _ (lines.bad_hex _ i cs p is bad) (lines.bad_hex _ j ds q also worse) =
    let items : i ≡ j = grind arith in
    let same = one_place _ cs ds p q (rw items at bad) worse in (refl, rw same.1 refl)
one_line asker _ _ (Some line) _ _ (lines.bad_hex _ i cs p is bad) (lines.asked _ ask _ none by answer) = absurd (grind arith)
one_line asker _ _ (Some line) _ _ (lines.bad_hex _ i cs p is bad) (lines.bad_word _ fault none by) = absurd (grind arith)
one_line asker _ _ (Some line) _ _ (lines.asked _ ask _ none by answer) (lines.heard _ j q f _ also again hears) = absurd (grind arith)
one_line asker _ _ (Some line) _ _ (lines.asked _ ask _ none by answer) (lines.bad_hex _ j ds q also worse) = absurd (grind arith)
one_line asker _ _ (Some line) xs ys (lines.asked _ x _ none by answer) (lines.asked _ y _ also again answers) =
    let asks = one_ask asker.who line (Ok x) (Ok y) by again in
    let same : x ≡ y = grind arith in (rw same refl, one_said asker y xs ys (rw same at answer) answers)
one_line asker _ _ (Some line) _ _ (lines.asked _ ask _ none by answer) (lines.bad_word _ fault also again) =
    let asks = one_ask asker.who line (Ok ask) (Err fault) by again in absurd (grind arith)
one_line asker _ _ (Some line) _ _ (lines.bad_word _ fault none by) (lines.heard _ j q f _ also again hears) = absurd (grind arith)
one_line asker _ _ (Some line) _ _ (lines.bad_word _ fault none by) (lines.bad_hex _ j ds q also worse) = absurd (grind arith)
one_line asker _ _ (Some line) _ _ (lines.bad_word _ fault none by) (lines.asked _ ask _ also again answer) =
    let asks = one_ask asker.who line (Err fault) (Ok ask) by again in absurd (grind arith)
one_line asker _ _ (Some line) _ _ (lines.bad_word _ fault none by) (lines.bad_word _ other also again) =
    let asks = one_ask asker.who line (Err fault) (Err other) by again in
    let same : fault ≡ other = grind arith in (refl, rw same refl)
