use Rattle.std.proofs.Common.{◌-◌, ◌++◌, ◌∷◌, ◌<◌, ◌∙◌, ◌≢◌, [], ℕ, ap, append_assoc, drop, inl, inr, refl, sym, arith}
use Rattle.std.proofs.lemmas.List.Elements.{All-append, All-cons, All-drop, All-weaker}
use Rattle.hart_frame.specs.heard.Character.{Character}
use Rattle.hart_frame.specs.heard.Sighting.{Message, header_at, miss_in_whole, missed, seen_miss, sightings}
use Rattle.hart_text.specs.Heard.{IsVisible}
use Rattle.hart_listen.specs.Before.{before_of}
use Rattle.hart_listen.specs.Dated.{explanation, words_of}
use Rattle.hart_explain.specs.Sighting.{date_words}
use Rattle.hart_explain.specs.Message.{paragraph}
use Rattle.hart_listen.proofs.lemmas.Gaps.{missed_are, no_frame_in_gap, seen_is_miss, start_is_seen, told_has, told_in_order, told_is}
use Rattle.hart_listen.proofs.lemmas.Gaps.{whole_one}
use Rattle.hart_listen.proofs.lemmas.Dated.{text_then}
use Rattle.hart_listen.proofs.laws.every_start_outside_messages_has_one_line.Goals as goal

pub returns-clause-by_message : goal.returns-clause-by_message
returns-clause-by_message c date earlier chars from found later =
    let after = sightings chars found.stop later in
    let gap = missed chars from found.start in
    text_then words_of date earlier gap (Message found ∷ after)
    ∙ sym (append_assoc (explanation date earlier gap)
    (date_words (date found.start) ++ paragraph (before_of (earlier ++ gap) (Message found)) found)
    (explanation date (earlier ++ gap ++ Message found ∷ []) after))

pub returns-clause-last_gap : goal.returns-clause-last_gap
returns-clause-last_gap c date earlier chars from = refl

pub returns-clause-one_line : goal.returns-clause-one_line
returns-clause-one_line c = c.misses_are_lines.ensures.one

-- a visible byte is no line feed
visible_stays : (byte : ℕ) → IsVisible byte → byte ≢ 10
visible_stays byte visible = λ same. omega (arith, visible.0, same)

pub returns-clause-dated_line : goal.returns-clause-dated_line
returns-clause-dated_line c word place miss valid =
    let line = c.misses_are_lines.ensures.one place miss in
    record {
      words = word ++ 32 ∷ line.words;
      ended = ap (λ text. word ++ 32 ∷ text) line.ended ∙ sym (append_assoc word (32 ∷ line.words) (10 ∷ []));
      unbroken = All-append (λ code. code ≢ 10) word (32 ∷ line.words)
          (All-weaker IsVisible (λ code. code ≢ 10) visible_stays word valid.visible)
          (All-cons (λ code. code ≢ 10) 32 line.words (λ same. absurd cc) line.unbroken);
    }

pub returns-clause-second_line : goal.returns-clause-second_line
returns-clause-second_line c = c.misses_are_lines.ensures.second

pub returns-clause-in_order : goal.returns-clause-in_order
returns-clause-in_order c chars from stop =
    told_in_order (miss_in_whole from) (λ place. seen_miss (drop from chars) (place - from)) (header_at chars) from (stop - from)

pub returns-clause-exactly : goal.returns-clause-exactly
returns-clause-exactly c chars from stop place miss header = (
  λ has.
      let is = told_is (miss_in_whole from) (λ at. seen_miss (drop from chars) (at - from)) (header_at chars) from (stop - from) place
      miss header has in
      (is.0, omega (arith, is.0, is.1), is.2, is.3),
  λ is.
      rw is.3 (told_has (miss_in_whole from) (λ at. seen_miss (drop from chars) (at - from)) (header_at chars) from (stop - from) place
      miss is.0 (omega (arith, is.0, is.1)) is.2),
)

pub returns-clause-every_start : goal.returns-clause-every_start
returns-clause-every_start c chars frames from stop place bytes are gap after below start =
    let rest = All-drop (λ (character : Character). character.byte < 256) from chars bytes in
    elim (c.every_start_has_a_frame_or_a_miss.ensures.one (place - from) (drop from chars) rest start) [
      | inl has ↦ absurd (no_frame_in_gap chars 0 frames are from stop place gap after below has)
      | inr some ↦ rw (start_is_seen (drop from chars) (place - from) start) some
    ]

pub returns-clause-only_there : goal.returns-clause-only_there
returns-clause-only_there c chars from stop place miss header has =
    let (after, own, seen, told) = missed_are chars from stop place miss header has in
    let is = seen_is_miss (drop from chars) (place - from) own seen in
    elim (c.every_start_has_a_frame_or_a_miss.ensures.only_there (place - from) (drop from chars) own is) [
      | inl start ↦ inl start
      | inr one ↦ inr (whole_one from own miss told one)
    ]
