use Rattle.std.proofs.Common.{◌≡◌, ◌-◌, ◌∙◌, ℕ, ap, arith, sym}
use Rattle.hart_frame.specs.heard.Sighting.{Message, Missed, Seen, moved_seen}
use Rattle.hart_frame.specs.scan.Sighting.{seen_of}
use Rattle.hart_listen.specs.Dates.{date_at}
use Rattle.hart_listen.specs.Gaps.{seen_place}
use Rattle.hart_listen.proofs.listener.tell_sighting.Goals as goal

-- the place of a sighting among the held characters
place-is : (first : ℕ) (seen : Seen) → seen_place (moved_seen first seen) - first ≡ seen_place seen
place-is first (Message found) = omega arith
place-is first (Missed place miss header) = omega arith

pub returns-clause-tells : goal.returns-clause-tells
returns-clause-tells g c earlier is =
    let place = c.place_of.ensures ∙ sym (place-is c.args.first (seen_of c.args.sighting.now)) in
    let word = c.word_at-date.ensures.word ∙ ap (date_at c.args.dates.now) place in
    rw (word, c.hear-before.ensures.before earlier is) at c.tell.ensures
