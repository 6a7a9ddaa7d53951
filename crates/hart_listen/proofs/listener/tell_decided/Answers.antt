use Rattle.std.proofs.Common.{◌≤◌, ◌<◌, ◌∷◌, ◌+◌, ◌∙◌, ℕ, All, List, [], ap, arith, length, refl, sym}
use Rattle.std.proofs.lemmas.List.Elements.{All-cons, All-nil}
use Rattle.hart_frame.specs.declared.scan.sighting.After.{After}
use Rattle.hart_frame.specs.declared.scan.sighting.Sighting.{Sighting}
use Rattle.hart_frame.specs.declared.scan.sighting.Sighting.TheVariants.{Message, Missed}
use Rattle.hart_frame.specs.heard.Sighting.{Seen, moved_seen}
use Rattle.hart_frame.specs.scan.Sighting.{EndsAt, heard_with, seen_of}
use Rattle.hart_listen.specs.Gaps.{seen_place}
use Rattle.hart_listen.specs.Preambles.{stop_after}
use Rattle.hart_listen.proofs.lemmas.Before.{own_more}
use Rattle.hart_listen.proofs.lemmas.Held.{heard_few}
use Rattle.hart_listen.proofs.lemmas.Listener.{decided_next, decided_none, decided_still}
use Rattle.hart_listen.proofs.lemmas.Preambles.{stop_pushed}
use Rattle.hart_listen.proofs.lemmas.Stands.{plus_zero}
use Rattle.hart_listen.proofs.listener.tell_decided.Goals as goal

-- a sighting stands before the place where it ends
below : (sighting : Sighting) (count used : ℕ) → used ≤ count → EndsAt count used sighting → seen_place (seen_of sighting) < count
below (Message view) count used within ends = omega (arith, within, ends.0, ends.1)
below (Missed place miss header) count used within ends = omega (arith, within, ends.0)

below_all : (sighting : Sighting) (count used : ℕ) → used ≤ count → EndsAt count used sighting
    → All (λ s. seen_place s < count) (seen_of sighting ∷ [])
below_all sighting count used within ends =
    All-cons (λ (s : Seen). seen_place s < count) (seen_of sighting) [] (below sighting count used within ends)
    (All-nil (λ (s : Seen). seen_place s < count))

-- no sighting stands behind the held bytes
in_held : (held : List ℕ) (after : After) (sighting : Sighting) (used : ℕ) → used ≤ length (heard_with held after)
    → EndsAt (length (heard_with held after)) used sighting → seen_place (seen_of sighting) ≤ length held
in_held held after sighting used within ends =
    omega (arith, below sighting (length (heard_with held after)) used within ends, heard_few held after)

in_held_all : (held : List ℕ) (after : After) (sighting : Sighting) (used : ℕ) → used ≤ length (heard_with held after)
    → EndsAt (length (heard_with held after)) used sighting → All (λ s. seen_place s ≤ length held) (seen_of sighting ∷ [])
in_held_all held after sighting used within ends =
    All-cons (λ (s : Seen). seen_place s ≤ length held) (seen_of sighting) [] (in_held held after sighting used within ends)
    (All-nil (λ (s : Seen). seen_place s ≤ length held))

pub loop-sighting-init : goal.loop-sighting-init
loop-sighting-init g c = record {
  hears = decided_none g.T.Teller.told _ _ _ c.args.dates.now _ _;
  own = rw (plus_zero c.args.first) c.requires.own;
  preambles = refl;
  within = omega arith;
}

pub next_after-next-requires-clause-within : goal.next_after-next-requires-clause-within
next_after-next-requires-clause-within g c = c.loop-sighting.invariant.within

pub returns-in_default-clause-hears : goal.returns-in_default-clause-hears
returns-in_default-clause-hears g c =
    let next = c.next_after-next.ensures in
    decided_still g.T.Teller.told _ _ _ c.loop-sighting.used _ c.args.dates.now _ _ _ _ c.loop-sighting.invariant.hears
    (rw c.in_default.is at next.sees) next.within

pub returns-in_default-clause-own : goal.returns-in_default-clause-own
returns-in_default-clause-own g c =
    own_more (c.args.first + c.loop-sighting.used) _ _ (omega (arith, c.next_after-next.ensures.onward)) c.loop-sighting.invariant.own

pub returns-in_default-clause-decided : goal.returns-in_default-clause-decided
returns-in_default-clause-decided g c =
    let next = c.next_after-next.ensures in
    record {
      within = next.within;
      few = next.few c.in_default.is;
      all = next.all c.in_default.is;
      undecided = next.undecided c.in_default.is;
    }

pub tell_sighting-requires-clause-within : goal.tell_sighting-requires-clause-within
tell_sighting-requires-clause-within g c =
    let next = c.next_after-next.ensures in in_held _ _ c.in-Some.sighting _ next.within (rw c.in-Some.is at next.places)

pub loop-sighting-smaller : goal.loop-sighting-smaller
loop-sighting-smaller g c =
    let next = c.next_after-next.ensures in omega (arith, rw c.in-Some.is at next.further, next.within)

pub loop-sighting-preserved : goal.loop-sighting-preserved
loop-sighting-preserved g c =
    let next = c.next_after-next.ensures in
    let told = c.tell_sighting.ensures in
    let loop = c.loop-sighting in
    let seen = moved_seen c.args.first (seen_of c.in-Some.sighting) in
    record {
      hears = decided_next g.T.Teller.told _ _ _ loop.used _ c.args.dates.now _ loop.past c.tell_sighting.new.past _ _ _
          (seen_of c.in-Some.sighting ∷ []) loop.invariant.hears (rw c.in-Some.is at next.sees) next.within
          (below_all c.in-Some.sighting _ _ next.within (rw c.in-Some.is at next.places))
          (in_held_all _ _ c.in-Some.sighting _ next.within (rw c.in-Some.is at next.places))
          told.tells told.alike
          (λ earlier is. told.stop ∙ (ap (λ stop. stop_after stop seen) is ∙ sym (stop_pushed earlier seen))) told.preambles;
      own = own_more (c.args.first + loop.used + 1) _ _ (omega (arith, rw c.in-Some.is at next.further))
          (told.own (c.args.first + loop.used) loop.invariant.own);
      preambles = told.preambles ∙ loop.invariant.preambles;
      within = next.within;
    }
