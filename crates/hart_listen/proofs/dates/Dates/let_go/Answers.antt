use Rattle.std.proofs.lemmas.Grind.{common_steps}
use Rattle.std.proofs.Common.{◌≡◌, ◌∷◌, [], ap, arith, length, length-append, refl}
use Rattle.hart_listen.specs.Dates.{kept_word}
use Rattle.hart_listen.proofs.lemmas.HeldDates.{date_pushed, dates_stay}
use Rattle.hart_listen.proofs.dates.Dates.let_go.Goals as goal

pub loop-place-preserved : goal.loop-place-preserved
loop-place-preserved c =
    let pushed = c.push.ensures.items in
    let loop = c.loop-place.invariant in
    record {
      long = omega (arith, ap length pushed, length-append c.loop-place.held.items (c.date_at.result ∷ []), loop.long);
      dates = λ at below.
          rw pushed (date_pushed c.loop-place.held.items c.args.self.now.held.items c.args.self.now.last c.date_at.result c.args.used
          c.loop-place.place loop.long loop.dates c.date_at.ensures at below);
    }

pub returns-clause-dates : goal.returns-clause-dates
returns-clause-dates c place =
    let loop = c.loop-place.invariant in
    let end : c.loop-place.place ≡ c.args.count = grind (arith, common_steps) in
    ap kept_word (dates_stay c.loop-place.held.items c.args.self.now.held.items c.args.self.now.last c.args.used c.loop-place.place
    loop.long loop.dates (omega (arith, c.requires.enough, end)) place)

pub returns-then-count-eq0-clause-dates : goal.returns-then-count-eq0-clause-dates
returns-then-count-eq0-clause-dates c place =
    let none : c.args.count ≡ 0 = grind (arith, common_steps) in
    let old = c.args.self.now in
    rw c.clear.ensures (ap kept_word (dates_stay [] old.held.items old.last c.args.used 0 refl (λ at below. absurd (omega (arith, below)))
    (omega (arith, c.requires.enough, none)) place))
