use Rattle.std.proofs.Common.{◌≡◌, ◌<◌, ◌+◌, ℕ, get_or, length}
use Rattle.hart_listen.proofs.dates.Dates.let_go.Given as goal

abbrev pub invariant-loop-place : goal.invariant-loop-place
invariant-loop-place l = record {
  long : length l.held.items ≡ l.place;
  dates : (at : ℕ) → at < l.place → get_or l.held.items at l.self.last ≡ get_or l.self.held.items (l.used + at) l.self.last;
}
