use Rattle.std.proofs.Common.{◌≡◌, ℕ, ◌<◌, ◌≤◌, length}
use Rattle.drawing.specs.Trial.{seat_of, settled_in, OfRows}
use Rattle.drawing.proofs.Carrying.{Carrying}
use Rattle.drawing.proofs.trials.Trials.settle.Given as goal

abbrev pub invariant-loop-p : goal.invariant-loop-p
invariant-loop-p l =
    Carrying l.self.rows.now l.self.counts.now l.initial.places l.x l.p l.carried
    × ((q : ℕ) → q < l.p → seat_of l.places q ≡ settled_in l.self.rows.now l.self.counts.now l.initial.places l.x q)
    × ((q : ℕ) → l.p ≤ q → seat_of l.places q ≡ seat_of l.initial.places q)
    × OfRows l.places (length l.self.rows.now)
    × (length l.places ≡ 8192)
