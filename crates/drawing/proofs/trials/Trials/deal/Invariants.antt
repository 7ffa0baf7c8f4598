use Rattle.std.proofs.Common.{ℕ, Bool, length}
use Rattle.drawing.specs.Trial.{OfRows}
use Rattle.drawing.proofs.InTurn.{AfterTrials}
use Rattle.drawing.proofs.trials.Trials.deal.Given as goal

abbrev pub invariant-loop-x : goal.invariant-loop-x
invariant-loop-x l = (kept : ℕ → Bool) × AfterTrials l.self.rows.now l.self.counts.now kept l.places l.x × OfRows l.places (length l.self.rows.now)
