use Rattle.std.proofs.Common.{ℕ, ◌+◌, ◌-◌, ◌≤◌}
use Rattle.placing.specs.Placing.{row}
use Rattle.placing.specs.Plan.{Closed}
use Rattle.questions.proofs.stretch.stretch_at.Given as goal

-- the run lies round the row's window, and within every closed run that does
abbrev pub invariant-loop-lo : goal.invariant-loop-lo
invariant-loop-lo l =
    (l.lo ≤ (row l.rows l.rank).ready) × ((row l.rows l.rank).deadline ≤ l.hi)
    × ((a b : ℕ) → a ≤ (row l.rows l.rank).ready → (row l.rows l.rank).deadline ≤ b → Closed l.rows a b → (a ≤ l.lo) × (l.hi ≤ b))

abbrev pub decreases-loop-lo : goal.decreases-loop-lo
decreases-loop-lo l = l.lo + (65535 - l.hi)
