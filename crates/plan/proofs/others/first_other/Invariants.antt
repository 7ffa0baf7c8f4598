use Rattle.std.proofs.Common.{◌≡◌, ℕ, ◌<◌}
use Rattle.placing.specs.Placing.{row}
use Rattle.placing.specs.Promise.{Changed}
use Rattle.plan.specs.Tables.{rows_of}
use Rattle.plan.proofs.others.first_other.Given as goal

-- none of the rows so far, but for the named job, has another standing
abbrev pub invariant-loop-rank : goal.invariant-loop-rank
invariant-loop-rank l = (j : ℕ) → j < l.rank → ((row (rows_of l.after) j).number ≡ l.named → ⊥) → Changed (rows_of l.before) (rows_of l.after) (row (rows_of l.after) j).number → ⊥
