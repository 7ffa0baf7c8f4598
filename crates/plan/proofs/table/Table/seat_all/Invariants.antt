use Rattle.std.proofs.Common.{◌≡◌, ℕ, ◌<◌, ◌≤◌, length, get_or, None}
use Rattle.placing.specs.Placing.{row}
use Rattle.plan.specs.Rows.{with_seat}
use Rattle.plan.specs.Tables.{rows_of}
use Rattle.plan.proofs.table.Table.seat_all.Given as goal

-- the rows so far have their seats, and the others are as they were
abbrev pub invariant-loop-rank : goal.invariant-loop-rank
invariant-loop-rank l =
    (l.self.count ≡ l.initial.self.count) × (length (rows_of l.self) ≡ length (rows_of l.initial.self))
    × ((k : ℕ) → k < l.rank → row (rows_of l.self) k ≡ with_seat (row (rows_of l.initial.self) k) (get_or l.seats k None))
    × ((k : ℕ) → l.rank ≤ k → row (rows_of l.self) k ≡ row (rows_of l.initial.self) k)
