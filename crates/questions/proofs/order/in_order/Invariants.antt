use Rattle.std.proofs.Common.{ℕ, ◌+◌, ◌<◌}
use Rattle.questions.proofs.Ranks.{RowBefore}
use Rattle.questions.proofs.order.in_order.Given as goal

abbrev pub invariant-loop-rank : goal.invariant-loop-rank
invariant-loop-rank g l = (k : ℕ) → k + 1 < l.rank → RowBefore g.W.OrderedWeight.no_lighter l.rows l.store k (k + 1)
