use Rattle.std.proofs.Common.{arith}
use Rattle.questions.proofs.Widening.{widened_more, widened_all}
use Rattle.questions.proofs.stretch.widen.Goals as goal

pub loop-row-preserved : goal.loop-row-preserved
loop-row-preserved c = widened_more _ _ _ _ _ _ _ _ c.loop-row.invariant c.widen_by.ensures.value

pub returns : goal.returns
returns c = record { value = widened_all _ c.loop-row.row-index _ _ _ _ (omega arith) c.loop-row.invariant }
