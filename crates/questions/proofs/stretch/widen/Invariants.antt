use Rattle.questions.specs.Widening.{Widened}
use Rattle.questions.proofs.Widening.{InsideFirst}
use Rattle.questions.proofs.stretch.widen.Given as goal

abbrev pub invariant-loop-row : goal.invariant-loop-row
invariant-loop-row l = Widened (InsideFirst l.rows l.row-index) l.lo l.hi l.from l.to
