use Rattle.std.proofs.Common.{◌-◌, length}
use Rattle.sheets.specs.Steps.{JobsRead}
use Rattle.sheets.proofs.reader.check_jobs.Given as goal

abbrev pub invariant-loop-at : goal.invariant-loop-at
invariant-loop-at g l = JobsRead g.W.OrderedWeight.CODE g.W.OrderedWeight.WIDTH g.W.OrderedWeight.encoding l.sheet l.first l.at l.count

abbrev pub decreases-loop-at : goal.decreases-loop-at
decreases-loop-at g l = length l.sheet - l.at
