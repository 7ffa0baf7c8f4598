use Rattle.std.proofs.Common.{◌-◌, get_or}
use Rattle.drawing.proofs.Carrying.{Carrying}
use Rattle.drawing.proofs.trials.Trials.probe.Given as goal

abbrev pub invariant-loop-p : goal.invariant-loop-p
invariant-loop-p l = Carrying l.self.rows.now l.self.counts.now l.places l.x l.p l.carried

abbrev pub decreases-loop-p : goal.decreases-loop-p
decreases-loop-p l = get_or l.self.counts.now 1024 0 - l.p
