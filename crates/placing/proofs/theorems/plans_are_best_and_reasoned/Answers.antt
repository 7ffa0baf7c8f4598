use Rattle.placing.proofs.theorems.plans_are_best_and_reasoned.Goals as goal
use Rattle.placing.proofs.Sound.{reasons_make_best, plan_sound}

pub returns : goal.returns
returns g c = record { plan = plan_sound; best = reasons_make_best }
