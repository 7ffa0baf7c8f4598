use Rattle.placing.proofs.theorems.no_rival_is_heavier.Goals as goal
use Rattle.placing.proofs.Totals.{totals_follow_counts, plan_heaviest}

pub returns : goal.returns
returns g c = record { counts = totals_follow_counts; heaviest = plan_heaviest }
