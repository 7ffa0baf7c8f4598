use Rattle.placing.proofs.theorems.equal_tables_have_equal_plans.Goals as goal
use Rattle.placing.proofs.Ranks.{plan_alone}
use Rattle.placing.proofs.Seats.{one_plan}

pub returns : goal.returns
returns g c = record { rows = one_plan; tables = plan_alone }
