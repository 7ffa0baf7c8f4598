use Rattle.placing.proofs.theorems.every_table_has_a_plan.Goals as goal
use Rattle.placing.proofs.Exists.{plan_exists, drawn_from}

pub returns : goal.returns
returns c = record { exists = plan_exists; drawn = drawn_from }
