use Rattle.placing.proofs.theorems.service_order_keeps_the_same.Goals as goal
use Rattle.placing.proofs.Keeping.{same_kept}

pub returns : goal.returns
returns c = same_kept
