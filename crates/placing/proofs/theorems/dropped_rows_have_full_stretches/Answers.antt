use Rattle.placing.proofs.theorems.dropped_rows_have_full_stretches.Goals as goal
use Rattle.placing.proofs.Stretches.{dropped_has_full_stretch}

pub returns : goal.returns
returns c = dropped_has_full_stretch
