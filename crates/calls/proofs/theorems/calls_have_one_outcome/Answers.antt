use Rattle.calls.proofs.theorems.calls_have_one_outcome.Goals as goal
use Rattle.calls.proofs.Alone.{outcome_alone, run_alone}

pub returns : goal.returns
returns g c = record { call = outcome_alone; run = run_alone }
