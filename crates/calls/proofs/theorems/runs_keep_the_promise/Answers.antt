use Rattle.calls.proofs.theorems.runs_keep_the_promise.Goals as goal
use Rattle.calls.proofs.Runs.{starts, run_promised}

pub returns : goal.returns
returns g c = record { starts = starts; promised = run_promised }
