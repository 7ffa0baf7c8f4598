use Rattle.dealing.proofs.dropped_jobs_have_full_runs.Goals as goal
use Rattle.dealing.proofs.Choice.{dropped_has_full_run}
use Rattle.dealing.proofs.Stretches.{stretch_exists, stretch_is_full}

pub returns : goal.returns
returns c = record { run = dropped_has_full_run; stretch = stretch_exists; full = stretch_is_full }
