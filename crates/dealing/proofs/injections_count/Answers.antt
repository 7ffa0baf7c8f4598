use Rattle.dealing.proofs.injections_count.Goals as goal
use Rattle.dealing.proofs.Counting.{injection}

pub returns : goal.returns
returns c = injection
