use Rattle.dealing.proofs.reasoned_sets_are_largest.Goals as goal
use Rattle.dealing.proofs.Reasons.{reasoned_is_largest, keeps_most}

pub returns : goal.returns
returns c = record { reasoned = reasoned_is_largest; kept = keeps_most }
