use Rattle.placing.proofs.theorems.no_rival_keeps_more.Goals as goal
use Rattle.placing.proofs.Keeping.{front_keeps_most, reasoned_keeps_most}

pub returns : goal.returns
returns c = record { front = front_keeps_most; reasoned = reasoned_keeps_most }
