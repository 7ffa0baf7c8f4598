use Rattle.std.proofs.Common.{refl}
use Rattle.kinds.specs.ClassedFacts.{classed_agrees}
use Rattle.kinds.proofs.classed.weight.ClassedTotalledWeight.nothing.Goals as goal

pub returns : goal.returns
returns c = record { value = refl; agrees = classed_agrees }
