use Rattle.std.proofs.Common.{arith}
use Rattle.plan.specs.Tables.{rows_of}
use Rattle.plan.proofs.Standings.{no_other}
use Rattle.plan.proofs.others.first_other.Goals as goal

pub returns : goal.returns
returns c = record { value = no_other (rows_of c.args.before.now) (rows_of c.args.after.now) c.args.named c.requires (λ i l. c.loop-rank.invariant i (omega arith)) }
