use Rattle.std.proofs.Common.{arith, rules}
use Rattle.std.proofs.lemmas.List.{length-take}
use Rattle.plan.specs.Tables.{rows_of}
use Rattle.plan.proofs.Seated.{all_seats}
use Rattle.plan.proofs.table.Table.seat_all.Goals as goal

pub returns : goal.returns
returns c = record {
  leaves = all_seats (rows_of c.args.self.now) (rows_of c.loop-rank.self) c.args.seats.now c.loop-rank.invariant.1
      (λ k l. c.loop-rank.invariant.2 k (omega (arith, length-take c.args.self.now.count c.args.self.now.rows)));
  count = search rules;
}
