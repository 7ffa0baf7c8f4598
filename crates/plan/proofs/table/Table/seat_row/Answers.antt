use Rattle.std.proofs.Common.{take, sym, subst, rules}
use Rattle.std.proofs.lemmas.List.{places}
use Rattle.plan.specs.Rows.{Distinct}
use Rattle.plan.proofs.Rows.{distinct_seated, seated_rows}
use Rattle.plan.proofs.table.Table.seat_row.Goals as goal

pub invariant_of-self : goal.invariant_of-self
invariant_of-self c = record {
  whole = search rules;
  few = search rules;
  distinct =
      subst Distinct (sym (seated_rows c.args.self.now.rows c.args.self.now.count c.args.rank c.args.seat c.requires (search rules)))
      (distinct_seated (take c.args.self.now.count c.args.self.now.rows) c.args.rank c.args.seat (search (rules, places)) c.args.self.now.distinct);
}

pub returns : goal.returns
returns c = record {
  leaves = seated_rows c.args.self.now.rows c.args.self.now.count c.args.rank c.args.seat c.requires (search rules);
  count = search rules;
}
