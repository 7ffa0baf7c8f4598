use Rattle.std.proofs.Common.{take, sym, subst, rules}
use Rattle.std.proofs.lemmas.List.{places}
use Rattle.plan.specs.Rows.{Distinct}
use Rattle.plan.proofs.Rows.{distinct_inserted}
use Rattle.plan.proofs.table.Table.insert.Goals as goal

pub invariant_of-self : goal.invariant_of-self
invariant_of-self c = record {
  whole = search rules;
  few = search rules;
  distinct =
      subst Distinct (sym c.open_at.ensures.value)
      (distinct_inserted (take c.args.self.now.count c.args.self.now.rows) c.args.rank c.args.row (search (rules, places)) c.requires.absent c.args.self.now.distinct);
}
