use Rattle.std.proofs.Common.{take, sym, subst, rules}
use Rattle.std.proofs.lemmas.List.{places}
use Rattle.jobs.specs.declared.terms.Standing.TheVariants.{Absent}
use Rattle.placing.specs.Placing.{row}
use Rattle.placing.specs.Plan.{Stands}
use Rattle.plan.specs.Rows.{Distinct}
use Rattle.plan.proofs.Rows.{distinct_removed, removed_absent}
use Rattle.plan.proofs.table.Table.remove.Goals as goal

pub invariant_of-self : goal.invariant_of-self
invariant_of-self c = record {
  whole = search rules;
  few = search rules;
  distinct =
      subst Distinct (sym c.close_at.ensures.value)
      (distinct_removed (take c.args.self.now.count c.args.self.now.rows) c.args.rank (search (rules, places)) c.args.self.now.distinct);
}

pub returns : goal.returns
returns c =
    let rows = take c.args.self.now.count c.args.self.now.rows in
    record {
      leaves = search rules;
      absent = subst (λ rs. Stands rs (row rows c.args.rank).number Absent) (sym c.close_at.ensures.value) (removed_absent rows c.args.rank (search (rules, places)) c.args.self.now.distinct);
      count = search rules;
    }
