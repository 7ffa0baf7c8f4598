use Rattle.std.proofs.Common.{true, false, ap, ◌∙◌, arith}
use Rattle.std.proofs.lemmas.Result.{MatchResult-at_ok}
use Rattle.calls.specs.Moments.{at}
use Rattle.plan.specs.Plans.{rows_in}
use Rattle.plan.proofs.Loads.{loaded}
use Rattle.plan.proofs.planner.Plan.load.Goals as goal
use Rattle.plan.proofs.planner.Plan.load.Goals.{then-carried_on, else-carried_on}

pub returns : goal.returns
returns g c =
    let w = g.W.OrderedWeight in
    let a = c.in_ok-accepted.ensures.value in
    let read = c.in_ok-accepted.accepted in
    let plan = c.if-carried_on.self in
    let store = c.if-carried_on.store in
    let lent = c.masks-masks.result.now in
    let made = MatchResult-at_ok _ _ c.unwrap-calendar.result c.unwrap-calendar.ensures c.new.ensures.cases in
    let calendar = made.1 in
    let load = loaded w.CODE w.WIDTH w.encoding w.no_lighter c.args.sheet.now read.masks.now read.records.now read.count a (at (rows_in c.args.self.now) c.args.store.now) (omega arith) in
    record {
      cases = elim c.if-carried_on.branch [
        | then-carried_on v ↦
            load c.args.carried_on true lent v.new-then-carried_on.result.below.masks.now (rows_in plan) (rows_in v.fill_admitted.new.self) store v.fill_admitted.new.store true
            v.if-carried_on.true c.masks-masks.ensures (ap (λ l. l.masks.now) v.new-then-carried_on.ensures.made ∙ calendar) (ap rows_in v.self-is) v.store-is
            (v.fill_admitted.ensures.outcome a.jobs (a.listed, a.number) a.table)
        | else-carried_on v ↦
            load c.args.carried_on false lent c.unwrap-calendar.result.masks.now (rows_in plan) (rows_in v.fill_admitted-else-carried_on.new.self) store v.fill_admitted-else-carried_on.new.store true
            v.if-carried_on.false c.masks-masks.ensures calendar (ap rows_in v.self-is) v.store-is
            (v.fill_admitted-else-carried_on.ensures.outcome a.jobs (a.listed, a.number) a.table)
      ];
      refused = tt;
    }
