use Rattle.plan.specs.Plans.{rows_in}
use Rattle.plan.specs.Tables.{rows_of}
use Rattle.plan.proofs.OneMore.{stay_seated}
use Rattle.plan.proofs.Rows.{windows_like, numbered_like}
use Rattle.plan.proofs.planner.Plan.change.Goals as goal

pub answer-answered-requires : goal.answer-answered-requires
answer-answered-requires g c = stay_seated (rows_in c.args.self.now) (rows_of c.args.changed.now) (rows_of c.replan.new.self) c.args.named c.requires.stay c.replan.ensures.same

pub invariant_of-self : goal.invariant_of-self
invariant_of-self g c =
    let mid = rows_of c.args.changed.now in
    let last = rows_of c.replan.new.self in
    let same = c.replan.ensures.same in
    record { windows = windows_like mid last same c.requires.windows; numbered = numbered_like mid last same c.requires.numbered }
