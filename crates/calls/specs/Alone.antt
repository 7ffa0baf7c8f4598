-- A call at a moment has one outcome, a run of calls too, and equal tables have equal plans. Assumes nothing.
--   OutcomeAlone    two outcomes of one call at one moment have one answer and leave one moment
--   RunAlone        two runs of the same calls from one moment have the same answers and end at one moment
--   EqualPlans      under two sets of rules, tables with the same jobs, in whatever order, have one plan: rows, seats and weights
use Rattle.std.specs.Prelude.{◌≡◌, List, length, take}
use Rattle.jobs.specs.declared.terms.Job.{Job}
use Rattle.placing.specs.Orders.{RankOrder, ServiceOrder}
use Rattle.placing.specs.Promise.{SameJobs}
use Rattle.calls.specs.declared.terms.Call.{Call}
use Rattle.calls.specs.Moments.{Rules, Moment, PlanAt}
use Rattle.calls.specs.Calls.{Answer, Outcome, Run}

abbrev pub OutcomeAlone : Type 0 → Type 0
OutcomeAlone W = (rules : Rules W) → RankOrder rules.no_lighter rules.before → ServiceOrder rules.first → (m k n : Moment W) (c : Call W) (a b : Answer) →
    Outcome rules m c a k → Outcome rules m c b n → (a ≡ b) × (k ≡ n)

abbrev pub RunAlone : Type 0 → Type 0
RunAlone W = (rules : Rules W) → RankOrder rules.no_lighter rules.before → ServiceOrder rules.first → (m k n : Moment W) (cs : List (Call W)) (rs qs : List Answer) →
    Run rules m cs rs k → Run rules m cs qs n → (rs ≡ qs) × (k ≡ n)

abbrev pub EqualPlans : {W : Type 0} → Rules W → Rules W → Type 0
EqualPlans {W} rules rules' = (table table' : List (Job W)) → SameJobs table table' → (m n : Moment W) → PlanAt rules table m → PlanAt rules' table' n →
    (m.rows ≡ n.rows) × (take (length m.rows) m.store ≡ take (length m.rows) n.store)
