use Rattle.std.proofs.Common.{◌≡◌, ℕ, ◌+◌, ◌<◌, List, [], ◌∷◌, ◌++◌, length, take, drop, set, sym, ap, ◌∙◌, subst, arith, rules}
use Rattle.std.proofs.lemmas.List.{take_more, take_more_set, drop-set-lt, drop-drop}
use Rattle.jobs.specs.declared.terms.Job.{Job}
use Rattle.placing.specs.Orders.{Weighs}
use Rattle.placing.proofs.Orders.{heavier_then_lower_ranks}
use Rattle.calls.specs.Calls.{Run}
use Rattle.calls.specs.Moments.{in_force, at, PlanAt}
use Rattle.calls.proofs.Runs.{starts, run_more, run_promised}
use Rattle.plan.specs.Plans.{rows_in}
use Rattle.runs.proofs.replay.Goals as goal

pub loop-i-preserved : goal.loop-i-preserved
loop-i-preserved g c =
    let i = c.loop-i.i in
    let l : i < length c.args.calls.now = search rules in
    let m : i < length c.loop-i.answers = search rules in
    let call = c.index-calls-i.result in
    let answer = c.perform-answer.result in
    let calls : take (i + 1) c.args.calls.now ≡ take i c.args.calls.now ++ call ∷ [] =
    take_more c.args.calls.now i call l ∙ ap (λ x. take i c.args.calls.now ++ x ∷ []) (sym c.index-calls-i.is) in
    let answers : take (i + 1) (set c.loop-i.answers i answer) ≡ take i c.loop-i.answers ++ answer ∷ [] = take_more_set c.loop-i.answers i answer m in
    let more = run_more (in_force g.W.OrderedWeight.no_lighter (g.C.Calendar.mask c.args.calendar.now)) (at (rows_in c.args.plan.now) c.args.store.now) (take i c.args.calls.now) (take i c.loop-i.answers)
    (at (rows_in c.loop-i.plan) c.loop-i.store) (at (rows_in c.perform-answer.new.plan) c.perform-answer.new.store) call answer c.loop-i.invariant.0 c.perform-answer.ensures.outcome in (
      rw (calls, answers) more,
      drop-set-lt (i + 1) c.loop-i.answers i answer (omega arith) ∙ (sym (drop-drop 1 i c.loop-i.answers) ∙ (ap (drop 1) c.loop-i.invariant.1 ∙ drop-drop 1 i c.args.answers.now)),
    )

pub returns : goal.returns
returns g c =
    let rules = in_force g.W.OrderedWeight.no_lighter (g.C.Calendar.mask c.args.calendar.now) in
    let weighs : Weighs g.W.OrderedWeight.no_lighter = record { total = g.met.W.OrderedWeight.total; trans = g.met.W.OrderedWeight.transitive } in
    let begin = at (rows_in c.args.plan.now) c.args.store.now in
    let end = at (rows_in c.loop-i.plan) c.loop-i.store in
    let n = c.min-performed.result in
    let all : c.loop-i.i ≡ n = omega arith in
    let run = subst (λ (k : ℕ). Run rules begin (take k c.args.calls.now) (take k c.loop-i.answers) end) all c.loop-i.invariant.0 in
    let whole = λ (table : List (Job g.row.W.Denot)) (plan : PlanAt rules table begin).
    run_promised rules weighs (heavier_then_lower_ranks g.W.OrderedWeight.no_lighter weighs) table begin end (take n c.args.calls.now) (take n c.loop-i.answers) plan run in
    record {
      value = c.min-performed.ensures;
      leaves = subst (λ (k : ℕ). drop k c.loop-i.answers ≡ drop k c.args.answers.now) all c.loop-i.invariant.1;
      run = run;
      promised = whole;
      opened = λ e. whole [] (subst (λ rows. PlanAt rules [] (at rows c.args.store.now)) (sym e) (starts rules c.args.store.now));
    }
