use Rattle.std.proofs.Common.{[], take, ⊎_elim}
use Rattle.placing.specs.Orders.{Weighs, Totals}
use Rattle.placing.proofs.Orders.{heavier_then_lower_ranks}
use Rattle.calls.specs.Moments.{in_force, at}
use Rattle.calls.proofs.Runs.{promised_totals}
use Rattle.plan.specs.Plans.{rows_in}
use Rattle.runs.proofs.replay_totalled.Goals as goal

pub returns : goal.returns
returns g c =
    let no_lighter = g.W.OrderedWeight.no_lighter in
    let plus = g.W.TotalledWeight.plus in
    let over = g.W.TotalledWeight.over in
    let met = g.met.W.TotalledWeight in
    let weighs : Weighs no_lighter = record { total = g.met.W.OrderedWeight.total; trans = g.met.W.OrderedWeight.transitive } in
    let totals : Totals no_lighter plus over = record {
      same = λ x. ⊎_elim (λ e. e) (λ e. e) (met.ordered x x);
      trans = met.chained;
      keeps = met.keeps;
      heavier = c.nothing.ensures.agrees;
      more = met.grows;
    } in
    let begin = at (rows_in c.args.plan.now) c.args.store.now in
    let end = at (rows_in c.replay.new.plan) c.replay.new.store in
    let calls = take c.replay.result c.args.calls.now in
    let answers = take c.replay.result c.replay.new.answers in
    let more = promised_totals g.W.TotalledWeight.nothing plus over (in_force no_lighter (g.C.Calendar.mask c.args.calendar.now)) weighs (heavier_then_lower_ranks no_lighter weighs) totals in
    record {
      value = c.replay.ensures.value;
      leaves = c.replay.ensures.leaves;
      run = c.replay.ensures.run;
      promised = λ table plan. more table begin end calls answers (c.replay.ensures.promised table plan);
      opened = λ e. more [] begin end calls answers (c.replay.ensures.opened e);
    }
