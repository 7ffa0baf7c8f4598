use Rattle.std.proofs.Common.{◌≡◌, take, drop}
use Rattle.calls.specs.Calls.{Run}
use Rattle.calls.specs.Moments.{in_force, at}
use Rattle.plan.specs.Plans.{rows_in}
use Rattle.runs.proofs.replay.Given as goal

-- the calls so far, with their answers, have led here
abbrev pub invariant-loop-i : goal.invariant-loop-i
invariant-loop-i g l =
    Run (in_force g.W.OrderedWeight.no_lighter (g.C.Calendar.mask l.calendar)) (at (rows_in l.initial.plan) l.initial.store) (take l.i l.calls) (take l.i l.answers) (at (rows_in l.plan) l.store)
    × (drop l.i l.answers ≡ drop l.i l.initial.answers)
