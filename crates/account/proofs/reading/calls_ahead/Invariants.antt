use Rattle.std.proofs.Common.{◌≡◌, ◌++◌, map, length, vec_items}
use Rattle.account.specs.Words.{lines_of}
use Rattle.account.specs.Commands.{call_figures, calls_ahead}
use Rattle.account.proofs.reading.calls_ahead.Given as goal

-- the calls so far, and those of what is left
abbrev pub invariant-loop-rest : goal.invariant-loop-rest
invariant-loop-rest g l =
    calls_ahead g.W.WrittenWeight.figures_in (lines_of l.text) ≡ map (call_figures g.W.WrittenWeight.figures) (vec_items l.calls) ++ calls_ahead g.W.WrittenWeight.figures_in (lines_of l.rest)

abbrev pub decreases-loop-rest : goal.decreases-loop-rest
decreases-loop-rest g l = length l.rest
