use Rattle.std.proofs.Common.{take, string_bytes}
use Rattle.plan.specs.Plans.{rows_in}
use Rattle.account.specs.Answers.{Printed}
use Rattle.account.proofs.asking.plan_text.Given as goal

-- a line for each of the first rows
abbrev pub invariant-loop-row : goal.invariant-loop-row
invariant-loop-row l = Printed (rows_in l.plan) (take l.row-index l.row-items) (string_bytes l.text)
