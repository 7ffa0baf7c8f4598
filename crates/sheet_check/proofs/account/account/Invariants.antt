use Rattle.std.proofs.Common.{◌≡◌, ◌++◌, take, string_bytes}
use Rattle.std.specs.List.{flat_map}
use Rattle.sheet_check.specs.Accounts.{job_line}
use Rattle.sheet_check.proofs.account.account.Given as goal

-- the head, and a line for each of the first jobs
abbrev pub invariant-loop-job : goal.invariant-loop-job
invariant-loop-job g l =
    string_bytes l.text ≡ string_bytes l.initial.text ++ flat_map (job_line g.W.PrintedWeight.written) (take l.job-index l.job-items)
