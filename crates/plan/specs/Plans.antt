-- A plan as the list of its rows. Assumes nothing.
--   rows_in plan      its rows, in rank order
use Rattle.std.specs.Prelude.{List}
use Rattle.jobs.specs.declared.terms.Row.{Row}
use Rattle.plan.specs.declared.planner.Plan.{Plan}
use Rattle.plan.specs.Tables.{rows_of}

abbrev pub rows_in : Plan → List Row
rows_in plan = rows_of plan.table
