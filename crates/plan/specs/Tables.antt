-- A table as the list of its rows. Assumes nothing.
--   rows_of table      the rows in use, in rank order
use Rattle.std.specs.Prelude.{List, take}
use Rattle.jobs.specs.declared.terms.Row.{Row}
use Rattle.plan.specs.declared.table.Table.{Table}

abbrev pub rows_of : Table → List Row
rows_of table = take table.count table.rows
