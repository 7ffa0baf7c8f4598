-- Jobs as rows of a plan. Assumes nothing.
--   unseated job    the row of a job that has no seat
use Rattle.std.specs.Prelude.{None}
use Rattle.jobs.specs.declared.terms.Job.{Job}
use Rattle.jobs.specs.declared.terms.Row.{Row}

abbrev pub unseated : {W : Type 0} → Job W → Row
unseated job = record { number = job.number; ready = job.ready; deadline = job.deadline; seat = None }
