-- A written sheet and its reading. Assumes nothing.
--   no_lighter v w    the weight v is at least as heavy as w
--   ReadsBack ..      the sheet is read, with these masks and these jobs, and in no other way
--   accepted          it is read with the masks and the records of the jobs
--   same              these are the jobs of that reading
--   alone             it has one reading
--   WrittenBack ..    a sheet with its jobs in rank order that is read, planned and written under its listed calendar is written as it was
use Rattle.std.specs.Prelude.{◌≡◌, ℕ, Bool, List, length}
use Rattle.weights.specs.Kind.{Octets}
use Rattle.calendars.specs.Masks.{listed_end, listed_mask}
use Rattle.jobs.specs.declared.terms.Row.{Row}
use Rattle.jobs.specs.declared.terms.Job.{Job}
use Rattle.placing.specs.Orders.{heavier_then_lower}
use Rattle.placing.specs.Promise.{InRankOrder}
use Rattle.calls.specs.Moments.{in_force, at, PlanAt}
use Rattle.sheets.specs.Format.{job_records, Accepted}
use Rattle.sheets.specs.Reading.{ReadOnce}
use Rattle.writing.specs.Written.{written_sheet}

-- a kind of weight stands here by its code, the width of its weights and their bytes
module _ {W : Type 0} (code width : ℕ) (encoding : W → List ℕ) where
  pub record ReadsBack (sheet masks : List ℕ) (jobs : List (Job W)) : Type 0 where
    pub accepted : Accepted code width encoding sheet masks (job_records encoding jobs) (length jobs)
    pub same : accepted.jobs ≡ jobs
    pub alone : ReadOnce code width encoding sheet

  -- `rows` and `store` may be planned under any calendar; the sheet is written under the one that its masks list, which ends where they do
  abbrev pub WrittenBack : (W → W → Bool) → Type 0
  WrittenBack no_lighter = (sheet masks records : List ℕ) (count : ℕ) (read : Accepted code width encoding sheet masks records count) → Octets masks → InRankOrder (heavier_then_lower no_lighter) read.jobs
      → (rows : List Row) (store : List W) (mask : ℕ → ℕ) → PlanAt (in_force no_lighter mask) read.jobs (at rows store)
      → written_sheet code encoding (listed_end masks) (listed_mask masks) rows store ≡ sheet
