-- The text of an account. Assumes nothing.
--   job_line written job    a job's line, where weights are written so
--   head_lines ..           the four lines before the jobs
--   refusal_line fault      the line of a refusal
--   Account ..              the account of a sheet: its head, then all its jobs in rank order, a line each
use Rattle.std.specs.Prelude.{◌≡◌, ℕ, Bool, List, ◌++◌, length, codes, decimal}
use Rattle.std.specs.List.{flat_map}
use Rattle.std.specs.List.Sorted.{IsPermutation}
use Rattle.calendars.specs.Masks.{listed_mask}
use Rattle.calendars.specs.Places.{opens}
use Rattle.jobs.specs.declared.terms.Job.{Job}
use Rattle.sheets.specs.declared.fault.LoadFault.{LoadFault}
use Rattle.sheets.specs.Faults.{load_fault_number, load_fault_byte}
use Rattle.sheets.specs.Format.{job_records}
use Rattle.sheet_check.specs.Ranks.{Ranked}

abbrev pub job_line : {W : Type 0} → (W → List ℕ) → Job W → List ℕ
job_line written job =
    codes "job " ++ (decimal job.number ++ (codes " ready " ++ (decimal job.ready ++ (codes " deadline " ++ (decimal job.deadline ++ (codes " weight " ++ (written job.weight ++ codes "\n")))))))

abbrev pub head_lines : (kind : List ℕ) (end places jobs : ℕ) → List ℕ
head_lines kind end places jobs =
    codes "kind " ++ (kind ++ (codes "\ncalendar end " ++ (decimal end ++ (codes "\nopen places " ++ (decimal places ++ (codes "\njobs " ++ (decimal jobs ++ codes "\n")))))))

abbrev pub refusal_line : LoadFault → List ℕ
refusal_line fault = codes "refused " ++ (decimal (load_fault_number fault) ++ (codes " at " ++ (decimal (load_fault_byte fault) ++ codes "\n")))

-- the account of a sheet with these masks and job records: its head, and then all its jobs, in rank order
pub record Account {W : Type 0} (no_lighter : W → W → Bool) (encoding : W → List ℕ) (called : List ℕ) (written : W → List ℕ) (masks records : List ℕ) (count : ℕ) (text : List ℕ) : Type 0 where
  pub ranked : List (Job W)
  pub order : Ranked no_lighter ranked
  pub all : (jobs : List (Job W)) → records ≡ job_records encoding jobs → length jobs ≡ count → IsPermutation jobs ranked
  pub bytes : text ≡ head_lines called (length masks) (opens (listed_mask masks) 1024) count ++ flat_map (job_line written) ranked
