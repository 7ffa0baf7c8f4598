-- One step of the reader, and all its steps over the job records: what the reader's inner functions answer. Assumes nothing.
--   JobRead      the record at byte `at` is that of a job which the table takes beside the jobs before it; `next` is the byte behind it
--   JobAnswer    what the reader answers at one job record
--   JobsRead     the job records from byte `first` up to `at`
--   JobsRefused  the first of the job records from byte `first` on that is refused
use Rattle.std.specs.Prelude.{◌≡◌, ℕ, ◌-◌, ◌<◌, ◌≤◌, List, [], ◌++◌, length, take, drop, Result, MatchResult}
use Rattle.jobs.specs.declared.terms.Job.{Job}
use Rattle.jobs.specs.Admission.{Admissible, taken, Admitted}
use Rattle.sheets.specs.declared.fault.LoadFault.{LoadFault}
use Rattle.sheets.specs.Faults.{load_fault_byte}
use Rattle.sheets.specs.Format.{record_bytes, job_value, job_records, JobCause}

module _ {W : Type 0} (code width : ℕ) (encoding : W → List ℕ) where
  pub record JobRead (before : List (Job W)) (sheet : List ℕ) (at next : ℕ) : Type 0 where
    pub job : Job W
    pub bytes : drop at sheet ≡ record_bytes 3 (job_value encoding job) ++ drop next sheet
    pub within : (at < next) × (next ≤ length sheet)
    pub admissible : Admissible job.number job.ready job.deadline (taken job.number before) (length before)

  abbrev pub JobAnswer : List (Job W) → List ℕ → ℕ → Result ℕ LoadFault → Type 0
  JobAnswer before sheet at answer =
      MatchResult answer (JobRead before sheet at) (λ fault. (load_fault_byte fault ≡ at) × JobCause code width encoding before (drop at sheet) fault)

  -- the bytes from `first` up to `at` are the records of jobs that the table takes
  pub record JobsRead (sheet : List ℕ) (first at count : ℕ) : Type 0 where
    pub jobs : List (Job W)
    pub bytes : take (at - first) (drop first sheet) ≡ job_records encoding jobs
    pub number : length jobs ≡ count
    pub table : Admitted [] jobs
    pub within : (first ≤ at) × (at ≤ length sheet)

  -- the first job record that is refused, behind those that are read
  pub record JobsRefused (sheet : List ℕ) (first : ℕ) (fault : LoadFault) : Type 0 where
    pub count : ℕ
    pub read : JobsRead sheet first (load_fault_byte fault) count
    pub more : load_fault_byte fault < length sheet
    pub cause : JobCause code width encoding read.jobs (drop (load_fault_byte fault) sheet) fault
