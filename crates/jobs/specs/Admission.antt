-- When a table takes a job, and the first cause for which it does not. Assumes nothing.
--   Window ready deadline    the window is not empty and ends by slot 1,024
--   Admissible ..            the table takes the job: no cause holds
--   RefusedFor .. fault      the fault's cause holds, and none that is checked before it
--   taken number jobs        whether one of the jobs has the number
--   Admitted before jobs     a table that holds the jobs `before` takes these too, one after the other
--   table_fault_number       the refusal's number
--   table_fault_job          the number of the job that was refused
use Rattle.std.specs.Prelude.{◌≡◌, ℕ, ◌<◌, ◌≤◌, Bool, true, false, ◌||◌, List, [], ◌∷◌, ◌++◌, length, ◌==◌}
use Rattle.jobs.specs.declared.terms.Job.{Job}
use Rattle.jobs.specs.declared.terms.TableFault.{TableFault}
use Rattle.jobs.specs.declared.terms.TableFault.TheVariants.{NumberZero, NoWindow, NumberTaken, TableFull}

abbrev pub Window : ℕ → ℕ → Type 0
Window ready deadline = (ready < deadline) × (deadline ≤ 1024)

-- `taken`: a job of the table has this number; `count`: how many jobs the table has
abbrev pub Admissible : (number ready deadline : ℕ) (taken : Bool) (count : ℕ) → Type 0
Admissible number ready deadline taken count = (0 < number) × Window ready deadline × (taken ≡ false) × (count < 256)

abbrev pub RefusedFor : (number ready deadline : ℕ) (taken : Bool) (count : ℕ) → TableFault → Type 0
RefusedFor number ready deadline taken count (NumberZero job) = (job ≡ number) × (number ≡ 0)
RefusedFor number ready deadline taken count (NoWindow job) = (job ≡ number) × (0 < number) × (Window ready deadline → ⊥)
RefusedFor number ready deadline taken count (NumberTaken job) = (job ≡ number) × (0 < number) × Window ready deadline × (taken ≡ true)
RefusedFor number ready deadline taken count (TableFull job) = (job ≡ number) × (0 < number) × Window ready deadline × (taken ≡ false) × (256 ≤ count)

module _ {W : Type 0} where
  abbrev pub taken : ℕ → List (Job W) → Bool
  taken number [] = false
  taken number (job ∷ jobs) = job.number == number || taken number jobs

  abbrev pub Admitted : List (Job W) → List (Job W) → Type 0
  Admitted before [] = Unit {0}
  Admitted before (job ∷ jobs) = Admissible job.number job.ready job.deadline (taken job.number before) (length before) × Admitted (before ++ (job ∷ [])) jobs

abbrev pub table_fault_number : TableFault → ℕ
table_fault_number (NumberZero job) = 8
table_fault_number (NoWindow job) = 9
table_fault_number (NumberTaken job) = 10
table_fault_number (TableFull job) = 11

abbrev pub table_fault_job : TableFault → ℕ
table_fault_job (NumberZero job) = job
table_fault_job (NoWindow job) = job
table_fault_job (NumberTaken job) = job
table_fault_job (TableFull job) = job
