-- The format of a job sheet, and when it is read or refused. Assumes nothing.
--   two n                           a number in two bytes, the high byte first
--   record_bytes tag value          a record: its tag, the length of its value in two bytes, its value
--   kind_record code                the record of a kind's code
--   job_value encoding job          number, ready slot and deadline in two bytes each, then the weight
--   job_records encoding jobs       the records of some jobs, one after the other
--   sheet_bytes code encoding ..    a sheet: kind, calendar, jobs
--   tag_of, length_of, Known        the header of the record at the front of some bytes
--   FrameFault                      the first cause against a record's frame
--   Framed                          a record whose frame is right
--   KindCause, CalendarCause        the first cause against the kind record, and against the calendar record
--   JobCause                        the first cause against a job's record
--   Accepted                        a sheet that is read, with its masks and the bytes of its job records
--   Refused                         a sheet that is refused, with its first fault: at its kind, its calendar or a job
--   JobAt                           the job whose value stands in the k-th of some records
use Rattle.std.specs.Prelude.{◌≡◌, ℕ, ◌+◌, ◌-◌, ◌*◌, ◌/◌, ◌%◌, ◌<◌, ◌≤◌, ◌⊎◌, List, [], ◌∷◌, ◌++◌, length, take, drop, ◌≢◌, slice_index}
use Rattle.jobs.specs.declared.terms.Job.{Job}
use Rattle.jobs.specs.Admission.{RefusedFor, taken, Admitted}
use Rattle.sheets.specs.declared.fault.LoadFault.{LoadFault}
use Rattle.sheets.specs.declared.fault.LoadFault.TheVariants.{Sheet, Table}
use Rattle.sheets.specs.declared.fault.SheetFault.{SheetFault}
use Rattle.sheets.specs.declared.fault.SheetFault.TheVariants.{EndsInside, UnknownTag, OutOfOrder, OtherKind, WrongLength, NoWeight}
use Rattle.sheets.specs.Faults.{load_fault_byte}

abbrev pub two : ℕ → List ℕ
two n = (n / 256) ∷ (n % 256) ∷ []

abbrev pub record_bytes : ℕ → List ℕ → List ℕ
record_bytes tag value = tag ∷ (two (length value) ++ value)

abbrev pub kind_record : ℕ → List ℕ
kind_record code = record_bytes 1 (code ∷ [])

-- a kind of weight stands here by the bytes of its weights
module _ {W : Type 0} (encoding : W → List ℕ) where
  abbrev pub job_value : Job W → List ℕ
  job_value job = two job.number ++ (two job.ready ++ (two job.deadline ++ encoding job.weight))

  abbrev pub job_records : List (Job W) → List ℕ
  job_records [] = []
  job_records (job ∷ jobs) = record_bytes 3 (job_value job) ++ job_records jobs

-- and by its code
abbrev pub sheet_bytes : {W : Type 0} → ℕ → (W → List ℕ) → List ℕ → List (Job W) → List ℕ
sheet_bytes code encoding masks jobs = kind_record code ++ (record_bytes 2 masks ++ job_records encoding jobs)

-- what the header of the record at the front of `rest` says
abbrev pub tag_of : List ℕ → ℕ
tag_of rest = slice_index rest 0

abbrev pub length_of : List ℕ → ℕ
length_of rest = slice_index rest 1 * 256 + slice_index rest 2

abbrev pub Known : ℕ → Type 0
Known tag = (1 ≤ tag) × (tag ≤ 3)

-- the first cause against the frame of the record at the front of `rest`, where a record with the tag `wanted` and a value of
-- `least` to `most` bytes is due: header complete, known tag, order, length, value complete
abbrev pub FrameFault : (wanted least most : ℕ) (rest : List ℕ) → SheetFault → Type 0
FrameFault wanted least most rest EndsInside = ((0 < length rest) × (length rest < 3))
    ⊎ ((3 ≤ length rest) × Known (tag_of rest) × (tag_of rest ≡ wanted) × (least ≤ length_of rest) × (length_of rest ≤ most) × (length rest < 3 + length_of rest))
FrameFault wanted least most rest UnknownTag = (3 ≤ length rest) × (Known (tag_of rest) → ⊥)
FrameFault wanted least most rest OutOfOrder = (length rest ≡ 0) ⊎ ((3 ≤ length rest) × Known (tag_of rest) × (tag_of rest ≢ wanted))
FrameFault wanted least most rest WrongLength = (3 ≤ length rest) × Known (tag_of rest) × (tag_of rest ≡ wanted) × ((least ≤ length_of rest) × (length_of rest ≤ most) → ⊥)
FrameFault wanted least most rest OtherKind = ⊥
FrameFault wanted least most rest NoWeight = ⊥

-- the record at the front of `rest` is whole, with a value of `least` to `most` bytes
pub record Framed (wanted least most : ℕ) (rest value : List ℕ) : Type 0 where
  pub long : (least ≤ length value) × (length value ≤ most)
  pub after : List ℕ
  pub bytes : rest ≡ record_bytes wanted value ++ after

-- the first cause against the kind record, where some codes are right
abbrev pub KindCause : (ℕ → Type 0) → List ℕ → LoadFault → Type 0
KindCause Right rest (Sheet fault byte) = FrameFault 1 1 1 rest fault ⊎ ((fault ≡ OtherKind) × ((code : ℕ) × Framed 1 1 1 rest (code ∷ []) × (Right code → ⊥)))
KindCause Right rest (Table fault byte) = ⊥

-- the first cause against the calendar record
abbrev pub CalendarCause : List ℕ → LoadFault → Type 0
CalendarCause rest (Sheet fault byte) = FrameFault 2 0 1024 rest fault
CalendarCause rest (Table fault byte) = ⊥

-- a sheet refused at its kind record, which is the first
pub record KindRefused (Right : ℕ → Type 0) (sheet : List ℕ) (fault : LoadFault) : Type 0 where
  pub byte : load_fault_byte fault ≡ 0
  pub cause : KindCause Right sheet fault

-- a kind of weight stands here by its code, the width of its weights and their bytes
module _ {W : Type 0} (code width : ℕ) (encoding : W → List ℕ) where
  -- after the frame, the weight; then what the table, with the jobs before it, has against the job
  abbrev pub JobCause : List (Job W) → List ℕ → LoadFault → Type 0
  JobCause before rest (Sheet fault byte) = FrameFault 3 (6 + width) (6 + width) rest fault
      ⊎ ((fault ≡ NoWeight) × ((value : List ℕ) × Framed 3 (6 + width) (6 + width) rest value × ((w : W) → encoding w ≢ drop 6 value)))
  JobCause before rest (Table fault byte) = (job : Job W) × Framed 3 (6 + width) (6 + width) rest (job_value encoding job)
      × RefusedFor job.number job.ready job.deadline (taken job.number before) (length before) fault

  -- the sheet is read: its masks, and the bytes of its job records
  pub record Accepted (sheet masks records : List ℕ) (count : ℕ) : Type 0 where
    pub jobs : List (Job W)
    pub bytes : sheet ≡ sheet_bytes code encoding masks jobs
    pub listed : records ≡ job_records encoding jobs
    pub number : length jobs ≡ count
    pub few : length masks ≤ 1024
    pub table : Admitted [] jobs

  -- the first record that is refused is the calendar or a job; all before it are right
  pub record CalendarRefused (sheet : List ℕ) (fault : LoadFault) : Type 0 where
    pub rest : List ℕ
    pub bytes : sheet ≡ kind_record code ++ rest
    pub byte : load_fault_byte fault ≡ length (kind_record code)
    pub cause : CalendarCause rest fault

  pub record JobRefused (sheet : List ℕ) (fault : LoadFault) : Type 0 where
    pub masks : List ℕ
    pub jobs : List (Job W)
    pub rest : List ℕ
    pub bytes : sheet ≡ sheet_bytes code encoding masks jobs ++ rest
    pub few : length masks ≤ 1024
    pub table : Admitted [] jobs
    pub more : 0 < length rest
    pub byte : load_fault_byte fault ≡ length (sheet_bytes code encoding masks jobs)
    pub cause : JobCause jobs rest fault

  abbrev pub Refused : List ℕ → LoadFault → Type 0
  Refused sheet fault = KindRefused (λ other. other ≡ code) sheet fault ⊎ (CalendarRefused sheet fault ⊎ JobRefused sheet fault)

-- the value of the k-th record, where each has `size` bytes and three of them are its header, is the job's
abbrev pub JobAt : {W : Type 0} → (W → List ℕ) → (size : ℕ) → List ℕ → ℕ → Job W → Type 0
JobAt encoding size records k job = (k * size + size ≤ length records) × (job_value encoding job ≡ take (size - 3) (drop (k * size + 3) records))
