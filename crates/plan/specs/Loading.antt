-- What a load makes of a plan and the store beside it. Assumes nothing.
--   mask_of carried_on masks    the masks of the calendar in force: those of the sheet, ending or carried on
--   Loaded ..                   a load that is not refused: the sheet is read, and the plan is that of its jobs under this calendar
--     sound                     best and with its reasons
--     rest                      behind the jobs' weights the store is as before
--   LoadRefused ..              a load that is refused: the store is too short, or else the sheet has this fault
--   load_refusal_number         the refusal's number
--   load_refusal_byte           the byte of the refused record's tag, where a record is refused
--   load_refusal_job            the number of the job, where the table refused it
use Rattle.std.specs.Prelude.{◌≡◌, ℕ, ◌<◌, ◌≤◌, Bool, true, false, List, length, drop, Some, None, Option}
use Rattle.calendars.specs.Masks.{listed_end, listed_mask, carried_mask}
use Rattle.calls.specs.Moments.{in_force, Moment, SoundAt}
use Rattle.sheets.specs.Faults.{load_fault_number, load_fault_byte, load_fault_job}
use Rattle.plan.specs.declared.refusal.LoadRefusal.{LoadRefusal}
use Rattle.plan.specs.declared.refusal.LoadRefusal.TheVariants.{StoreTooShort, Sheet}
use Rattle.sheets.specs.Format.{Accepted, Refused}

abbrev pub mask_of : Bool → List ℕ → ℕ → ℕ
mask_of true masks = carried_mask (listed_end masks) (listed_mask masks)
mask_of false masks = listed_mask masks

-- a kind of weight stands here by its code, the width of its weights, their bytes and their relation
module _ {W : Type 0} (code width : ℕ) (encoding : W → List ℕ) where
  pub record Loaded (no_lighter : W → W → Bool) (carried_on : Bool) (sheet masks : List ℕ) (m n : Moment W) : Type 0 where
    pub records : List ℕ
    pub count : ℕ
    pub read : Accepted code width encoding sheet masks records count
    pub sound : SoundAt (in_force no_lighter (mask_of carried_on masks)) read.jobs n
    pub rest : drop count n.store ≡ drop count m.store

  abbrev pub LoadRefused : (sheet : List ℕ) (store : List W) → LoadRefusal → Type 0
  LoadRefused sheet store StoreTooShort = length store < 256
  LoadRefused sheet store (Sheet fault) = (256 ≤ length store) × Refused code width encoding sheet fault

abbrev pub load_refusal_number : LoadRefusal → ℕ
load_refusal_number StoreTooShort = 14
load_refusal_number (Sheet fault) = load_fault_number fault

abbrev pub load_refusal_byte : LoadRefusal → Option ℕ
load_refusal_byte StoreTooShort = None
load_refusal_byte (Sheet fault) = Some (load_fault_byte fault)

abbrev pub load_refusal_job : LoadRefusal → Option ℕ
load_refusal_job StoreTooShort = None
load_refusal_job (Sheet fault) = load_fault_job fault
