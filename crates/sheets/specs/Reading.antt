-- A sheet has at most one reading: one acceptance or one fault, never both. Assumes nothing.
--   ReadOnce sheet    two readings of the sheet agree
--   accepted          two acceptances have the same masks, job records, count and jobs
--   either            no sheet is both accepted and refused
--   refused           two refusals have the same fault
--   OneReading        this holds of every sheet
use Rattle.std.specs.Prelude.{◌≡◌, ℕ, List}
use Rattle.sheets.specs.declared.fault.LoadFault.{LoadFault}
use Rattle.sheets.specs.Format.{Accepted, Refused}

module _ {W : Type 0} (code width : ℕ) (encoding : W → List ℕ) where
  pub record ReadOnce (sheet : List ℕ) : Type 0 where
    pub accepted : (m n p q : List ℕ) (c d : ℕ) (a : Accepted code width encoding sheet m p c) (b : Accepted code width encoding sheet n q d) → (m ≡ n) × (p ≡ q) × (c ≡ d) × (a.jobs ≡ b.jobs)
    pub either : (m p : List ℕ) (c : ℕ) (f : LoadFault) → Accepted code width encoding sheet m p c → Refused code width encoding sheet f → ⊥
    pub refused : (f g : LoadFault) → Refused code width encoding sheet f → Refused code width encoding sheet g → f ≡ g

  abbrev pub OneReading : Type 0
  OneReading = (sheet : List ℕ) → ReadOnce sheet
