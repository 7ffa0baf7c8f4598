-- How long a front of a sheet decides its reading. Assumes nothing.
--   Decided front         whatever follows the front, the sheet's reading is known from it
--   accepted              the front is too long to be a whole sheet
--   refused               the fault of the front is the fault of each sheet that begins with it
--   FrontDecides limit    this holds of every front of at least `limit` bytes
use Rattle.std.specs.Prelude.{ℕ, ◌≤◌, List, ◌++◌, length}
use Rattle.sheets.specs.declared.fault.LoadFault.{LoadFault}
use Rattle.sheets.specs.Format.{Accepted, Refused}

module _ {W : Type 0} (code width : ℕ) (encoding : W → List ℕ) where
  pub record Decided (front : List ℕ) : Type 0 where
    pub accepted : (masks records : List ℕ) (count : ℕ) → Accepted code width encoding front masks records count → ⊥
    pub refused : (more : List ℕ) (fault : LoadFault) → Refused code width encoding front fault → Refused code width encoding (front ++ more) fault

  abbrev pub FrontDecides : ℕ → Type 0
  FrontDecides limit = (front : List ℕ) → limit ≤ length front → Decided front
