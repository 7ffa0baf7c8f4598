-- That no cause holds against a call, and what it has shown then. Assumes nothing.
use Rattle.std.proofs.Common.{ℕ, ◌<◌, Bool, List, length, refl, inl, inr, arith}
use Rattle.std.proofs.lemmas.Bool.{cases_lt}
use Rattle.jobs.specs.Admission.{Window}
use Rattle.jobs.specs.declared.terms.Row.{Row}
use Rattle.jobs.specs.declared.terms.Job.{Job}
use Rattle.jobs.specs.declared.terms.TableFault.{TableFault}
use Rattle.jobs.specs.declared.terms.TableFault.TheVariants.{NumberZero, NoWindow, NumberTaken, TableFull}
use Rattle.jobs.specs.declared.terms.Standing.TheVariants.{Absent}
use Rattle.placing.specs.Plan.{Stands}
use Rattle.calls.specs.declared.terms.Call.{Call}
use Rattle.calls.specs.declared.terms.Call.TheVariants.{Offer}
use Rattle.calls.specs.declared.terms.StoreFault.{StoreFault}
use Rattle.calls.specs.declared.terms.StoreFault.TheVariants.{TooShort, OutOfRank}
use Rattle.calls.specs.declared.terms.CallFault.TheVariants.{Store, Table, NumberUnknown}
use Rattle.calls.specs.Calls.{Cause, NoCause}
use Rattle.calls.specs.Moments.{Moment, at}
use Rattle.questions.specs.Stores.{StoreGood}

module _ {W : Type 0} (before : Job W → Job W → Bool) (rows : List Row) (store : List W) where
  abbrev m : Moment W
  m = at rows store

  module _ (good : StoreGood before rows store) where
    no_store : (c : Call W) (f : StoreFault) → Cause before c m (Store f) → ⊥
    no_store c TooShort x = let l = good.0 in omega arith
    no_store c OutOfRank x = x good.1

  -- what an offer that no cause holds against has shown
  pub offer_window : (j : Job W) → NoCause before (Offer j) m → Window j.ready j.deadline
  offer_window j allowed =
      let w : (Window j.ready j.deadline → ⊥) → ⊥ = λ x. allowed (Table (NoWindow j.number)) (refl, x) in
      elim (cases_lt j.ready j.deadline) [
        | inr h ↦ absurd (w (λ x. let y = x.0 in omega arith))
        | inl h ↦ elim (cases_lt 1024 j.deadline) [ inl k ↦ absurd (w (λ x. let y = x.1 in omega arith)) | inr k ↦ (h, k) ]
      ]

  pub offer_number : (j : Job W) → NoCause before (Offer j) m → 0 < j.number
  offer_number j allowed = elim (cases_lt 0 j.number) [ inl h ↦ h | inr h ↦ absurd (allowed (Table (NumberZero j.number)) (refl, omega arith)) ]

  pub offer_absent : (j : Job W) → NoCause before (Offer j) m → Stands rows j.number Absent
  offer_absent j allowed i l e = allowed (Table (NumberTaken j.number)) (refl, λ absent. absent i l e)

  pub offer_room : (j : Job W) → NoCause before (Offer j) m → length rows < 256
  offer_room j allowed = elim (cases_lt (length rows) 256) [ inl h ↦ h | inr h ↦ absurd (allowed (Table (TableFull j.number)) (refl, h)) ]

  -- nor against a call that names a job of the table
  pub name_allowed : (c : Call W) (n : ℕ) → ((f : TableFault) → Cause before c m (Table f) → ⊥) → (Cause before c m NumberUnknown → Stands rows n Absent) →
      StoreGood before rows store → (Stands rows n Absent → ⊥) → NoCause before c m
  name_allowed c n none to good known (Store f) x = no_store good c f x
  name_allowed c n none to good known (Table f) x = none f x
  name_allowed c n none to good known NumberUnknown x = known (to x)
