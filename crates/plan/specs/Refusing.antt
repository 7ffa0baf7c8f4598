-- Why a call that names a job is refused. Assumes nothing.
--   NameRefused before rows store n f      f is the first cause against a call that names the number n: the store, and then that no row has the number
use Rattle.std.specs.Prelude.{ℕ, Bool, List}
use Rattle.jobs.specs.declared.terms.Row.{Row}
use Rattle.jobs.specs.declared.terms.Job.{Job}
use Rattle.jobs.specs.declared.terms.Standing.TheVariants.{Absent}
use Rattle.placing.specs.Plan.{Stands}
use Rattle.calls.specs.declared.terms.CallFault.{CallFault}
use Rattle.calls.specs.declared.terms.CallFault.TheVariants.{Store, Table, NumberUnknown}
use Rattle.questions.specs.Stores.{StoreGood, StoreRefused}

module _ {W : Type 0} (before : Job W → Job W → Bool) (rows : List Row) (store : List W) where
  abbrev pub NameRefused : ℕ → CallFault → Type 0
  NameRefused n (Store f) = StoreRefused before rows store f
  NameRefused n (Table f) = ⊥
  NameRefused n NumberUnknown = StoreGood before rows store × Stands rows n Absent
