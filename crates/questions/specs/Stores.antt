-- Whether a weight store serves the rows that it lies beside. Assumes nothing.
--   before a b                    job a ranks before job b
--   StoreGood before ..           the store has 256 entries or more, and its first ones put the rows in rank order
--   StoreRefused before .. f      f is what is wrong with the store: its length, and only then its rank order
--   Counted rows store            there are at most 256 rows, and the store has a weight for each
use Rattle.std.specs.Prelude.{◌<◌, ◌≤◌, Bool, List, length}
use Rattle.jobs.specs.declared.terms.Row.{Row}
use Rattle.jobs.specs.declared.terms.Job.{Job}
use Rattle.calls.specs.Moments.{Ordered}
use Rattle.calls.specs.declared.terms.StoreFault.{StoreFault}
use Rattle.calls.specs.declared.terms.StoreFault.TheVariants.{TooShort, OutOfRank}

module _ {W : Type 0} (before : Job W → Job W → Bool) (rows : List Row) (store : List W) where
  abbrev pub StoreGood : Type 0
  StoreGood = (256 ≤ length store) × Ordered before rows store

  abbrev pub StoreRefused : StoreFault → Type 0
  StoreRefused TooShort = length store < 256
  StoreRefused OutOfRank = (256 ≤ length store) × (Ordered before rows store → ⊥)

abbrev pub Counted : {W : Type 0} → List Row → List W → Type 0
Counted rows store = (length rows ≤ 256) × (length rows ≤ length store)
