-- A plan with the weight store beside it, at one moment, and the rules that are in force. Assumes nothing.
--   Rules W               which weight is no lighter, who ranks before whom, who is seated first, and the masks of the calendar
--   in_force              the rules in force: heavier first and then the lower number; earliest deadline first and then the lower number
--   Moment W, at          the rows of a plan, in rank order, and what the store holds
--   jobs_in rows store    the rows with the weights that the store has for them, as jobs
--   table_at m            the table that a moment shows
--   Ordered before ..     the store has a weight for each row, and these put the rows in rank order
--   PlanAt rules t m      at this moment rows and store are the plan of the table t
--   SoundAt rules t m     and it is best, and each dropped job has its reason
use Rattle.std.specs.Prelude.{ℕ, ◌≤◌, Bool, List, length, take}
use Rattle.jobs.specs.declared.terms.Row.{Row}
use Rattle.jobs.specs.declared.terms.Job.{Job}
use Rattle.placing.specs.Orders.{heavier_then_lower, earliest_then_lower}
use Rattle.placing.specs.Promise.{jobs_of, InRankOrder, PlanOf, Sound}

pub record Rules (W : Type 0) : Type 0 where
  pub no_lighter : W → W → Bool
  pub before : Job W → Job W → Bool
  pub first : Row → Row → Bool
  pub mask : ℕ → ℕ

abbrev pub in_force : {W : Type 0} → (W → W → Bool) → (ℕ → ℕ) → Rules W
in_force no_lighter mask = record { no_lighter = no_lighter; before = heavier_then_lower no_lighter; first = earliest_then_lower; mask = mask }

pub record Moment (W : Type 0) : Type 0 where
  pub rows : List Row
  pub store : List W

module _ {W : Type 0} where
  abbrev pub at : List Row → List W → Moment W
  at rows store = record { rows = rows; store = store }

  abbrev pub jobs_in : List Row → List W → List (Job W)
  jobs_in rows store = jobs_of rows (take (length rows) store)

  abbrev pub table_at : Moment W → List (Job W)
  table_at m = jobs_in m.rows m.store

  pub record Ordered (before : Job W → Job W → Bool) (rows : List Row) (store : List W) : Type 0 where
    pub stored : length rows ≤ length store
    pub ranked : InRankOrder before (jobs_in rows store)

  abbrev pub PlanAt : Rules W → List (Job W) → Moment W → Type 0
  PlanAt rules table m = PlanOf rules.before rules.first rules.mask table m.rows m.store

  abbrev pub SoundAt : Rules W → List (Job W) → Moment W → Type 0
  SoundAt rules table m = Sound rules.no_lighter rules.before rules.first rules.mask table m.rows m.store
