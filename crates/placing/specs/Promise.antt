-- What is promised of a plan, and of each change. Weights lie beside the rows, in a store: that of row i at i. Assumes nothing.
--   no_lighter v w                    the weight v is at least as heavy as w
--   before a b                        job a ranks before job b
--   first r s                         of two ready jobs, that of row r is seated first
--   jobs_of rows weights              the rows with their weights, as jobs
--   SameJobs xs ys                    the same jobs, in whatever order
--   InRankOrder before xs             each job ranks before the next
--   PlanOf ..                         rows and store are the plan of the table: its jobs in rank order, drawn
--   kept_above no_lighter level ..    how many rows are kept with a weight at or above the level
--   Best no_lighter mask ..           no rival keeps more at any level
--   Reasons no_lighter mask ..        each dropped row has a stretch, full of kept rows no lighter with their windows inside
--   Sound ..                          the plan of the table, best and with its reasons
--   total_of_kept nothing plus ..     the total of the kept rows' weights
--   Heaviest .. over mask ..          no rival's total is heavier: `over x y` says that x is at least as heavy as y
--   Changed before after number       the number's standing differs
--   OneOther before after named a     a = (kept, other): `kept` is whether the named job is kept after, and but for it `other` alone changed, if any
use Rattle.std.specs.Prelude.{◌≡◌, ℕ, suc, ◌<◌, ◌≤◌, Bool, true, cond, ◌&&◌, List, [], ◌∷◌, length, take, is_some, Some, None, Option, ◌≢◌, slice_index_or}
use Rattle.jobs.specs.declared.terms.Row.{Row}
use Rattle.jobs.specs.declared.terms.Seat.{Seat}
use Rattle.jobs.specs.declared.terms.Job.{Job}
use Rattle.jobs.specs.declared.terms.Standing.{Standing}
use Rattle.jobs.specs.declared.terms.Standing.TheVariants as standings
use Rattle.placing.specs.Placing.{row, Open, Dropped, Rival, Apart}
use Rattle.placing.specs.Plan.{Drawn, Stretch, Stands}

abbrev pub job_of : {W : Type 0} → Row → W → Job W
job_of r w = record { number = r.number; ready = r.ready; deadline = r.deadline; weight = w }

abbrev pub jobs_of : {W : Type 0} → List Row → List W → List (Job W)
jobs_of [] ws = []
jobs_of (r ∷ rs) [] = []
jobs_of (r ∷ rs) (w ∷ ws) = job_of r w ∷ jobs_of rs ws

abbrev pub Member : {W : Type 0} → Job W → List (Job W) → Type 0
Member j xs = (i : ℕ) × (i < length xs) × (slice_index_or xs i j ≡ j)

abbrev pub SameJobs : {W : Type 0} → List (Job W) → List (Job W) → Type 0
SameJobs {W} xs ys = (length xs ≡ length ys) × ((j : Job W) → Member j xs → Member j ys) × ((j : Job W) → Member j ys → Member j xs)

abbrev pub InRankOrder : {W : Type 0} → (Job W → Job W → Bool) → List (Job W) → Type 0
InRankOrder {W} before xs = (i : ℕ) (d : Job W) → suc i < length xs → before (slice_index_or xs i d) (slice_index_or xs (suc i) d) ≡ true

pub record PlanOf {W : Type 0} (before : Job W → Job W → Bool) (first : Row → Row → Bool) (mask : ℕ → ℕ) (table : List (Job W)) (rows : List Row) (store : List W) : Type 0 where
  pub few : length rows ≤ 256
  pub stored : length rows ≤ length store
  pub apart : Apart rows
  pub jobs : SameJobs table (jobs_of rows (take (length rows) store))
  pub ranked : InRankOrder before (jobs_of rows (take (length rows) store))
  pub drawn : Drawn first mask rows

module _ {W : Type 0} (no_lighter : W → W → Bool) where
  abbrev pub kept_above : W → List Row → List W → ℕ
  kept_above level [] ws = 0
  kept_above level (r ∷ rs) [] = 0
  kept_above level (r ∷ rs) (w ∷ ws) = cond (is_some r.seat && no_lighter w level) (suc (kept_above level rs ws)) (kept_above level rs ws)

  abbrev pub Best : (ℕ → ℕ) → List Row → List W → Type 0
  Best mask rows store = (level : W) (others : List Row) → Rival mask rows others → kept_above level others store ≤ kept_above level rows store

  pub record Reasons (mask : ℕ → ℕ) (rows : List Row) (store : List W) : Type 0 where
    pub stretch : (i : ℕ) → i < length rows → Dropped rows i → (lo : ℕ) × (hi : ℕ) × Stretch rows i lo hi
    pub full : (i lo hi : ℕ) → i < length rows → Dropped rows i → Stretch rows i lo hi → (p : Seat) → Open mask p → lo ≤ p.slot → p.slot < hi →
        (j : ℕ) × (j < length rows) × ((row rows j).seat ≡ Some p) × ((d : W) → no_lighter (slice_index_or store j d) (slice_index_or store i d) ≡ true)
        × (lo ≤ (row rows j).ready) × ((row rows j).deadline ≤ hi)

  pub record Sound (before : Job W → Job W → Bool) (first : Row → Row → Bool) (mask : ℕ → ℕ) (table : List (Job W)) (rows : List Row) (store : List W) : Type 0 where
    pub plan : PlanOf before first mask table rows store
    pub best : Best mask rows store
    pub reasons : Reasons mask rows store

module _ {W X : Type 0} (nothing : X) (plus : X → W → X) where
  abbrev pub total_of_kept : List Row → List W → X
  total_of_kept [] ws = nothing
  total_of_kept (r ∷ rs) [] = nothing
  total_of_kept (r ∷ rs) (w ∷ ws) = cond (is_some r.seat) (plus (total_of_kept rs ws) w) (total_of_kept rs ws)

  abbrev pub Heaviest : (X → X → Bool) → (ℕ → ℕ) → List Row → List W → Type 0
  Heaviest over mask rows store = (others : List Row) → Rival mask rows others → over (total_of_kept rows store) (total_of_kept others store) ≡ true

abbrev pub Changed : List Row → List Row → ℕ → Type 0
Changed before after number = (a b : Standing) → Stands before number a → Stands after number b → a ≢ b

abbrev pub OneOther : List Row → List Row → ℕ → Bool × Option ℕ → Type 0
OneOther before after named (kept, None) = (kept ≡ true → Stands after named standings.Kept) × (Stands after named standings.Kept → kept ≡ true)
    × ((n : ℕ) → (n ≢ named) → Changed before after n → ⊥)
OneOther before after named (kept, Some other) = (kept ≡ true → Stands after named standings.Kept) × (Stands after named standings.Kept → kept ≡ true)
    × (other ≢ named) × Changed before after other × ((n : ℕ) → (n ≢ named) → (n ≢ other) → Changed before after n → ⊥)
