-- The promises hold of every plan, and a table has one plan. Assumes nothing.
--   SameKept                 who is kept is settled by the jobs in rank order and the masks alone, whatever the order of service
--   DroppedHasFullStretch    a dropped row has a stretch, whose open places are all seats of rows kept before it with their windows inside
--   FrontKeepsMost           no rival keeps more of the first m rows, for each m
--   kept_among T rows        how many rows of the set T are kept
--   Reasoned mask T rows     each dropped row of T has its window in a run of slots whose open places are all seats of rows of T with their windows inside
--   ReasonedKeepsMost        a reasoned placing keeps as many rows of T as any rival, however it was found
--   ReasonsMakeBest          a placing with its reasons is best, however it was found
--   PlanSound                the plan of a table is best and has its reasons
--   TotalsFollowCounts       whoever keeps as many of each front in rank order has no lighter total
--   PlanHeaviest             no rival's total is heavier than that of the plan
--   OnePlan                  the same jobs in the same order, under equal masks, have one plan
--   PlanAlone                tables with the same jobs, in whatever order, under equal masks, have one plan, with the same weights
--   PlanExists               rows with numbers of their own have a plan
--   DrawnFrom                what code shows of rows that it drew: the kept rule, and each kept row where dealing in order has it
use Rattle.std.specs.Prelude.{◌≡◌, ℕ, ◌+◌, ◌*◌, ◌<◌, ◌≤◌, Bool, true, ◌&&◌, List, length, take, Some}
use Rattle.jobs.specs.declared.terms.Row.{Row}
use Rattle.jobs.specs.declared.terms.Seat.{Seat}
use Rattle.jobs.specs.declared.terms.Job.{Job}
use Rattle.dealing.specs.Counting.{count}
use Rattle.dealing.specs.Dealing.{DealtInOrder}
use Rattle.placing.specs.Placing.{row, Open, Dropped, Placing, SameTable, Rival, Apart}
use Rattle.placing.specs.Plan.{KeptRule, Drawn, Stretch}
use Rattle.placing.specs.Promise.{jobs_of, SameJobs, InRankOrder, PlanOf, Best, Reasons, Sound, total_of_kept, Heaviest}
use Rattle.placing.specs.Orders.{Weighs, Totals, RankOrder, ServiceOrder}
use Rattle.placing.specs.Index.{board_of, table_of, kept_of, order_of}

abbrev pub SameKept : Type 0
SameKept = (mask mask' : ℕ → ℕ) → ((s : ℕ) → mask s ≡ mask' s) → (rows others : List Row) → SameTable rows others → KeptRule mask rows → KeptRule mask' others →
    (i : ℕ) → i < length rows → kept_of rows i ≡ kept_of others i

abbrev pub DroppedHasFullStretch : Type 0
DroppedHasFullStretch = (mask : ℕ → ℕ) (rows : List Row) → KeptRule mask rows → Placing mask rows → (i : ℕ) → i < length rows → Dropped rows i →
    (lo : ℕ) × (hi : ℕ) × Stretch rows i lo hi ×
    ((p : Seat) → Open mask p → lo ≤ p.slot → p.slot < hi →
    (j : ℕ) × (j < i) × ((row rows j).seat ≡ Some p) × (lo ≤ (row rows j).ready) × ((row rows j).deadline ≤ hi))

abbrev pub FrontKeepsMost : Type 0
FrontKeepsMost = (mask : ℕ → ℕ) (rows others : List Row) → KeptRule mask rows → Rival mask rows others → (m : ℕ) → m ≤ length rows → count (kept_of others) m ≤ count (kept_of rows) m

abbrev pub kept_among : (ℕ → Bool) → List Row → ℕ
kept_among T rows = count (λ i. T i && kept_of rows i) (length rows)

abbrev pub Reasoned : (ℕ → ℕ) → (ℕ → Bool) → List Row → Type 0
Reasoned mask T rows = (i : ℕ) → i < length rows → T i ≡ true → Dropped rows i →
    (lo : ℕ) × (hi : ℕ) × (lo ≤ (row rows i).ready) × ((row rows i).deadline ≤ hi) ×
    ((p : Seat) → Open mask p → lo ≤ p.slot → p.slot < hi →
    (j : ℕ) × (j < length rows) × (T j ≡ true) × ((row rows j).seat ≡ Some p) × (lo ≤ (row rows j).ready) × ((row rows j).deadline ≤ hi))

abbrev pub ReasonedKeepsMost : Type 0
ReasonedKeepsMost = (mask : ℕ → ℕ) (T : ℕ → Bool) (rows : List Row) → Placing mask rows → Reasoned mask T rows → (others : List Row) → Rival mask rows others → kept_among T others ≤ kept_among T rows

abbrev pub ReasonsMakeBest : Type 0 → Type 0
ReasonsMakeBest W = (no_lighter : W → W → Bool) → Weighs no_lighter → (mask : ℕ → ℕ) (rows : List Row) (store : List W) → length rows ≤ length store →
    Placing mask rows → Reasons no_lighter mask rows store → Best no_lighter mask rows store

abbrev pub PlanSound : Type 0 → Type 0
PlanSound W = (no_lighter : W → W → Bool) (before : Job W → Job W → Bool) → Weighs no_lighter → RankOrder no_lighter before →
    (first : Row → Row → Bool) (mask : ℕ → ℕ) (table : List (Job W)) (rows : List Row) (store : List W) →
    PlanOf before first mask table rows store → Sound no_lighter before first mask table rows store

abbrev pub TotalsFollowCounts : Type 0 → Type 0 → Type 0
TotalsFollowCounts W X = (no_lighter : W → W → Bool) (before : Job W → Job W → Bool) → Weighs no_lighter → RankOrder no_lighter before →
    (nothing : X) (plus : X → W → X) (over : X → X → Bool) → Totals no_lighter plus over →
    (rows others : List Row) (store : List W) → length others ≡ length rows → InRankOrder before (jobs_of rows store) →
    ((m : ℕ) → m ≤ length rows → count (kept_of others) m ≤ count (kept_of rows) m) → over (total_of_kept nothing plus rows store) (total_of_kept nothing plus others store) ≡ true

abbrev pub PlanHeaviest : Type 0 → Type 0 → Type 0
PlanHeaviest W X = (no_lighter : W → W → Bool) (before : Job W → Job W → Bool) → Weighs no_lighter → RankOrder no_lighter before →
    (nothing : X) (plus : X → W → X) (over : X → X → Bool) → Totals no_lighter plus over →
    (first : Row → Row → Bool) (mask : ℕ → ℕ) (table : List (Job W)) (rows : List Row) (store : List W) →
    PlanOf before first mask table rows store → Heaviest nothing plus over mask rows store

abbrev pub OnePlan : Type 0
OnePlan = (first : Row → Row → Bool) → ServiceOrder first → (mask mask' : ℕ → ℕ) → ((s : ℕ) → mask s ≡ mask' s) → (rows others : List Row) →
    SameTable rows others → Drawn first mask rows → Drawn first mask' others → rows ≡ others

abbrev pub PlanAlone : Type 0 → Type 0
PlanAlone W = (no_lighter : W → W → Bool) (before : Job W → Job W → Bool) → RankOrder no_lighter before → (first : Row → Row → Bool) → ServiceOrder first →
    (mask mask' : ℕ → ℕ) → ((s : ℕ) → mask s ≡ mask' s) → (table table' : List (Job W)) → SameJobs table table' →
    (rows others : List Row) (store shelf : List W) → PlanOf before first mask table rows store → PlanOf before first mask' table' others shelf →
    (rows ≡ others) × (take (length rows) store ≡ take (length rows) shelf)

abbrev pub PlanExists : Type 0
PlanExists = (first : Row → Row → Bool) → ServiceOrder first → (mask : ℕ → ℕ) (rows : List Row) → Apart rows → (others : List Row) × SameTable rows others × Drawn first mask others

abbrev pub DrawnFrom : Type 0
DrawnFrom = (first : Row → Row → Bool) → ServiceOrder first → (mask : ℕ → ℕ) (n : ℕ) (rows : List Row) → ((i : ℕ) → i < length rows → (row rows i).deadline ≤ n) → KeptRule mask rows →
    (at : ℕ → ℕ) → DealtInOrder (board_of mask n) (table_of rows) (order_of first rows) (kept_of rows) (n * 8) at →
    ((i : ℕ) (p : Seat) → i < length rows → (row rows i).seat ≡ Some p → (p.link < 8) × (p.slot < n) × (at (p.slot * 8 + p.link) ≡ i)) → Drawn first mask rows
