-- What a kind of weight, a rank order and a service order must obey, and the orders in force. Assumes nothing.
--   Weighs no_lighter                                 of two weights one is at least as heavy as the other, and so on from one to the next
--   Totals no_lighter plus over                       totals grow with each weight, and no less with a heavier one
--   RankOrder no_lighter before                       a strict order of jobs with different numbers, in which nobody ranks before a heavier job
--   RanksFirst no_lighter a b                         job a is heavier than job b, or neither is heavier and its number is lower
--   heavier_then_lower no_lighter a b                 the rank order in force, as a test
--   ServiceOrder first                                a strict order of jobs with different numbers, in which nobody goes before an earlier deadline
--   ServedFirst d n e m                               the deadline d is before e, or they are one and the number n is before m
--   goes_first, earliest_then_lower                   the service order in force, as a test on numbers and on rows
--   HeavierThenLowerMeans, EarliestThenLowerMeans     the tests say just that
--   HeavierThenLowerRanks, EarliestThenLowerServes    and they are such orders
use Rattle.std.specs.Prelude.{◌≡◌, ℕ, ◌<◌, ◌≤◌, Bool, true, false, ◌&&◌, ◌||◌, ◌⊎◌, Decides, ◌==◌, ◌≢◌, nat_lt}
use Rattle.weights.specs.Ranking.{ranks_before}
use Rattle.jobs.specs.declared.terms.Row.{Row}
use Rattle.jobs.specs.declared.terms.Job.{Job}
use Rattle.placing.specs.Placing.{SameJob}

pub record Weighs {W : Type 0} (no_lighter : W → W → Bool) : Type 0 where
  pub total : (a b : W) → (no_lighter a b ≡ true) ⊎ (no_lighter b a ≡ true)
  pub trans : (a b c : W) → no_lighter a b ≡ true → no_lighter b c ≡ true → no_lighter a c ≡ true

pub record Totals {W X : Type 0} (no_lighter : W → W → Bool) (plus : X → W → X) (over : X → X → Bool) : Type 0 where
  pub same : (x : X) → over x x ≡ true
  pub trans : (x y z : X) → over x y ≡ true → over y z ≡ true → over x z ≡ true
  pub keeps : (x y : X) (w : W) → over x y ≡ true → over (plus x w) (plus y w) ≡ true
  pub heavier : (x : X) (v w : W) → no_lighter v w ≡ true → over (plus x v) (plus x w) ≡ true
  pub more : (x : X) (w : W) → over (plus x w) x ≡ true

pub record RankOrder {W : Type 0} (no_lighter : W → W → Bool) (before : Job W → Job W → Bool) : Type 0 where
  pub weights : (a b : Job W) → before a b ≡ true → no_lighter a.weight b.weight ≡ true
  pub never : (a : Job W) → before a a ≢ true
  pub trans : (a b c : Job W) → before a b ≡ true → before b c ≡ true → before a c ≡ true
  pub either : (a b : Job W) → (a.number ≢ b.number) → (before a b ≡ true) ⊎ (before b a ≡ true)

abbrev pub RanksFirst : {W : Type 0} → (W → W → Bool) → Job W → Job W → Type 0
RanksFirst no_lighter a b = ((no_lighter a.weight b.weight ≡ true) × (no_lighter b.weight a.weight ≡ false)) ⊎ ((no_lighter a.weight b.weight ≡ true) × (no_lighter b.weight a.weight ≡ true) × (a.number < b.number))

abbrev pub heavier_then_lower : {W : Type 0} → (W → W → Bool) → Job W → Job W → Bool
heavier_then_lower no_lighter a b = ranks_before no_lighter a.weight a.number b.weight b.number

abbrev pub HeavierThenLowerMeans : Type 0 → Type 0
HeavierThenLowerMeans W = (no_lighter : W → W → Bool) (a b : Job W) → Decides (heavier_then_lower no_lighter a b) (RanksFirst no_lighter a b)

abbrev pub HeavierThenLowerRanks : Type 0 → Type 0
HeavierThenLowerRanks W = (no_lighter : W → W → Bool) → Weighs no_lighter → RankOrder no_lighter (heavier_then_lower no_lighter)

pub record ServiceOrder (first : Row → Row → Bool) : Type 0 where
  pub deadlines : (r s : Row) → first r s ≡ true → r.deadline ≤ s.deadline
  pub never : (r : Row) → first r r ≢ true
  pub trans : (r s t : Row) → first r s ≡ true → first s t ≡ true → first r t ≡ true
  pub either : (r s : Row) → (r.number ≢ s.number) → (first r s ≡ true) ⊎ (first s r ≡ true)
  -- seats do not matter
  pub jobs : (r s q t : Row) → SameJob r q → SameJob s t → first r s ≡ true → first q t ≡ true

abbrev pub ServedFirst : (deadline number deadline' number' : ℕ) → Type 0
ServedFirst d n e m = (d < e) ⊎ ((d ≡ e) × (n < m))

abbrev pub goes_first : (deadline number deadline' number' : ℕ) → Bool
goes_first d n e m = nat_lt d e || (d == e && nat_lt n m)

abbrev pub earliest_then_lower : Row → Row → Bool
earliest_then_lower r s = goes_first r.deadline r.number s.deadline s.number

abbrev pub EarliestThenLowerMeans : Type 0
EarliestThenLowerMeans = (r s : Row) → Decides (earliest_then_lower r s) (ServedFirst r.deadline r.number s.deadline s.number)

abbrev pub EarliestThenLowerServes : Type 0
EarliestThenLowerServes = ServiceOrder earliest_then_lower
