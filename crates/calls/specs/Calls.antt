-- One call, and every run of calls. Assumes nothing.
--   named c                        the number that the call names
--   table_after c t                the table after an accepted call: one job more, one less, or one with another weight
--   StoreCause, Cause              the causes for which a call is refused
--   turn f                         when a call checks for the cause: the lower first
--   FirstCause before c m f        the cause holds, and none that is checked before it
--   NoCause before c m             no cause holds
--   FirstOther before after n o    o is the first in rank order, but for the number n, whose standing differs; None where there is none
--   Accepted, Outcome              what a call answers and leaves, whatever the plan, the calendar and the store were
--   Run rules m cs rs n            calls with their answers lead from m to n, one after the other
--   table_run cs rs t              the table that the accepted calls make of t
--   Promised rules t m cs rs n     the whole promise over a run: at each moment the plan of the table then, best and with its reasons,
--                                  and from each to the next at most one other changed its standing
--   Starts, RunPromised            a newly opened plan is the plan of the empty table; a run that begins with the plan of a table keeps the whole promise
--   PromisedTotals                 and no rival's total is ever heavier
use Rattle.std.specs.Prelude.{◌≡◌, ℕ, suc, ◌<◌, ◌≤◌, Bool, true, cond, List, [], ◌∷◌, ◌++◌, length, take, drop, Some, None, Ok, Err, Option, Result, ◌==◌, ◌≢◌, slice_index_or}
use Rattle.jobs.specs.Admission.{Window}
use Rattle.jobs.specs.declared.terms.Row.{Row}
use Rattle.jobs.specs.declared.terms.Job.{Job}
use Rattle.jobs.specs.declared.terms.TableFault.TheVariants.{NumberZero, NoWindow, NumberTaken, TableFull}
use Rattle.jobs.specs.declared.terms.Standing.TheVariants.{Kept, Absent}
use Rattle.placing.specs.Orders.{Weighs, RankOrder}
use Rattle.placing.specs.Placing.{row}
use Rattle.placing.specs.Plan.{Drawn, Stands}
use Rattle.placing.specs.Promise.{Changed, OneOther, Heaviest}
use Rattle.calls.specs.declared.terms.Call.{Call}
use Rattle.calls.specs.declared.terms.Call.TheVariants.{Offer, Withdraw, Reweigh}
use Rattle.calls.specs.declared.terms.StoreFault.{StoreFault}
use Rattle.calls.specs.declared.terms.StoreFault.TheVariants.{TooShort, OutOfRank}
use Rattle.calls.specs.declared.terms.CallFault.{CallFault}
use Rattle.calls.specs.declared.terms.CallFault.TheVariants.{Store, Table, NumberUnknown}
use Rattle.calls.specs.Moments.{Rules, Moment, at, table_at, Ordered, PlanAt, SoundAt}

abbrev pub Answer : Type 0
Answer = Result (Bool × Option ℕ) CallFault

abbrev pub turn : CallFault → ℕ
turn (Store TooShort) = 0
turn (Store OutOfRank) = 1
turn (Table (NumberZero n)) = 2
turn (Table (NoWindow n)) = 3
turn (Table (NumberTaken n)) = 4
turn (Table (TableFull n)) = 5
turn NumberUnknown = 6

abbrev pub FirstOther : List Row → List Row → ℕ → Option ℕ → Type 0
FirstOther before after named None = (n : ℕ) → (n ≢ named) → Changed before after n → ⊥
FirstOther before after named (Some other) = (other ≢ named) × Changed before after other ×
    ((i : ℕ) × (i < length after) × ((row after i).number ≡ other)
    × ((j : ℕ) → j < i → ((row after j).number ≢ named) → Changed before after (row after j).number → ⊥))

module _ {W : Type 0} where
  abbrev pub named : Call W → ℕ
  named (Offer j) = j.number
  named (Withdraw n) = n
  named (Reweigh n w) = n

  abbrev pub without : ℕ → List (Job W) → List (Job W)
  without n [] = []
  without n (j ∷ js) = cond (j.number == n) (without n js) (j ∷ without n js)

  abbrev pub with_weight : Job W → W → Job W
  with_weight j w = record { number = j.number; ready = j.ready; deadline = j.deadline; weight = w }

  abbrev pub reweighed : ℕ → W → List (Job W) → List (Job W)
  reweighed n w [] = []
  reweighed n w (j ∷ js) = cond (j.number == n) (with_weight j w) j ∷ reweighed n w js

  abbrev pub table_after : Call W → List (Job W) → List (Job W)
  table_after (Offer j) table = table ++ (j ∷ [])
  table_after (Withdraw n) table = without n table
  table_after (Reweigh n w) table = reweighed n w table

  module _ (before : Job W → Job W → Bool) where
    abbrev pub StoreCause : Moment W → StoreFault → Type 0
    StoreCause m TooShort = length m.store < 256
    StoreCause m OutOfRank = Ordered before m.rows m.store → ⊥

    abbrev pub Cause : Call W → Moment W → CallFault → Type 0
    Cause c m (Store f) = StoreCause m f
    Cause (Offer j) m (Table (NumberZero n)) = (n ≡ j.number) × (j.number ≡ 0)
    Cause (Offer j) m (Table (NoWindow n)) = (n ≡ j.number) × (Window j.ready j.deadline → ⊥)
    Cause (Offer j) m (Table (NumberTaken n)) = (n ≡ j.number) × (Stands m.rows j.number Absent → ⊥)
    Cause (Offer j) m (Table (TableFull n)) = (n ≡ j.number) × (256 ≤ length m.rows)
    Cause (Offer j) m NumberUnknown = ⊥
    Cause (Withdraw n) m (Table f) = ⊥
    Cause (Withdraw n) m NumberUnknown = Stands m.rows n Absent
    Cause (Reweigh n w) m (Table f) = ⊥
    Cause (Reweigh n w) m NumberUnknown = Stands m.rows n Absent

    abbrev pub FirstCause : Call W → Moment W → CallFault → Type 0
    FirstCause c m f = Cause c m f × ((g : CallFault) → turn g < turn f → Cause c m g → ⊥)

    -- no cause holds
    abbrev pub NoCause : Call W → Moment W → Type 0
    NoCause c m = (f : CallFault) → Cause c m f → ⊥

  module _ (rules : Rules W) where
    pub record Accepted (m : Moment W) (c : Call W) (a : Bool × Option ℕ) (n : Moment W) : Type 0 where
      pub allowed : NoCause rules.before c m
      -- the plan of the table that the moment before showed, changed by this call
      pub sound : SoundAt rules (table_after c (table_at m)) n
      pub rest : drop (length n.rows) n.store ≡ drop (length n.rows) m.store
      pub kept : (a.0 ≡ true → Stands n.rows (named c) Kept) × (Stands n.rows (named c) Kept → a.0 ≡ true)
      pub other : FirstOther m.rows n.rows (named c) a.1
      -- where the moment before had the plan of its table, nobody else changed
      pub one : Drawn rules.first rules.mask m.rows → OneOther m.rows n.rows (named c) a

    abbrev pub Outcome : Moment W → Call W → Answer → Moment W → Type 0
    Outcome m c (Ok a) n = Accepted m c a n
    Outcome m c (Err f) n = FirstCause rules.before c m f × (n ≡ m)

    abbrev pub Run : Moment W → List (Call W) → List Answer → Moment W → Type 0
    Run m [] [] n = n ≡ m
    Run m [] (a ∷ rs) n = ⊥
    Run m (c ∷ cs) [] n = ⊥
    Run m (c ∷ cs) (a ∷ rs) n = (k : Moment W) × Outcome m c a k × Run k cs rs n

  abbrev pub table_run : List (Call W) → List Answer → List (Job W) → List (Job W)
  table_run [] rs t = t
  table_run (c ∷ cs) [] t = t
  table_run (c ∷ cs) (Ok a ∷ rs) t = table_run cs rs (table_after c t)
  table_run (c ∷ cs) (Err f ∷ rs) t = table_run cs rs t

  pub record Promised (rules : Rules W) (table : List (Job W)) (m : Moment W) (cs : List (Call W)) (rs : List Answer) (n : Moment W) : Type 0 where
    -- the moments of the run, by index: call i leads from moment i to the next
    pub moment : ℕ → Moment W
    pub answered : length rs ≡ length cs
    pub begins : moment 0 ≡ m
    pub ends : moment (length cs) ≡ n
    pub calls : (i : ℕ) (c : Call W) (a : Answer) → i < length cs → Outcome rules (moment i) (slice_index_or cs i c) (slice_index_or rs i a) (moment (suc i))
    -- at each moment: the plan of the table then, the one the run began with changed by the accepted calls alone; best, and with its reasons
    pub sound : (i : ℕ) → i ≤ length cs → SoundAt rules (table_run (take i cs) (take i rs) table) (moment i)
    -- each accepted call changed the standing of the named job and at most one other, and answered exactly these
    pub one : (i : ℕ) (c : Call W) (a : Bool × Option ℕ) → i < length cs → slice_index_or rs i (Ok a) ≡ Ok a → OneOther (moment i).rows (moment (suc i)).rows (named (slice_index_or cs i c)) a

abbrev pub Starts : Type 0 → Type 0
Starts W = (rules : Rules W) (store : List W) → PlanAt rules [] (at [] store)

abbrev pub RunPromised : Type 0 → Type 0
RunPromised W = (rules : Rules W) → Weighs rules.no_lighter → RankOrder rules.no_lighter rules.before → (table : List (Job W)) (m n : Moment W) (cs : List (Call W)) (rs : List Answer) →
    PlanAt rules table m → Run rules m cs rs n → Promised rules table m cs rs n

module _ {W X : Type 0} (nothing : X) (plus : X → W → X) (over : X → X → Bool) where
  pub record PromisedTotals (rules : Rules W) (table : List (Job W)) (m : Moment W) (cs : List (Call W)) (rs : List Answer) (n : Moment W) : Type 0 where
    pub whole : Promised rules table m cs rs n
    pub heaviest : (i : ℕ) → i ≤ length cs → Heaviest nothing plus over rules.mask (whole.moment i).rows (whole.moment i).store
