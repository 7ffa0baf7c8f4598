-- Who is kept, and why no other choice keeps more. Jobs are numbered in rank order. Assumes nothing.
--   adding kept i                 the jobs kept before i, and i
--   Greedy b t kept               job after job is kept exactly where it has a place beside those kept before it
--   ChoiceExists, ChoiceUnique    there is one such choice, and one alone
--   KeptArePlaced                 the kept jobs have a placing together
--   DroppedHasFullRun             a dropped job's window lies in a run of slots that the jobs kept before it fill, in every placing of them and of any others
--   Reasoned b t T K s            s is a placing of K, and each job of T outside K has its window in a run of slots whose free places are all seats of
--                                 jobs of K with their windows in the run
--   ReasonedIsLargest             then no placing of jobs of T has more jobs than K, however K was found
--   KeepsMost                     so no placing has more jobs than the choice among the first m jobs, for each m
use Rattle.std.specs.Prelude.{◌≡◌, ℕ, ◌<◌, ◌≤◌, Bool, true, false, ◌&&◌, ◌||◌, ◌==◌, nat_lt}
use Rattle.dealing.specs.Counting.{count}
use Rattle.dealing.specs.Boards.{Table, Board, Placing}

abbrev pub adding : (ℕ → Bool) → ℕ → ℕ → Bool
adding kept i j = (nat_lt j i && kept j) || j == i

pub record Greedy (b : Board) (t : Table) (kept : ℕ → Bool) : Type 0 where
  pub fits : (i : ℕ) → i < t.size → kept i ≡ true → Placing b t (adding kept i)
  pub refused : (i : ℕ) → i < t.size → kept i ≡ false → Placing b t (adding kept i) → ⊥

abbrev pub ChoiceExists : Type 0
ChoiceExists = (b : Board) (t : Table) → (kept : ℕ → Bool) × Greedy b t kept

abbrev pub ChoiceUnique : Type 0
ChoiceUnique = (b : Board) (t : Table) (kept new : ℕ → Bool) → Greedy b t kept → Greedy b t new → (m : ℕ) → m < t.size → kept m ≡ new m

abbrev pub KeptArePlaced : Type 0
KeptArePlaced = (b : Board) (t : Table) (kept : ℕ → Bool) → Greedy b t kept → Placing b t kept

abbrev pub DroppedHasFullRun : Type 0
DroppedHasFullRun = (b : Board) (t : Table) (kept : ℕ → Bool) → Greedy b t kept → (i : ℕ) → i < t.size → kept i ≡ false →
    (a : ℕ) × (e : ℕ) × (a ≤ t.ready i) × (t.deadline i ≤ e) ×
    ((K : ℕ → Bool) → ((j : ℕ) → j < i → kept j ≡ true → K j ≡ true) → (s : Placing b t K) →
    (p : ℕ) → p < b.places → b.free p ≡ true → a ≤ b.slot p → b.slot p < e →
    (j : ℕ) × (j < i) × (kept j ≡ true) × (a ≤ t.ready j) × (t.deadline j ≤ e) × (s.seat j ≡ p))

abbrev pub Reasoned : (b : Board) (t : Table) (T K : ℕ → Bool) → Placing b t K → Type 0
Reasoned b t T K s = (i : ℕ) → i < t.size → T i ≡ true → K i ≡ false →
    (a : ℕ) × (e : ℕ) × (a ≤ t.ready i) × (t.deadline i ≤ e) ×
    ((p : ℕ) → p < b.places → b.free p ≡ true → a ≤ b.slot p → b.slot p < e →
    (j : ℕ) × (j < t.size) × (K j ≡ true) × (a ≤ t.ready j) × (t.deadline j ≤ e) × (s.seat j ≡ p))

abbrev pub ReasonedIsLargest : Type 0
ReasonedIsLargest = (b : Board) (t : Table) (T K : ℕ → Bool) (s : Placing b t K) → Reasoned b t T K s →
    (R : ℕ → Bool) → ((i : ℕ) → i < t.size → R i ≡ true → T i ≡ true) → Placing b t R → count R t.size ≤ count K t.size

abbrev pub KeepsMost : Type 0
KeepsMost = (b : Board) (t : Table) (kept : ℕ → Bool) → Greedy b t kept → (R : ℕ → Bool) → Placing b t R → (m : ℕ) → m ≤ t.size → count R m ≤ count kept m
