-- Places dealt to the jobs of a set K, one place after the other. Assumes nothing.
--   at p                     the job that place p was dealt to, or `size` or more: nobody
--   CanSit b t K i p         job i is of K, and place p is free and lies in its window
--   DealtByDeadline ..       the first k places are dealt, each to a waiting job with the earliest deadline
--   Ordered t first          of two jobs one goes first, and so on from one to the next
--   DealtInOrder ..          the first k places are dealt, each to the waiting job that goes first
--   OrderKeepsDeadlines      dealt in an order in which nobody goes before an earlier deadline is dealt by deadline
--   DealingExists            each set can be dealt in each order
--   DealingUnique            and in one way alone, where no two go before each other
--   LateJobOverloads         a job that dealing leaves out is bound to a run of slots that is overloaded
--   SeatedArePlaced          where dealing seats all of K, the seats are a placing
--   PlaceableAreSeated       dealing seats all of K where K has a placing
use Rattle.std.specs.Prelude.{◌≡◌, ℕ, ◌<◌, ◌≤◌, Bool, true, ◌⊎◌, ◌≢◌}
use Rattle.dealing.specs.Boards.{Table, Board, Placing, room, load}

abbrev pub CanSit : Board → Table → (ℕ → Bool) → ℕ → ℕ → Type 0
CanSit b t K i p = (K i ≡ true) × (b.free p ≡ true) × (t.ready i ≤ b.slot p) × (b.slot p < t.deadline i)

pub record DealtByDeadline (b : Board) (t : Table) (K : ℕ → Bool) (k : ℕ) (at : ℕ → ℕ) : Type 0 where
  pub sits : (p : ℕ) → p < k → at p < t.size → CanSit b t K (at p) p
  pub once : (p q : ℕ) → p < k → q < k → at p < t.size → at p ≡ at q → p ≡ q
  pub earliest : (p i : ℕ) → p < k → b.free p ≡ true → i < t.size → K i ≡ true → t.ready i ≤ b.slot p → b.slot p < t.deadline i → ((q : ℕ) → q ≤ p → at q ≢ i) →
      (at p < t.size) × (t.deadline (at p) ≤ t.deadline i)

pub record Ordered (t : Table) (first : ℕ → ℕ → Bool) : Type 0 where
  pub trans : (i j k : ℕ) → i < t.size → j < t.size → k < t.size → first i j ≡ true → first j k ≡ true → first i k ≡ true
  pub either : (i j : ℕ) → i < t.size → j < t.size → (i ≢ j) → (first i j ≡ true) ⊎ (first j i ≡ true)

pub record DealtInOrder (b : Board) (t : Table) (first : ℕ → ℕ → Bool) (K : ℕ → Bool) (k : ℕ) (at : ℕ → ℕ) : Type 0 where
  pub sits : (p : ℕ) → p < k → at p < t.size → CanSit b t K (at p) p
  pub once : (p q : ℕ) → p < k → q < k → at p < t.size → at p ≡ at q → p ≡ q
  pub foremost : (p i : ℕ) → p < k → b.free p ≡ true → i < t.size → K i ≡ true → t.ready i ≤ b.slot p → b.slot p < t.deadline i → ((q : ℕ) → q ≤ p → at q ≢ i) →
      (at p < t.size) × (first (at p) i ≡ true)

abbrev pub OrderKeepsDeadlines : Type 0
OrderKeepsDeadlines = (b : Board) (t : Table) (first : ℕ → ℕ → Bool) → ((i j : ℕ) → i < t.size → j < t.size → first i j ≡ true → t.deadline i ≤ t.deadline j) →
    (K : ℕ → Bool) (k : ℕ) (at : ℕ → ℕ) → DealtInOrder b t first K k at → DealtByDeadline b t K k at

abbrev pub DealingExists : Type 0
DealingExists = (b : Board) (t : Table) (first : ℕ → ℕ → Bool) → Ordered t first → (K : ℕ → Bool) (k : ℕ) → (at : ℕ → ℕ) × DealtInOrder b t first K k at

abbrev pub DealingUnique : Type 0
DealingUnique = (b : Board) (t : Table) (first : ℕ → ℕ → Bool) → ((i j : ℕ) → first i j ≡ true → first j i ≢ true) →
    (K : ℕ → Bool) (k : ℕ) (at new : ℕ → ℕ) → DealtInOrder b t first K k at → DealtInOrder b t first K k new → (p : ℕ) → p < k → at p < t.size → new p ≡ at p

abbrev pub LateJobOverloads : Type 0
LateJobOverloads = (b : Board) (t : Table) (K : ℕ → Bool) (at : ℕ → ℕ) → DealtByDeadline b t K b.places at →
    (i : ℕ) → i < t.size → K i ≡ true → ((q : ℕ) → q < b.places → at q ≢ i) →
    (a : ℕ) × (a ≤ t.ready i) ×
    ((p : ℕ) → p < b.places → b.free p ≡ true → a ≤ b.slot p → b.slot p < t.deadline i →
    (at p < t.size) × (K (at p) ≡ true) × (a ≤ t.ready (at p)) × (t.deadline (at p) ≤ t.deadline i)) ×
    (room b a (t.deadline i) < load t K a (t.deadline i))

abbrev pub SeatedArePlaced : Type 0
SeatedArePlaced = (b : Board) (t : Table) (K : ℕ → Bool) (at : ℕ → ℕ) → DealtByDeadline b t K b.places at →
    ((i : ℕ) → i < t.size → K i ≡ true → (q : ℕ) × (q < b.places) × (at q ≡ i)) → Placing b t K

abbrev pub PlaceableAreSeated : Type 0
PlaceableAreSeated = (b : Board) (t : Table) (K : ℕ → Bool) (at : ℕ → ℕ) → DealtByDeadline b t K b.places at → Placing b t K →
    (i : ℕ) → i < t.size → K i ≡ true → (q : ℕ) × (q < b.places) × (at q ≡ i)
