-- One job more in the ranks, and what it does to the choice. Assumes nothing.
--   Inserted t p x y u    u is t with one job more at rank p, ready at x, with the deadline y
--   shift p m             the rank that the job of rank m then has
--   InsertionChangesOne   an insertion drops at most one job that was kept, and then keeps the new one; no other flag changes
--   MoveChangesOne        a job that moves from one rank to another changes the flag of at most one other
use Rattle.std.specs.Prelude.{◌≡◌, ℕ, suc, ◌<◌, ◌≤◌, Bool, true, false, cond, ◌≢◌, nat_lt}
use Rattle.dealing.specs.Boards.{Table, Board}
use Rattle.dealing.specs.Choice.{Greedy}

pub record Inserted (t : Table) (p x y : ℕ) (u : Table) : Type 0 where
  pub size : u.size ≡ suc t.size
  pub front : (j : ℕ) → j < p → (u.ready j ≡ t.ready j) × (u.deadline j ≡ t.deadline j)
  pub here : (u.ready p ≡ x) × (u.deadline p ≡ y)
  pub back : (j : ℕ) → p ≤ j → j < t.size → (u.ready (suc j) ≡ t.ready j) × (u.deadline (suc j) ≡ t.deadline j)

abbrev pub shift : ℕ → ℕ → ℕ
shift p m = cond (nat_lt m p) m (suc m)

abbrev pub InsertionChangesOne : Type 0
InsertionChangesOne = (b : Board) (t : Table) (kept : ℕ → Bool) → Greedy b t kept →
    (x y p : ℕ) (u : Table) (new : ℕ → Bool) → p ≤ t.size → Inserted t p x y u → Greedy b u new →
    ((m : ℕ) → m < t.size → (new (shift p m) ≢ kept m) → (p ≤ m) × (kept m ≡ true) × (new (suc m) ≡ false) × (new p ≡ true)) ×
    ((m l : ℕ) → m < t.size → l < t.size → (new (shift p m) ≢ kept m) → (new (shift p l) ≢ kept l) → m ≡ l)

abbrev pub MoveChangesOne : Type 0
MoveChangesOne = (b : Board) (t : Table) (x y p q : ℕ) (u v : Table) (old new : ℕ → Bool) → p ≤ t.size → q ≤ t.size →
    Inserted t p x y u → Greedy b u old → Inserted t q x y v → Greedy b v new →
    (m l : ℕ) → m < t.size → l < t.size → (new (shift q m) ≢ old (shift p m)) → (new (shift q l) ≢ old (shift p l)) → m ≡ l
