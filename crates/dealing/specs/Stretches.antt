-- The runs of slots that the kept jobs fill round a dropped one. Assumes nothing.
--   Run .. i lo hi       the slots from lo up to hi hold the window of job i, and the whole window of each kept job seated in them
--   StretchExists        round a dropped job there is a smallest run
--   StretchIsFull        each free place in it is the seat of a job kept before, whose window lies in it
use Rattle.std.specs.Prelude.{◌≡◌, ℕ, ◌<◌, ◌≤◌, Bool, true, false}
use Rattle.dealing.specs.Boards.{Table, Board, Placing}
use Rattle.dealing.specs.Choice.{Greedy}

abbrev pub Run : (b : Board) (t : Table) (kept : ℕ → Bool) → Placing b t kept → ℕ → ℕ → ℕ → Type 0
Run b t kept s i lo hi = (lo ≤ t.ready i) × (t.deadline i ≤ hi) ×
    ((j : ℕ) → j < t.size → kept j ≡ true → lo ≤ b.slot (s.seat j) → b.slot (s.seat j) < hi → (lo ≤ t.ready j) × (t.deadline j ≤ hi))

abbrev pub StretchExists : Type 0
StretchExists = (b : Board) (t : Table) (kept : ℕ → Bool) → Greedy b t kept → (s : Placing b t kept) (i : ℕ) → i < t.size → kept i ≡ false →
    (lo : ℕ) × (hi : ℕ) × Run b t kept s i lo hi × ((lo' hi' : ℕ) → Run b t kept s i lo' hi' → (lo' ≤ lo) × (hi ≤ hi'))

abbrev pub StretchIsFull : Type 0
StretchIsFull = (b : Board) (t : Table) (kept : ℕ → Bool) → Greedy b t kept → (s : Placing b t kept) (i : ℕ) → i < t.size → kept i ≡ false →
    (lo hi : ℕ) → Run b t kept s i lo hi → ((lo' hi' : ℕ) → Run b t kept s i lo' hi' → (lo' ≤ lo) × (hi ≤ hi')) →
    (p : ℕ) → p < b.places → b.free p ≡ true → lo ≤ b.slot p → b.slot p < hi →
    (j : ℕ) × (j < i) × (kept j ≡ true) × (lo ≤ t.ready j) × (t.deadline j ≤ hi) × (s.seat j ≡ p)
