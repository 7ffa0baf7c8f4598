-- The trial of a job among places that are dealt already, over indices: it walks from place to place with one job in hand. Assumes nothing.
--   first i j              job i goes before job j
--   at p                   the job that sits at place p, or `size` or more: nobody
--   carried .. s x p       the job that the trial of x has in hand when it comes to place p; it begins at place s
--   settled .. s x p       the job that it leaves at place p: of the one in hand and the one that sits there, the one that goes first
--   Passed .. p            it passes the places from s up to p: each is taken, and in time for the job in hand
--   Succeeds .. e          it comes to the empty place e in time
--   Fails .. e             it comes to place e, or past the last place, too late for the job in hand
--   In f p j               j sits at one of the first p places
use Rattle.std.specs.Prelude.{◌≡◌, ℕ, zero, suc, ◌<◌, ◌≤◌, Bool, cond, ◌&&◌, nat_le}
use Rattle.dealing.specs.Boards.{Table, Board}

unfoldable pub carried : (ℕ → ℕ → Bool) → (ℕ → ℕ) → ℕ → ℕ → ℕ → ℕ
carried first at s x zero = x
carried first at s x (suc p) =
    cond (nat_le s p && first (carried first at s x p) (at p)) (at p) (carried first at s x p)

unfoldable pub settled : (ℕ → ℕ → Bool) → (ℕ → ℕ) → ℕ → ℕ → ℕ → ℕ
settled first at s x p =
    cond (nat_le s p && first (carried first at s x p) (at p)) (carried first at s x p) (at p)

abbrev pub Passed : Board → Table → (ℕ → ℕ → Bool) → (ℕ → ℕ) → ℕ → ℕ → ℕ → Type 0
Passed b t first at s x p =
    (q : ℕ) → s ≤ q → q < p → (at q < t.size) × (b.slot q < t.deadline (carried first at s x q))

abbrev pub Succeeds : Board → Table → (ℕ → ℕ → Bool) → (ℕ → ℕ) → ℕ → ℕ → ℕ → Type 0
Succeeds b t first at s x e =
    (s ≤ e) × (e < b.places) × Passed b t first at s x e × (t.size ≤ at e) × (b.slot e < t.deadline (carried first at s x e))

abbrev pub Fails : Board → Table → (ℕ → ℕ → Bool) → (ℕ → ℕ) → ℕ → ℕ → ℕ → Type 0
Fails b t first at s x e =
    (s ≤ e) × (e ≤ b.places) × Passed b t first at s x e × (e < b.places → t.deadline (carried first at s x e) ≤ b.slot e)

abbrev pub In : (ℕ → ℕ) → ℕ → ℕ → Type 0
In f p j = (q : ℕ) × (q < p) × (f q ≡ j)
