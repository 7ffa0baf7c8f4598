-- Jobs and places by index, and the placings of a set of jobs. Assumes nothing.
--   Table                 jobs: job i may sit in the slots from `ready i` up to, and without, `deadline i`
--   Board                 places, slot after slot, some of them free
--   Sits b t i p          place p is free and lies in the window of job i
--   Placing b t K         each job of K has a seat, no two the same
--   room b a e            how many free places the slots from a up to, and without, e have
--   load t K a e          how many jobs of K can sit nowhere but in those slots
--   LoadFitsRoom          where K has a placing, no load is above its room
--   PlacedOrOverloaded    K has a placing, or a run of slots whose load is above its room
use Rattle.std.specs.Prelude.{◌≡◌, ℕ, ◌<◌, ◌≤◌, Bool, true, ◌&&◌, ◌⊎◌, nat_le, nat_lt}
use Rattle.dealing.specs.Counting.{count}

pub record Table : Type 0 where
  pub size : ℕ
  pub ready : ℕ → ℕ
  pub deadline : ℕ → ℕ

pub record Board : Type 0 where
  pub places : ℕ
  pub free : ℕ → Bool
  pub slot : ℕ → ℕ
  pub rising : (p q : ℕ) → p ≤ q → slot p ≤ slot q

abbrev pub Sits : Board → Table → ℕ → ℕ → Type 0
Sits b t i p = (p < b.places) × (b.free p ≡ true) × (t.ready i ≤ b.slot p) × (b.slot p < t.deadline i)

pub record Placing (b : Board) (t : Table) (K : ℕ → Bool) : Type 0 where
  pub seat : ℕ → ℕ
  pub sits : (i : ℕ) → i < t.size → K i ≡ true → Sits b t i (seat i)
  pub apart : (i j : ℕ) → i < t.size → j < t.size → K i ≡ true → K j ≡ true → seat i ≡ seat j → i ≡ j

-- the free places of the slots from a up to e
abbrev pub within : Board → ℕ → ℕ → ℕ → Bool
within b a e p = b.free p && (nat_le a (b.slot p) && nat_lt (b.slot p) e)

abbrev pub room : Board → ℕ → ℕ → ℕ
room b a e = count (within b a e) b.places

-- the jobs of K whose whole window lies in the slots from a up to e
abbrev pub bound : Table → (ℕ → Bool) → ℕ → ℕ → ℕ → Bool
bound t K a e j = K j && (nat_le a (t.ready j) && nat_le (t.deadline j) e)

abbrev pub load : Table → (ℕ → Bool) → ℕ → ℕ → ℕ
load t K a e = count (bound t K a e) t.size

abbrev pub LoadFitsRoom : Type 0
LoadFitsRoom = (b : Board) (t : Table) (K : ℕ → Bool) → Placing b t K → (a e : ℕ) → load t K a e ≤ room b a e

abbrev pub PlacedOrOverloaded : Type 0
PlacedOrOverloaded = (b : Board) (t : Table) (K : ℕ → Bool) → Placing b t K ⊎ ((a : ℕ) × (e : ℕ) × (room b a e < load t K a e))
