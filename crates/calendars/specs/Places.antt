-- The open places of a calendar, by its masks. Assumes nothing.
--   opens mask s                       how many places are open in the slots below s
--   KthOpen mask k link                the link is open in the slot's mask, and exactly k links below it are
--   Counted mask before after filled   a table of 1,025 entries is filled with the open places before each slot; any other is as it was
--   SameMasks m n                      two calendars have the same mask in each slot
--   SameCounts m n                     before each slot they have equally many open places
use Rattle.std.specs.Prelude.{◌≡◌, ℕ, zero, suc, ◌+◌, ◌%◌, ◌^◌, ◌<◌, ◌≤◌, Bool, true, false, ◌≢◌, List, length, count_ones, slice_index}
use Rattle.calendars.specs.Masks.{link_open}

unfoldable pub opens : (mask : ℕ → ℕ) (s : ℕ) → ℕ
opens mask zero = 0
opens mask (suc s) = opens mask s + count_ones (mask s)

abbrev pub KthOpen : (mask k link : ℕ) → Type 0
KthOpen mask k link = (link < 8) × (link_open mask link ≡ 1) × (count_ones (mask % 2 ^ link) ≡ k)

abbrev pub Counted : (mask : ℕ → ℕ) (before after : List ℕ) (filled : Bool) → Type 0
Counted mask before after true = (length before ≡ 1025) × (length after ≡ 1025) × ((s : ℕ) → s ≤ 1024 → slice_index after s ≡ opens mask s)
Counted mask before after false = (length before ≢ 1025) × (after ≡ before)

abbrev pub SameMasks : (m n : ℕ → ℕ) → Type 0
SameMasks m n = (s : ℕ) → m s ≡ n s

abbrev pub SameCounts : (m n : ℕ → ℕ) → Type 0
SameCounts m n = (s : ℕ) → opens m s ≡ opens n s
