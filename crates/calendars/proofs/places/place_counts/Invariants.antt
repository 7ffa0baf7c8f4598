use Rattle.std.proofs.Common.{◌≡◌, ℕ, ◌*◌, ◌<◌, ◌≤◌, get_or}
use Rattle.calendars.specs.Places.{opens}
use Rattle.calendars.proofs.places.place_counts.Given as goal

abbrev pub invariant-loop-slot : goal.invariant-loop-slot
invariant-loop-slot g l =
    (l.count ≤ 8 * l.slot) × (l.count ≡ opens (g.C.Calendar.mask l.c) l.slot)
    × ((k : ℕ) → k < l.slot → get_or l.counts k 0 ≡ opens (g.C.Calendar.mask l.c) k)
