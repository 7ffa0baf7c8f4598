-- The meaning of each calendar: where it ends, and the mask of a slot s. Bit l of a mask is set where link l is open. Assumes nothing.
--   even_mask links end s                   the lowest `links` bits below the end, and then 0
--   listed_end bytes                        one slot for each byte, 1,024 at most
--   listed_mask bytes s                     the slot's byte below the end, and then 0
--   carried_mask end mask s                 the masks of a calendar below; from its end up to slot 1,023 that of its last slot, 0 if it has none
--   closed_mask first past links mask s     the masks of a calendar below; the slots first .. past - 1 lose the links of the mask `links`
--   link_open mask link                     1 where the link is open in the slot's mask, else 0
--   EvenlyOpen links end mask               link by link: open are the links below `links` in the slots below the end, and no other
--   ClosedIn first past links below mask    link by link: in the stretch a link is open where it is below and is not in `links`; other slots are as below
use Rattle.std.specs.Prelude.{◌≡◌, ℕ, ◌-◌, ◌/◌, ◌%◌, ◌^◌, ◌<◌, ◌≤◌, min, cond, ◌&&◌, List, length, ◌==◌, bit_and, nat_lt, slice_index}

abbrev pub even_mask : (links end s : ℕ) → ℕ
even_mask links end s = cond (nat_lt s end) (2 ^ links - 1) 0

abbrev pub listed_end : List ℕ → ℕ
listed_end bytes = min (length bytes) 1024

abbrev pub listed_mask : (bytes : List ℕ) (s : ℕ) → ℕ
listed_mask bytes s = cond (nat_lt s (listed_end bytes)) (slice_index bytes s % 256) 0

abbrev pub carried_mask : (end : ℕ) (mask : ℕ → ℕ) (s : ℕ) → ℕ
carried_mask end mask s = cond (nat_lt s 1024) (cond (nat_lt s end) (mask s) (cond (end == 0) 0 (mask (end - 1)))) 0

abbrev pub closed_mask : (first past links : ℕ) (mask : ℕ → ℕ) (s : ℕ) → ℕ
closed_mask first past links mask s = cond (nat_lt s first) (mask s) (cond (nat_lt s past) (bit_and (mask s) (255 - links)) (mask s))

abbrev pub link_open : (mask link : ℕ) → ℕ
link_open mask link = mask / 2 ^ link % 2

abbrev pub EvenlyOpen : (links end : ℕ) (mask : ℕ → ℕ) → Type 0
EvenlyOpen links end mask = (s link : ℕ) → link_open (mask s) link ≡ cond (nat_lt s end && nat_lt link links) 1 0

abbrev pub ClosedIn : (first past links : ℕ) (below mask : ℕ → ℕ) → Type 0
ClosedIn first past links below mask =
    ((s : ℕ) → s < first → mask s ≡ below s) × ((s : ℕ) → past ≤ s → mask s ≡ below s)
    × ((s link : ℕ) → first ≤ s → s < past → link < 8 → link_open (mask s) link ≡ link_open (below s) link - link_open links link)
