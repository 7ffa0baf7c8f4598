-- Standings and seats in print. Assumes nothing.
--   standing_text s    kept, dropped or absent
--   place_text seat    the seat's slot and link
use Rattle.std.specs.Prelude.{ℕ, List, ◌++◌, codes, decimal}
use Rattle.jobs.specs.declared.terms.Seat.{Seat}
use Rattle.jobs.specs.declared.terms.Standing.{Standing}
use Rattle.jobs.specs.declared.terms.Standing.TheVariants.{Kept, Dropped, Absent}

abbrev pub standing_text : Standing → List ℕ
standing_text Kept = codes "kept"
standing_text Dropped = codes "dropped"
standing_text Absent = codes "absent"

abbrev pub place_text : Seat → List ℕ
place_text seat = decimal seat.slot ++ (codes " " ++ decimal seat.link)
