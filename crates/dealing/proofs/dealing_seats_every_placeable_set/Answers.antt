use Rattle.dealing.proofs.dealing_seats_every_placeable_set.Goals as goal
use Rattle.dealing.proofs.Late.{late_job_overloads}
use Rattle.dealing.proofs.Seating.{seated_are_placed, placeable_are_seated}

pub returns : goal.returns
returns c = record { late = late_job_overloads; placed = seated_are_placed; seated = placeable_are_seated }
