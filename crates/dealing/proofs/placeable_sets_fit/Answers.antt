use Rattle.dealing.proofs.placeable_sets_fit.Goals as goal
use Rattle.dealing.proofs.Boards.{load_fits_room}
use Rattle.dealing.proofs.Seating.{placed_or_overloaded}

pub returns : goal.returns
returns c = record { fits = load_fits_room; either = placed_or_overloaded }
