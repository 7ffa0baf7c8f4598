use Rattle.dealing.proofs.keeping_in_turn_is_determined.Goals as goal
use Rattle.dealing.proofs.Choice.{kept_are_placed}
use Rattle.dealing.proofs.Keeping.{choice_exists, choice_unique}

pub returns : goal.returns
returns c = record { exists = choice_exists; unique = choice_unique; placed = kept_are_placed }
