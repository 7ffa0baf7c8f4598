use Rattle.dealing.proofs.dealing_is_determined.Goals as goal
use Rattle.dealing.proofs.Dealing.{dealing_exists, dealing_unique, order_keeps_deadlines}

pub returns : goal.returns
returns c = record { exists = dealing_exists; unique = dealing_unique; deadlines = order_keeps_deadlines }
