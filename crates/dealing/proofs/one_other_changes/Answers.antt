use Rattle.dealing.proofs.one_other_changes.Goals as goal
use Rattle.dealing.proofs.Insertion.{insertion_changes_one, move_changes_one}

pub returns : goal.returns
returns c = record { inserted = insertion_changes_one; moved = move_changes_one }
