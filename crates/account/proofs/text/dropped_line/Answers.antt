use Rattle.std.proofs.Common.{sym, rules}
use Rattle.account.proofs.text.dropped_line.Goals as goal

pub returns : goal.returns
returns c = let e = sym c.in_ok-slots.ensures in simp e (search rules)
