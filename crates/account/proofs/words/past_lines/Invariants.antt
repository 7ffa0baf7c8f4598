use Rattle.std.proofs.Common.{◌≡◌, ◌≤◌, length}
use Rattle.account.specs.Words.{rest_after}
use Rattle.account.proofs.words.past_lines.Given as goal

abbrev pub invariant-loop : goal.invariant-loop
invariant-loop l = (l.rest ≡ rest_after l.counter l.text) × (length l.rest ≤ length l.text)
