use Rattle.std.proofs.Common.{◌≡◌, ◌≤◌, drop}
use Rattle.account.specs.Numbers.{digits, read_on}
use Rattle.account.proofs.numbers.number_up_to.Given as goal

-- what is left of the text decides the rest
abbrev pub invariant-loop-byte : goal.invariant-loop-byte
invariant-loop-byte l =
    (l.value ≤ l.most) × (digits l.text ≡ digits (drop l.byte-index l.text)) × (read_on 0 l.text ≡ read_on l.value (drop l.byte-index l.text))
