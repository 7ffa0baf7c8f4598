use Rattle.std.proofs.Common.{◌+◌, ◌-◌, ◌*◌, get_or, drop, arith}
use Rattle.account.proofs.Numerals.{read_on_grows, too_large, read_on_more}
use Rattle.account.proofs.numbers.number_up_to.Goals as goal

pub returns-then-value-most : goal.returns-then-value-most
returns-then-value-most c =
    let text = c.args.text.now in
    let i = c.loop-byte.byte-index in
    let v = 10 * c.loop-byte.value + (get_or text i 0 - 48) in
    let e = read_on_more text i c.loop-byte.value (omega arith) c.loop-byte.invariant.2 in
    too_large c.args.most text (omega (arith, e, read_on_grows v (drop (i + 1) text)))
