use Rattle.std.proofs.Common.{ℕ, ◌≤◌, ◌^◌, ap, arith, pow_mono, tests}
use lib.Count.{ones}
use Rattle.std.proofs.lemmas.Nat.{and_mask}
use Rattle.calendars.proofs.links.is_kth.Goals as goal

pub returns-then-mask-bit-eq1 : goal.returns-then-mask-bit-eq1
returns-then-mask-bit-eq1 c =
    let few : c.args.bit ≤ 7 = omega arith in
    let small : 2 ^ c.args.bit ≤ 128 = omega (arith, pow_mono few) in
    grind (arith, tests, small, ap ones (and_mask c.args.mask c.args.bit))
