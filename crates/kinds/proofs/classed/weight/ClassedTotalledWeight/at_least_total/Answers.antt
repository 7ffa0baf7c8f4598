use Rattle.std.proofs.Common.{refl, arith}
use Rattle.std.specs.Ordering.{nat_cmp, is_ge}
use Rattle.std.proofs.lemmas.Bool.Decides.{nat_tests}
use Rattle.std.proofs.lemmas.Cmp.{same_from_slice_cmp_tested}
use Rattle.kinds.specs.ClassedKind.{lex_at_least}
use Rattle.kinds.proofs.classed.weight.ClassedTotalledWeight.at_least_total.Goals as goal

pub returns : goal.returns
returns c =
    same_from_slice_cmp_tested nat_cmp is_ge lex_at_least refl (λ _ _. refl) (λ _ _. refl) (λ x y xs ys o h. grind (arith, nat_tests)) c.args.s.now.sums c.args.t.now.sums c.ge.result c.ge.ensures
