use Rattle.std.proofs.Common.{arith, rules, tests}
use Rattle.std.proofs.lemmas.Iterator.{first_from_Range, serves_from_Range}
use Rattle.calendars.specs.Places.{KthOpen}
use Rattle.calendars.proofs.Bits.{kth_found}
use Rattle.calendars.proofs.links.kth_bit.Goals as goal

pub find-requires : goal.find-requires
find-requires c = record { can = tt; finite = tt; callable = serves_from_Range (λ x q k. search (rules, tests)) (λ x low high. search rules) }

pub returns : goal.returns
returns c =
    record {
      cases = kth_found c.args.mask c.args.k c.find.result (omega arith)
          (first_from_Range _ _ _ _ (KthOpen c.args.mask c.args.k) (λ b. KthOpen c.args.mask c.args.k b → ⊥) c.find.ensures.ran
          (λ x q k. search (rules, tests))
          (λ x q k. (search (rules, tests), search (rules, tests))));
    }
