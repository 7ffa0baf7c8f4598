use Rattle.std.proofs.Common.{Bool, true, false, Decides, refl}
use Rattle.std.proofs.lemmas.Bool.{both_ways}
use Rattle.placing.specs.Orders.{Weighs, earliest_then_lower, heavier_then_lower}
use Rattle.placing.proofs.Orders.{heavier_then_lower_ranks, earliest_then_lower_serves}
use Rattle.placing.proofs.Ranks.{plan_alone}
use Rattle.calendars.specs.Places.{SameMasks}
use Rattle.runs.proofs.equal.interchangeable.Goals as goal

decided : (r : Bool) (P : Type 0) → (elim r as (λ _. Type 0) [ true ↦ P | false ↦ (P → ⊥) ]) → Decides r P
decided true P p = (λ _. p, λ _. refl)
decided false P p = (λ e. absurd (both_ways false refl e), λ x. absurd (p x))

pub returns : goal.returns
returns g c =
    let no_lighter = g.W.OrderedWeight.no_lighter in
    let weighs : Weighs no_lighter = record { total = g.met.W.OrderedWeight.total; trans = g.met.W.OrderedWeight.transitive } in
    let here = g.C.Calendar.mask c.args.c.now in
    let there = g.D.Calendar.mask c.args.d.now in
    let same = decided c.same_masks.result (SameMasks here there) c.same_masks.ensures.answers in
    record {
      answers = same;
      equal = λ e table table' jobs m n p q.
          plan_alone no_lighter (heavier_then_lower no_lighter) (heavier_then_lower_ranks no_lighter weighs) earliest_then_lower earliest_then_lower_serves here there (same.0 e) table table' jobs m.rows n.rows m.store n.store p q;
    }
