use Rattle.std.proofs.Common.{◌≡◌, ℕ, ◌≤◌, sym, ap, ◌∙◌, inl, inr, arith, rules}
use lib.Count.{ones}
use Rattle.std.specs.List.{range_with_len}
use Rattle.std.proofs.lemmas.Bool.{cases_lt}
use Rattle.std.proofs.lemmas.Iterator.{YieldsList-from_map, YieldsList-from_range}
use Rattle.std.proofs.lemmas.Iterator.Consumers.{sum_by_from_yields_List, fits_by_from_yields_list}
use Rattle.calendars.specs.Places.{opens}
use Rattle.calendars.proofs.Opens.{opens_summed, opens_few, opens_all, none_left}
use Rattle.calendars.proofs.places.places_before.Goals as goal

pub sum-requires-clause-fits : goal.sum-requires-clause-fits
sum-requires-clause-fits g c =
    let mask = g.C.Calendar.mask c.args.c.now in
    fits_by_from_yields_list (λ s. ones (mask s)) (range_with_len 0 c.min.result) c.map.result _
    (YieldsList-from_map _ (λ s. ones (mask s)) (YieldsList-from_range 0 _ _ c.map.ensures.source (omega arith)) c.map.ensures.closure (λ x r q k. search rules))
    (omega (arith, opens_summed mask c.min.result, opens_few mask (g.met.C.Calendar.mask_bound c.args.c.now) c.min.result))

pub returns : goal.returns
returns g c =
    let mask = g.C.Calendar.mask c.args.c.now in
    let none : (k : ℕ) → 1024 ≤ k → mask k ≡ 0 = none_left _ mask (g.met.C.Calendar.end_bound c.args.c.now) (g.met.C.Calendar.mask_after c.args.c.now) in
    let few = opens_few mask (g.met.C.Calendar.mask_bound c.args.c.now) c.min.result in
    let counted : c.sum.result ≡ opens mask c.min.result
    = sum_by_from_yields_List (λ s. ones (mask s)) (range_with_len 0 c.min.result) c.map.result _ c.sum.ensures.ran
    (YieldsList-from_map _ (λ s. ones (mask s)) (YieldsList-from_range 0 _ _ c.map.ensures.source (omega arith)) c.map.ensures.closure (λ x r q k. search rules))
    ∙ opens_summed mask c.min.result in
    let all : 1024 ≤ c.args.slot → c.sum.result ≡ opens mask 1024
    = λ h. let last : c.min.result ≡ 1024 = omega arith in counted ∙ ap (opens mask) last in
    record {
      value = (
        elim (cases_lt c.args.slot 1024) [
          | inl h ↦ let last : c.min.result ≡ c.args.slot = omega arith in counted ∙ ap (opens mask) last
          | inr h ↦ all h ∙ sym (opens_all mask none c.args.slot h)
        ],
        omega arith,
      );
      same = all;
    }
