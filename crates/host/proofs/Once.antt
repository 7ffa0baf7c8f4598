-- A sheet has one text. Assumes nothing.
use Rattle.std.proofs.Common.{◌≡◌, ℕ, Bool, true, false, List, refl, ap, subst}
use Rattle.calendars.specs.Masks.{listed_mask}
use Rattle.placing.specs.Orders.{Weighs, earliest_then_lower, heavier_then_lower}
use Rattle.placing.specs.Promise.{SameJobs}
use Rattle.placing.proofs.Orders.{heavier_then_lower_ranks, earliest_then_lower_serves}
use Rattle.placing.proofs.Ranks.{plan_alone}
use Rattle.calls.proofs.Jobs.{same_refl}
use Rattle.sheets.specs.declared.fault.LoadFault.{LoadFault}
use Rattle.sheets.specs.Reading.{OneReading}
use Rattle.text.specs.Printing.{Printed}
use Rattle.text.proofs.Lines.{printed_once}
use Rattle.host.specs.Texts.{RefusalText, PlanText, TextOnce}

refusal_once : (f g : LoadFault) (text text' : List ℕ) → f ≡ g → RefusalText f text → RefusalText g text' → text ≡ text'
refusal_once f g text text' e a b = cc

module _ {W : Type 0} (code width : ℕ) (encoding : W → List ℕ) (no_lighter : W → W → Bool) (once : OneReading code width encoding) (weighs : Weighs no_lighter) where
  -- the reading settles masks and jobs, these the rows, and these the text
  plan_once : (sheet text text' : List ℕ) → PlanText code width encoding no_lighter sheet text → PlanText code width encoding no_lighter sheet text' → text ≡ text'
  plan_once sheet text text' a b =
      let read = (once sheet).accepted a.masks b.masks a.records b.records a.count b.count a.read b.read in
      let rows = plan_alone no_lighter (heavier_then_lower no_lighter) (heavier_then_lower_ranks no_lighter weighs) earliest_then_lower earliest_then_lower_serves
      (listed_mask a.masks) (listed_mask b.masks) (λ s. ap (λ m. listed_mask m s) read.0) a.read.jobs b.read.jobs
      (subst (SameJobs a.read.jobs) read.3 (same_refl a.read.jobs)) a.rows b.rows a.store b.store a.sound.plan b.sound.plan in
      printed_once b.rows text text' (subst (λ r. Printed r text) rows.0 a.printed) b.printed

  pub text_once : TextOnce code width encoding no_lighter
  text_once sheet false false text text' a b = (refl, plan_once sheet text text' a b)
  text_once sheet false true text text' a b = absurd ((once sheet).either a.masks a.records a.count b.0 a.read b.1)
  text_once sheet true false text text' a b = absurd ((once sheet).either b.masks b.records b.count a.0 b.read a.1)
  text_once sheet true true text text' a b = (refl, refusal_once a.0 b.0 text text' ((once sheet).refused a.0 b.0 a.1 b.1) a.2 b.2)
