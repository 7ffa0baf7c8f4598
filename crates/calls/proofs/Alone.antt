-- One outcome for each call, and so for each run. Assumes nothing.
--   faults n    the causes in their turns, for a call that names n
use Rattle.std.proofs.Common.{◌≡◌, ℕ, Bool, true, false, List, [], ◌∷◌, ◌++◌, length, get_or, drop, Some, None, Ok, Err, Option, sym, refl, ap, ◌∙◌, subst, inl, inr}
use Rattle.std.proofs.lemmas.List.{take-append-drop}
use Rattle.std.proofs.lemmas.Bool.{cases_order}
use Rattle.jobs.specs.declared.terms.Row.{Row}
use Rattle.jobs.specs.declared.terms.TableFault.TheVariants.{NumberZero, NoWindow, NumberTaken, TableFull}
use Rattle.jobs.specs.declared.terms.Standing.TheVariants.{Kept}
use Rattle.placing.specs.Orders.{RankOrder, ServiceOrder}
use Rattle.placing.specs.Placing.{row}
use Rattle.placing.specs.Plan.{Stands}
use Rattle.placing.specs.Promise.{Changed}
use Rattle.placing.proofs.Ranks.{plan_alone}
use Rattle.calls.specs.declared.terms.Call.{Call}
use Rattle.calls.specs.declared.terms.Call.TheVariants.{Offer, Withdraw, Reweigh}
use Rattle.calls.specs.declared.terms.StoreFault.TheVariants.{TooShort, OutOfRank}
use Rattle.calls.specs.declared.terms.CallFault.{CallFault}
use Rattle.calls.specs.declared.terms.CallFault.TheVariants.{Store, Table, NumberUnknown}
use Rattle.calls.specs.Moments.{Rules, Moment, table_at}
use Rattle.calls.specs.Calls.{turn, FirstOther, named, table_after, Cause, FirstCause, Accepted, Run}
use Rattle.calls.specs.Alone.{OutcomeAlone, RunAlone}
use Rattle.calls.proofs.Jobs.{same_refl}

abbrev faults : ℕ → List CallFault
faults n = Store TooShort ∷ Store OutOfRank ∷ Table (NumberZero n) ∷ Table (NoWindow n) ∷ Table (NumberTaken n) ∷ Table (TableFull n) ∷ NumberUnknown ∷ []

first_other_alone : (before after : List Row) (n : ℕ) (a b : Option ℕ) → FirstOther before after n a → FirstOther before after n b → a ≡ b
first_other_alone before after n None None x y = refl
first_other_alone before after n None (Some b) x y = absurd (x b y.0 y.1)
first_other_alone before after n (Some a) None x y = absurd (y a x.0 x.1)
first_other_alone before after n (Some a) (Some b) (other, changed, (i, il, ie, first)) (other', changed', (j, jl, je, first')) =
    elim (cases_order i j) [
      | inl e ↦ ap Some (sym ie ∙ (ap (λ k. (row after k).number) e ∙ je))
      | inr h ↦ elim h [
        | inl l ↦ absurd (first' i l (λ e. other (sym ie ∙ e)) (subst (Changed before after) (sym ie) changed))
        | inr l ↦ absurd (first j l (λ e. other' (sym je ∙ e)) (subst (Changed before after) (sym je) changed'))
      ]
    ]

same_flag : (a b : Bool) → (a ≡ true → b ≡ true) → (b ≡ true → a ≡ true) → a ≡ b
same_flag true b to fro = sym (to refl)
same_flag false true to fro = fro refl
same_flag false false to fro = refl

module _ {W : Type 0} (rules : Rules W) where
  fault_at : (c : Call W) (m : Moment W) (f : CallFault) → Cause rules.before c m f → f ≡ get_or (faults (named c)) (turn f) NumberUnknown
  fault_at c m (Store TooShort) x = refl
  fault_at c m (Store OutOfRank) x = refl
  fault_at (Offer j) m (Table (NumberZero n)) x = ap (λ k. Table (NumberZero k)) x.0
  fault_at (Offer j) m (Table (NoWindow n)) x = ap (λ k. Table (NoWindow k)) x.0
  fault_at (Offer j) m (Table (NumberTaken n)) x = ap (λ k. Table (NumberTaken k)) x.0
  fault_at (Offer j) m (Table (TableFull n)) x = ap (λ k. Table (TableFull k)) x.0
  fault_at (Offer j) m NumberUnknown x = absurd x
  fault_at (Withdraw n) m (Table f) x = absurd x
  fault_at (Withdraw n) m NumberUnknown x = refl
  fault_at (Reweigh n w) m (Table f) x = absurd x
  fault_at (Reweigh n w) m NumberUnknown x = refl

  first_cause_alone : (c : Call W) (m : Moment W) (f g : CallFault) → FirstCause rules.before c m f → FirstCause rules.before c m g → f ≡ g
  first_cause_alone c m f g x y =
      elim (cases_order (turn f) (turn g)) [
        | inl e ↦ fault_at c m f x.0 ∙ (ap (λ t. get_or (faults (named c)) t NumberUnknown) e ∙ sym (fault_at c m g y.0))
        | inr h ↦ elim h [ inl l ↦ absurd (y.1 f l x.0) | inr l ↦ absurd (x.1 g l y.0) ]
      ]

  module _ (ranks : RankOrder rules.no_lighter rules.before) (serves : ServiceOrder rules.first) where
    accepted_alone : (m k n : Moment W) (c : Call W) (a b : Bool × Option ℕ) → Accepted rules m c a k → Accepted rules m c b n → (a ≡ b) × (k ≡ n)
    accepted_alone m k n c a b x y =
        let table = table_after c (table_at m) in
        let p = plan_alone rules.no_lighter rules.before ranks rules.first serves rules.mask rules.mask (λ s. refl) table table (same_refl table)
        k.rows n.rows k.store n.store x.sound.plan y.sound.plan in
        let size = length k.rows in
        let rest : drop size k.store ≡ drop size n.store = x.rest ∙ subst (λ rows. drop (length rows) m.store ≡ drop (length rows) n.store) (sym p.0) (sym y.rest) in
        let store : k.store ≡ n.store = sym (take-append-drop size k.store) ∙ ((λ i. p.1 i ++ rest i) ∙ take-append-drop size n.store) in
        let flag : a.0 ≡ b.0 = same_flag a.0 b.0
        (λ e. y.kept.1 (subst (λ rows. Stands rows (named c) Kept) p.0 (x.kept.0 e)))
        (λ e. x.kept.1 (subst (λ rows. Stands rows (named c) Kept) (sym p.0) (y.kept.0 e))) in
        let other : a.1 ≡ b.1 = first_other_alone m.rows n.rows (named c) a.1 b.1 (subst (λ rows. FirstOther m.rows rows (named c) a.1) p.0 x.other) y.other in
        ((λ i. (flag i, other i)), λ i. record { rows = p.0 i; store = store i })

pub outcome_alone : {W : Type 0} → OutcomeAlone W
outcome_alone rules ranks serves m k n c (Ok a) (Ok b) x y = let e = accepted_alone rules ranks serves m k n c a b x y in (ap Ok e.0, e.1)
outcome_alone rules ranks serves m k n c (Ok a) (Err g) x y = absurd (x.allowed g y.0.0)
outcome_alone rules ranks serves m k n c (Err f) (Ok b) x y = absurd (y.allowed f x.0.0)
outcome_alone rules ranks serves m k n c (Err f) (Err g) x y = (ap Err (first_cause_alone rules c m f g x.0 y.0), x.1 ∙ sym y.1)

pub run_alone : {W : Type 0} → RunAlone W
run_alone rules ranks serves m k n [] [] [] x y = (refl, x ∙ sym y)
run_alone rules ranks serves m k n [] [] (b ∷ qs) x y = absurd y
run_alone rules ranks serves m k n [] (a ∷ rs) qs x y = absurd x
run_alone rules ranks serves m k n (c ∷ cs) [] qs x y = absurd x
run_alone rules ranks serves m k n (c ∷ cs) (a ∷ rs) [] x y = absurd y
run_alone rules ranks serves m k n (c ∷ cs) (a ∷ rs) (b ∷ qs) (j, o, x) (l, p, y) =
    let e = outcome_alone rules ranks serves m j l c a b o p in
    let ih = run_alone rules ranks serves j k n cs rs qs x (subst (λ z. Run rules z cs qs n) (sym e.1) y) in
    ((λ i. e.0 i ∷ ih.0 i), ih.1)
