-- A plan filled with the jobs of a sheet that was read is loaded. Assumes nothing.
use Rattle.std.proofs.Common.{◌≡◌, ℕ, ◌≤◌, Bool, true, false, List, length, drop, sym, ◌∙◌, subst}
use Rattle.jobs.specs.declared.terms.Row.{Row}
use Rattle.calls.specs.Moments.{in_force, Moment, at}
use Rattle.plan.specs.Filling.{Filled}
use Rattle.sheets.specs.Format.{Accepted}
use Rattle.plan.specs.Loading.{mask_of, Loaded}

module _ {W : Type 0} (code width : ℕ) (encoding : W → List ℕ) (no_lighter : W → W → Bool) (sheet masks records : List ℕ) (count : ℕ) (a : Accepted code width encoding sheet masks records count) (m : Moment W) (enough : 256 ≤ length m.store) where
  -- such a filling is never refused
  filled : (b r : Bool) (n : Moment W) → Filled (in_force no_lighter (mask_of b masks)) a.jobs m r n → Loaded code width encoding no_lighter b sheet masks m n
  filled b true n f = record { records = records; count = count; read = a; sound = f.1; rest = subst (λ (k : ℕ). drop k n.store ≡ drop k m.store) a.number f.2 }
  filled b false n f = absurd (f.0 (enough, a.table))

  -- from what the code has at hand
  pub loaded : (carried_on b : Bool) (lent bytes : List ℕ) (rows rows' : List Row) (store store' : List W) (r : Bool) → carried_on ≡ b → lent ≡ masks → bytes ≡ lent → rows ≡ rows' → store ≡ store' →
      Filled (in_force no_lighter (mask_of b bytes)) a.jobs m r (at rows' store') → Loaded code width encoding no_lighter carried_on sheet lent m (at rows store)
  loaded carried_on b lent bytes rows rows' store store' r flag here same rs ss f =
      let whole = filled b r (at rows' store') (subst (λ l. Filled (in_force no_lighter (mask_of b l)) a.jobs m r (at rows' store')) (same ∙ here) f) in
      subst (λ l. Loaded code width encoding no_lighter carried_on sheet l m (at rows store)) (sym here)
      (subst (λ x. Loaded code width encoding no_lighter x sheet masks m (at rows store)) (sym flag)
      (subst (λ x. Loaded code width encoding no_lighter b sheet masks m (at x store)) (sym rs) (subst (λ x. Loaded code width encoding no_lighter b sheet masks m (at rows' x)) (sym ss) whole)))
