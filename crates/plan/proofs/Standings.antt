-- Which numbers have another standing in the table after than in the table before. Assumes nothing.
use Rattle.std.proofs.Common.{◌≡◌, ℕ, ◌<◌, Bool, true, false, not, eqb, List, length, None, Decides, sym, refl, ap, ◌∙◌, subst, inl, inr, arith}
use mathlib.Core.Bool.{beq}
use Rattle.std.proofs.lemmas.Bool.{both_ways, eqb-true, eqb-false}
use Rattle.dealing.proofs.Counting.{any_below}
use Rattle.jobs.specs.declared.terms.Row.{Row}
use Rattle.jobs.specs.declared.terms.Standing.{Standing}
use Rattle.jobs.specs.declared.terms.Standing.TheVariants as standings
use Rattle.placing.specs.Index.{kept_of}
use Rattle.placing.specs.Placing.{Apart, row}
use Rattle.placing.specs.Plan.{Stands}
use Rattle.placing.specs.Promise.{Changed}
use Rattle.calls.specs.Calls.{FirstOther}
use Rattle.plan.specs.Rows.{OthersStay}

-- the standing of a row
abbrev standing_of : Bool → Standing
standing_of true = standings.Kept
standing_of false = standings.Dropped

stands_as : (rows : List Row) (i n : ℕ) → i < length rows → (row rows i).number ≡ n → (v : Bool) → kept_of rows i ≡ v → Stands rows n (standing_of v)
stands_as rows i n l e true k = (i, l, e, k)
stands_as rows i n l e false k = (i, l, e, k)

module _ (before after : List Row) (apart_b : Apart before) (apart_a : Apart after) (i : ℕ) (l : i < length after) where
  -- a job that was not in the table
  pub changed_new : Stands before (row after i).number standings.Absent → Changed before after (row after i).number
  changed_new absent standings.Kept b x y e = absent x.0 x.1 x.2
  changed_new absent standings.Dropped b x y e = absent x.0 x.1 x.2
  changed_new absent standings.Absent standings.Absent x y e = y i l refl
  changed_new absent standings.Absent standings.Kept x y e = let z : ◌≡◌ {A = ℕ} 0 1 = cc in omega arith
  changed_new absent standings.Absent standings.Dropped x y e = let z : ◌≡◌ {A = ℕ} 0 1 = cc in omega arith

  module _ (k : ℕ) (m : k < length before) (same : (row before k).number ≡ (row after i).number) where
    flag_b : (j : ℕ) → j < length before → (row before j).number ≡ (row after i).number → kept_of before j ≡ kept_of before k
    flag_b j h e = ap (kept_of before) (apart_b j k h m (e ∙ sym same))

    flag_a : (j : ℕ) → j < length after → (row after j).number ≡ (row after i).number → kept_of after j ≡ kept_of after i
    flag_a j h e = ap (kept_of after) (apart_a j i h l e)

    pub changed_flag : (kept_of before k ≡ kept_of after i → ⊥) → Changed before after (row after i).number
    changed_flag ne standings.Kept standings.Kept x y e = ne (sym (flag_b x.0 x.1 x.2) ∙ (x.3 ∙ (sym y.3 ∙ flag_a y.0 y.1 y.2)))
    changed_flag ne standings.Dropped standings.Dropped x y e = ne (sym (flag_b x.0 x.1 x.2) ∙ (x.3 ∙ (sym y.3 ∙ flag_a y.0 y.1 y.2)))
    changed_flag ne standings.Absent b x y e = x k m same
    changed_flag ne standings.Kept standings.Dropped x y e = let z : ◌≡◌ {A = ℕ} 0 1 = cc in omega arith
    changed_flag ne standings.Kept standings.Absent x y e = y i l refl
    changed_flag ne standings.Dropped standings.Kept x y e = let z : ◌≡◌ {A = ℕ} 0 1 = cc in omega arith
    changed_flag ne standings.Dropped standings.Absent x y e = y i l refl

    pub same_flag : kept_of before k ≡ kept_of after i → Changed before after (row after i).number → ⊥
    same_flag e ch =
        ch (standing_of (kept_of after i)) (standing_of (kept_of after i)) (stands_as before k (row after i).number m same (kept_of after i) e)
        (stands_as after i (row after i).number l refl (kept_of after i) refl) refl

    pub flags_compared : (x y : Bool) → x ≡ kept_of before k → y ≡ kept_of after i → Decides (not (beq x y)) (Changed before after (row after i).number)
    flags_compared true true p q = (λ e. absurd (both_ways false refl e), λ ch. absurd (same_flag (sym p ∙ q) ch))
    flags_compared false false p q = (λ e. absurd (both_ways false refl e), λ ch. absurd (same_flag (sym p ∙ q) ch))
    flags_compared true false p q = (λ _. changed_flag (λ e. both_ways true (p ∙ (e ∙ sym q)) refl), λ _. refl)
    flags_compared false true p q = (λ _. changed_flag (λ e. both_ways false refl (p ∙ (e ∙ sym q))), λ _. refl)

-- nobody changed, where none of the rows after did
pub no_other : (before after : List Row) (named : ℕ) → OthersStay before after named →
    ((i : ℕ) → i < length after → ((row after i).number ≡ named → ⊥) → Changed before after (row after i).number → ⊥) → FirstOther before after named None
no_other before after named stay none n ne ch =
    elim (any_below (λ i. eqb (row after i).number n) (length after)) [
      | inl w ↦
          (let e = eqb-true (row after w.0).number n w.2 in
          none w.0 w.1 (λ z. ne (sym e ∙ z)) (subst (Changed before after) (sym e) ch))
      | inr w ↦
          (let gone : Stands after n standings.Absent = λ i l e. eqb-false (row after i).number n (w i l) e in
          ch standings.Absent standings.Absent (λ i l e. let v = stay i l (λ z. ne (sym e ∙ z)) in gone v.0 v.1 (v.2 ∙ e)) gone refl)
    ]
