-- The loops of a trial, step by step. Assumes nothing.
--   Carrying rows counts at x p c    the trial of row x has come to place p with row c in hand
--   taken_place, empty_place         who sits at a place
--   stored, beyond                   what a write at p leaves below, and what beyond
--   seats_row                        none but the first k rows sits at a place after it
use Rattle.std.proofs.Common.{◌≡◌, ℕ, ◌+◌, ◌<◌, ◌≤◌, Bool, true, false, ◌&&◌, leb, List, length, get_or, set, Option, Some, None, unwrap_or, sym, refl, ap, ◌∙◌, subst, inl, inr, add-one, arith}
use Rattle.std.proofs.lemmas.Bool.{cases_eq, le-leb}
use Rattle.std.proofs.lemmas.List.{get_or-set_same, get_or-set_other}
use Rattle.jobs.specs.declared.terms.Row.{Row}
use Rattle.placing.specs.Placing.{row}
use Rattle.drawing.specs.Slots.{board_by, Numbered}
use Rattle.drawing.specs.Draw.{Drawable}
use Rattle.drawing.specs.Trial.{order, seat_of, start, carried_in, settled_in, PassedIn, SucceedsIn, FailsIn, OfRows}
use Rattle.drawing.proofs.Slots.{counts_rise, in_slot, below_slot}
use Rattle.drawing.proofs.Walk.{carried_keep, carried_swap, carried_start}

pub record Carrying (rows : List Row) (counts : List ℕ) (at : List (Option ℕ)) (x p c : ℕ) : Type 0 where
  pub small : c < length rows
  pub from : start rows counts x ≤ p
  pub upto : p ≤ get_or counts 1024 0
  pub is : c ≡ carried_in rows counts at x p
  pub passed : PassedIn rows counts at x p

module _ (rows : List Row) (counts : List ℕ) (at : List (Option ℕ)) (x : ℕ) (drawable : Drawable rows) (numbered : Numbered counts) (within : x < length rows) (early : (row rows x).ready ≤ 1024) where
  pub carrying_start : Carrying rows counts at x (start rows counts x) x
  carrying_start = record {
    small = within;
    from = omega arith;
    upto = counts_rise counts numbered (row rows x).ready 1024 early (omega arith);
    is = sym (carried_start (order rows) (seat_of at) (start rows counts x) x (start rows counts x) (omega arith));
    passed = λ q l m. absurd (omega arith);
  }

  module _ (p c : ℕ) (carrying : Carrying rows counts at x p c) where
    pub carrying_below : p < get_or counts (row rows c).deadline 0 → p < get_or counts 1024 0
    carrying_below h = let r = counts_rise counts numbered (row rows c).deadline 1024 (drawable.deadlines c carrying.small) (omega arith) in omega arith

    pub carrying_deadline : p < get_or counts (row rows c).deadline 0 → (board_by counts).slot p < (row rows (carried_in rows counts at x p)).deadline
    carrying_deadline h = subst (λ v. (board_by counts).slot p < (row rows v).deadline) carrying.is (below_slot counts numbered (row rows c).deadline p (drawable.deadlines c carrying.small) h)

    passed_more : seat_of at p < length rows → (board_by counts).slot p < (row rows (carried_in rows counts at x p)).deadline → PassedIn rows counts at x (p + 1)
    passed_more o d q l m =
        elim (cases_eq q p) [
          | inl e ↦ subst (λ y. (seat_of at y < length rows) × ((board_by counts).slot y < (row rows (carried_in rows counts at x y)).deadline)) (sym e) (o, d)
          | inr e ↦ carrying.passed q l (omega arith)
        ]

    tested : (v : Bool) → order rows c (seat_of at p) ≡ v →
        (leb (start rows counts x) p && order rows (carried_in rows counts at x p) (seat_of at p)) ≡ v
    tested v h =
        let e : order rows (carried_in rows counts at x p) (seat_of at p) ≡ v = ap (λ j. order rows j (seat_of at p)) (sym carrying.is) ∙ h in
        ap (λ y. y && order rows (carried_in rows counts at x p) (seat_of at p)) (le-leb (start rows counts x) p carrying.from) ∙ e

    pub carrying_keep : p < get_or counts 1024 0 → seat_of at p < length rows → (board_by counts).slot p < (row rows (carried_in rows counts at x p)).deadline → order rows c (seat_of at p) ≡ false →
        Carrying rows counts at x (p + 1) c × (settled_in rows counts at x p ≡ seat_of at p)
    carrying_keep b o d e =
        let w = carried_keep (order rows) (seat_of at) (start rows counts x) x p (tested false e) in
        let l = carrying.from in (
          record {
            small = carrying.small;
            from = omega arith;
            upto = omega arith;
            is = carrying.is ∙ (sym w.0 ∙ ap (carried_in rows counts at x) (sym (add-one p)));
            passed = passed_more o d;
          },
          w.1,
        )

    pub carrying_swap : p < get_or counts 1024 0 → seat_of at p < length rows → (board_by counts).slot p < (row rows (carried_in rows counts at x p)).deadline → order rows c (seat_of at p) ≡ true →
        Carrying rows counts at x (p + 1) (seat_of at p) × (settled_in rows counts at x p ≡ c)
    carrying_swap b o d e =
        let w = carried_swap (order rows) (seat_of at) (start rows counts x) x p (tested true e) in
        let l = carrying.from in (
          record {
            small = o;
            from = omega arith;
            upto = omega arith;
            is = sym w.0 ∙ ap (carried_in rows counts at x) (sym (add-one p));
            passed = passed_more o d;
          },
          w.1 ∙ sym carrying.is,
        )

    pub carrying_succeeds : p < get_or counts (row rows c).deadline 0 → length rows ≤ seat_of at p → SucceedsIn rows counts at x p
    carrying_succeeds h o = (carrying.from, carrying_below h, carrying.passed, o, carrying_deadline h)

    pub carrying_fails : get_or counts (row rows c).deadline 0 ≤ p → FailsIn rows counts at x p
    carrying_fails h = (
      carrying.from,
      carrying.upto,
      carrying.passed,
      λ _. subst (λ v. (row rows v).deadline ≤ (board_by counts).slot p) carrying.is (in_slot counts numbered (row rows c).deadline p (drawable.deadlines c carrying.small) h),
    )

-- who sits at a place that is taken, and at one that is not
pub taken_place : (xs : List (Option ℕ)) (p i : ℕ) → get_or xs p None ≡ Some i → seat_of xs p ≡ i
taken_place xs p i e = ap (λ o. unwrap_or o 256) e

nobody : (o : Option ℕ) → ((i : ℕ) → o ≡ Some i → ⊥) → unwrap_or o 256 ≡ 256
nobody None h = refl
nobody (Some i) h = absurd (h i refl)

pub empty_place : (xs : List (Option ℕ)) (p : ℕ) → ((i : ℕ) → get_or xs p None ≡ Some i → ⊥) → seat_of xs p ≡ 256
empty_place xs p h = nobody (get_or xs p None) h

-- a write at p: what it leaves below, and what beyond
pub stored : (f : ℕ → ℕ) (xs : List (Option ℕ)) (p v : ℕ) → p < length xs → v ≡ f p → ((q : ℕ) → q < p → seat_of xs q ≡ f q) → (q : ℕ) → q < p + 1 →
    seat_of (set xs p (Some v)) q ≡ f q
stored f xs p v l e h q m =
    elim (cases_eq q p) [
      | inl z ↦ ap (seat_of (set xs p (Some v))) z ∙ (sits (get_or-set_same xs p (Some v) None l) ∙ (e ∙ ap f (sym z)))
      | inr z ↦ sits (get_or-set_other xs p q (Some v) None z) ∙ h q (omega arith)
    ]
  where
    sits : {a b : Option ℕ} → a ≡ b → unwrap_or a 256 ≡ unwrap_or b 256
    sits e = ap (λ o. unwrap_or o 256) e

pub beyond : (f : ℕ → ℕ) (xs : List (Option ℕ)) (p v : ℕ) → ((q : ℕ) → p ≤ q → seat_of xs q ≡ f q) → (q : ℕ) → p + 1 ≤ q → seat_of (set xs p (Some v)) q ≡ f q
beyond f xs p v h q m = ap (λ o. unwrap_or o 256) (get_or-set_other xs p q (Some v) None (λ z. omega arith)) ∙ h q (omega arith)

-- it seats a row
pub seats_row : (xs : List (Option ℕ)) (k p v : ℕ) → p < length xs → OfRows xs k → v < k → OfRows (set xs p (Some v)) k
seats_row xs k p v l h few q i e =
    elim (cases_eq q p) [
      | inl z ↦
          let here : Some v ≡ Some i = sym (ap (λ j. get_or (set xs p (Some v)) j None) z ∙ get_or-set_same xs p (Some v) None l) ∙ e in
          let same : v ≡ i = cc in
          omega arith
      | inr z ↦ h q i (sym (get_or-set_other xs p q (Some v) None z) ∙ e)
    ]
