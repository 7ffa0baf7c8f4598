-- Tables that differ by one row, whatever the seats: who stays, and that at most one other changes its standing. Assumes nothing.
use Rattle.std.proofs.Common.{◌≡◌, ℕ, suc, ◌-◌, ◌<◌, ◌≤◌, List, length, sym, refl, ap, ◌∙◌, subst, inl, inr, add-one, arith}
use Rattle.std.specs.List.{insert, remove}
use Rattle.std.proofs.lemmas.List.Edits.{length-insert, get_or-insert_below, get_or-insert_at, get_or-insert_above, length-remove, get_or-remove_below, get_or-remove_above}
use Rattle.std.proofs.lemmas.Bool.{cases_lt, cases_order}
use Rattle.jobs.specs.declared.terms.Row.{Row}
use Rattle.placing.specs.Change.{OneMore, AtMostOne}
use Rattle.placing.specs.Placing.{row, blank, SameJob, SameTable, Apart}
use Rattle.placing.specs.Plan.{KeptRule}
use Rattle.placing.proofs.Change.{offer_changes_one, withdrawal_changes_one, reranking_changes_one}
use Rattle.plan.specs.Rows.{OthersStay}

-- a row more, and then other seats
more_inserted : (rows after : List Row) (p : ℕ) (r : Row) → p ≤ length rows → SameTable (insert rows p r) after → OneMore rows p after × SameJob r (row after p)
more_inserted rows after p r l s =
    let n = length-insert rows p r l in
    let z = s.size in (
      record {
        within = l;
        size = omega arith;
        front = λ j h. subst (λ x. SameJob x (row after j)) (get_or-insert_below rows p r blank j h l) (s.jobs j (omega arith));
        back = λ j h k. subst (λ x. SameJob x (row after (suc j))) (ap (row (insert rows p r)) (sym (add-one j)) ∙ get_or-insert_above rows p r blank j h l) (s.jobs (suc j) (omega arith));
      },
      subst (λ x. SameJob x (row after p)) (get_or-insert_at rows p r blank l) (s.jobs p (omega arith)),
    )

pub offer_more : (rows mid after : List Row) (p : ℕ) (r : Row) → p ≤ length rows → mid ≡ insert rows p r → SameTable mid after → OneMore rows p after × SameJob r (row after p)
offer_more rows mid after p r within is same = more_inserted rows after p r within (subst (λ rs. SameTable rs after) is same)

-- a row less, and then other seats
more_removed : (rows after : List Row) (p : ℕ) → p < length rows → SameTable (remove rows p) after → OneMore after p rows
more_removed rows after p l s =
    let n = length-remove rows p l in
    let z = s.size in
    let turned : (x y : Row) → SameJob x y → SameJob y x = λ x y e. (sym e.0, sym e.1, sym e.2) in
    record {
      within = omega arith;
      size = omega arith;
      front = λ j h. subst (λ x. SameJob (row after j) x) (get_or-remove_below rows p blank j h l) (turned (row (remove rows p) j) (row after j) (s.jobs j (omega arith)));
      back = λ j h k. subst (λ x. SameJob (row after j) x) (get_or-remove_above rows p blank j h l ∙ ap (row rows) (add-one j)) (turned (row (remove rows p) j) (row after j) (s.jobs j (omega arith)));
    }

pub withdraw_more : (rows mid after : List Row) (p : ℕ) → p < length rows → mid ≡ remove rows p → SameTable mid after → OneMore after p rows
withdraw_more rows mid after p l is same = more_removed rows after p l (subst (λ rs. SameTable rs after) is same)

pub same_itself : (rows : List Row) → SameTable rows rows
same_itself rows = record { size = refl; jobs = λ i l. (refl, refl, refl) }

-- who is in the table with fewer rows is in the one with more
pub more_stay : (fewer more : List Row) (p named : ℕ) → OneMore fewer p more → OthersStay fewer more named
more_stay fewer more p named o i l ne =
    let z = o.size in
    elim (cases_lt i p) [
      | inl h ↦ (i, omega arith, sym (o.front i h).0)
      | inr h ↦ (suc i, omega arith, sym (o.back i h l).0)
    ]

-- and the other way round, but for the one more
pub less_stay : (fewer more : List Row) (p named : ℕ) → OneMore fewer p more → (row more p).number ≡ named → OthersStay more fewer named
less_stay fewer more p named o is i l ne =
    let z = o.size in
    let w = o.within in
    elim (cases_order i p) [
      | inl e ↦ absurd (ne (ap (λ (j : ℕ). (row more j).number) e ∙ is))
      | inr q ↦ elim q [
        | inl h ↦ (i, omega arith, (o.front i h).0)
        | inr h ↦
            (let e : suc (i - 1) ≡ i = omega arith in
            (i - 1, omega arith, (o.back (i - 1) (omega arith) (omega arith)).0 ∙ ap (λ (j : ℕ). (row more j).number) e))
      ]
    ]

pub stay_on : (before rest after : List Row) (named : ℕ) → OthersStay before rest named → OthersStay rest after named → OthersStay before after named
stay_on before rest after named a b i l ne =
    let v = a i l ne in
    let w = b v.0 v.1 (λ e. ne (sym v.2 ∙ e)) in
    (w.0, w.1, w.2 ∙ v.2)

module _ (mask : ℕ → ℕ) (before after : List Row) (named : ℕ) (kept : KeptRule mask before) (kept' : KeptRule mask after) where
  pub offer_one : (p : ℕ) → OneMore before p after → Apart after → (row after p).number ≡ named → AtMostOne before after named
  offer_one p o apart is = subst (AtMostOne before after) is (offer_changes_one mask before after p o apart kept kept').0

  pub withdraw_one : (p : ℕ) → OneMore after p before → Apart before → (row before p).number ≡ named → AtMostOne before after named
  withdraw_one p o apart is = subst (AtMostOne before after) is (withdrawal_changes_one mask before after p o apart kept kept').0

  pub reweigh_one : (rest : List Row) (p q : ℕ) → OneMore rest p before → OneMore rest q after → SameJob (row before p) (row after q) → Apart before → (row before p).number ≡ named → AtMostOne before after named
  reweigh_one rest p q o o' same apart is = subst (AtMostOne before after) is (reranking_changes_one mask before rest after p q o o' same apart kept kept').0

-- other seats leave all in the table
pub stay_seated : (before mid after : List Row) (named : ℕ) → OthersStay before mid named → SameTable mid after → OthersStay before after named
stay_seated before mid after named stay same i l ne =
    let v = stay i l ne in
    let size = same.size in
    (v.0, (let h = v.1 in omega arith), sym (same.jobs v.0 v.1).0 ∙ v.2)
