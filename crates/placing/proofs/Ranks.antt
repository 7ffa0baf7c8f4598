-- Two lists in rank order with the same jobs are one list, so tables with the same jobs have one plan. Assumes nothing.
--   Within xs ys    each job of xs is one of ys
use Rattle.std.proofs.Common.{◌≡◌, ℕ, zero, suc, ◌<◌, ◌≤◌, Bool, true, ◌⊎◌, List, [], ◌∷◌, length, get_or, take, drop, sym, refl, ap, ◌∙◌, subst, inl, inr, arith}
use Rattle.jobs.specs.declared.terms.Row.{Row}
use Rattle.jobs.specs.declared.terms.Job.{Job}
use Rattle.placing.specs.Placing.{row, SameJob, SameTable}
use Rattle.placing.specs.Promise.{job_of, jobs_of, Member, InRankOrder}
use Rattle.placing.specs.Orders.{RankOrder}
use Rattle.placing.specs.Theorems.{PlanAlone}
use Rattle.placing.proofs.Seats.{one_plan}
use Rattle.placing.proofs.Sound.{jobs_taken}

module _ {W : Type 0} (no_lighter : W → W → Bool) (before : Job W → Job W → Bool) (ranks : RankOrder no_lighter before) where
  pub tail_ranked : (x : Job W) (xs : List (Job W)) → InRankOrder before (x ∷ xs) → InRankOrder before xs
  tail_ranked x xs ranked i d l = ranked (suc i) d (omega arith)

  pub head_first : (x : Job W) (xs : List (Job W)) → InRankOrder before (x ∷ xs) → (d : Job W) (i : ℕ) → i < length xs → before x (get_or xs i d) ≡ true
  head_first x xs ranked d zero l = ranked 0 d (omega arith)
  head_first x xs ranked d (suc i) l = ranks.trans x (get_or xs i d) (get_or xs (suc i) d) (head_first x xs ranked d i (omega arith)) (ranked (suc i) d (omega arith))

  pub head_before : (x : Job W) (xs : List (Job W)) → InRankOrder before (x ∷ xs) → (j : Job W) → Member j xs → before x j ≡ true
  head_before x xs ranked j m = subst (λ y. before x y ≡ true) m.2 (head_first x xs ranked j m.0 m.1)

  -- a member is the head or in the tail
  pub member_cases : (j x : Job W) (xs : List (Job W)) → Member j (x ∷ xs) → (x ≡ j) ⊎ Member j xs
  member_cases j x xs (zero, l, e) = inl e
  member_cases j x xs (suc i, l, e) = inr (i, omega arith, e)

  pub member_later : (j x : Job W) (xs : List (Job W)) → Member j xs → Member j (x ∷ xs)
  member_later j x xs m = (suc m.0, (let l = m.1 in omega arith), m.2)

  pub member_here : (x : Job W) (xs : List (Job W)) → Member x (x ∷ xs)
  member_here x xs = (0, omega arith, refl)

  abbrev pub Within : List (Job W) → List (Job W) → Type 0
  Within xs ys = (j : Job W) → Member j xs → Member j ys

  same_heads : (x y : Job W) (xs ys : List (Job W)) → InRankOrder before (x ∷ xs) → InRankOrder before (y ∷ ys) → Within (x ∷ xs) (y ∷ ys) → Within (y ∷ ys) (x ∷ xs) → x ≡ y
  same_heads x y xs ys rx ry to fro =
      elim (member_cases x y ys (to x (member_here x xs))) [
        | inl e ↦ sym e
        | inr m ↦ elim (member_cases y x xs (fro y (member_here y ys))) [
          | inl e ↦ e
          | inr n ↦ absurd (ranks.never x (ranks.trans x y x (head_before x xs rx y n) (head_before y ys ry x m)))
        ]
      ]

  within_tails : (x y : Job W) (xs ys : List (Job W)) → InRankOrder before (x ∷ xs) → x ≡ y → Within (x ∷ xs) (y ∷ ys) → Within xs ys
  within_tails x y xs ys rx e to j m =
      elim (member_cases j y ys (to j (member_later j x xs m))) [
        | inl z ↦ absurd (ranks.never x (subst (λ k. before x k ≡ true) (sym z ∙ sym e) (head_before x xs rx j m)))
        | inr n ↦ n
      ]

  pub sorted_same : (xs ys : List (Job W)) → InRankOrder before xs → InRankOrder before ys → Within xs ys → Within ys xs → xs ≡ ys
  sorted_same [] [] rx ry to fro = refl
  sorted_same [] (y ∷ ys) rx ry to fro = absurd (let m = fro y (member_here y ys) in let l = m.1 in omega arith)
  sorted_same (x ∷ xs) [] rx ry to fro = absurd (let m = to x (member_here x xs) in let l = m.1 in omega arith)
  sorted_same (x ∷ xs) (y ∷ ys) rx ry to fro =
      let e = same_heads x y xs ys rx ry to fro in
      let ih = sorted_same xs ys (tail_ranked x xs rx) (tail_ranked y ys ry) (within_tails x y xs ys rx e to) (within_tails y x ys xs ry (sym e) fro) in
      λ i. e i ∷ ih i

same_more : (r o : Row) (rs os : List Row) → SameJob r o → SameTable rs os → SameTable (r ∷ rs) (o ∷ os)
same_more r o rs os s t = record { size = ap suc t.size; jobs = at_each }
  where
    at_each : (i : ℕ) → i < suc (length rs) → SameJob (row (r ∷ rs) i) (row (o ∷ os) i)
    at_each zero l = s
    at_each (suc i) l = t.jobs i (omega arith)

-- what equal lists of jobs say of the rows and the weights
pub jobs_same : {W : Type 0} (rows others : List Row) (ws vs : List W) → length rows ≤ length ws → length others ≤ length vs → jobs_of rows ws ≡ jobs_of others vs →
    SameTable rows others × (take (length rows) ws ≡ take (length rows) vs)
jobs_same [] [] ws vs a b e = (record { size = refl; jobs = λ i l. absurd (omega arith) }, refl)
jobs_same [] (o ∷ os) ws [] a b e = absurd (omega arith)
jobs_same [] (o ∷ os) ws (v ∷ vs) a b e = absurd (let l = ap length e in omega arith)
jobs_same (r ∷ rs) others [] vs a b e = absurd (omega arith)
jobs_same (r ∷ rs) [] (w ∷ ws) vs a b e = absurd (let l = ap length e in omega arith)
jobs_same (r ∷ rs) (o ∷ os) (w ∷ ws) [] a b e = absurd (omega arith)
jobs_same (r ∷ rs) (o ∷ os) (w ∷ ws) (v ∷ vs) a b e =
    let head : job_of r w ≡ job_of o v = ap (λ xs. get_or xs 0 (job_of r w)) e in
    let tail : jobs_of rs ws ≡ jobs_of os vs = ap (drop 1) e in
    let ih = jobs_same rs os ws vs (omega arith) (omega arith) tail in
    let n : w ≡ v = ap (λ j. j.weight) head in
    (same_more r o rs os (ap (λ j. j.number) head, ap (λ j. j.ready) head, ap (λ j. j.deadline) head) ih.0, λ k. n k ∷ ih.1 k)

pub plan_alone : {W : Type 0} → PlanAlone W
plan_alone no_lighter before ranks first o mask mask' agree table table' same rows others store shelf p q =
    let e = sorted_same no_lighter before ranks (jobs_of rows (take (length rows) store)) (jobs_of others (take (length others) shelf)) p.ranked q.ranked
    (λ j m. q.jobs.1 j (same.1 j (p.jobs.2 j m))) (λ j m. p.jobs.1 j (same.2 j (q.jobs.2 j m))) in
    let s = jobs_same rows others store shelf p.stored q.stored (sym (jobs_taken rows store) ∙ (e ∙ jobs_taken others shelf)) in
    (one_plan first o mask mask' agree rows others s.0 p.drawn q.drawn, s.1)
