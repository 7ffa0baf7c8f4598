-- Whoever keeps as many of each front in rank order has no lighter total: each row kept more so far makes up for one that follows, which is no heavier. Assumes nothing.
--   adds plus v k x    the total x with the weight v, k times
use Rattle.std.proofs.Common.{◌≡◌, ℕ, zero, suc, ◌+◌, ◌≤◌, Bool, true, false, cond, List, [], ◌∷◌, length, is_some, sym, refl, ap, subst, inl, inr, arith}
use Rattle.jobs.specs.declared.terms.Row.{Row}
use Rattle.jobs.specs.declared.terms.Job.{Job}
use Rattle.dealing.specs.Counting.{one, count}
use Rattle.placing.specs.Promise.{job_of, jobs_of, InRankOrder, total_of_kept}
use Rattle.placing.specs.Orders.{Weighs, Totals, RankOrder}
use Rattle.placing.specs.Index.{kept_of}
use Rattle.placing.specs.Theorems.{TotalsFollowCounts, PlanHeaviest}
use Rattle.placing.proofs.Keeping.{front_keeps_most}
use Rattle.placing.proofs.Sound.{count_cons, jobs_taken}

abbrev adds : {W X : Type 0} → (X → W → X) → W → ℕ → X → X
adds plus v zero x = x
adds plus v (suc k) x = plus (adds plus v k x) v

module _ {W X : Type 0} (no_lighter : W → W → Bool) (before : Job W → Job W → Bool) (weighs : Weighs no_lighter) (ranks : RankOrder no_lighter before)
    (nothing : X) (plus : X → W → X) (over : X → X → Bool) (laws : Totals no_lighter plus over) where
  adds_in : (v : W) (k : ℕ) (x : X) → adds plus v k (plus x v) ≡ plus (adds plus v k x) v
  adds_in v zero x = refl
  adds_in v (suc k) x = ap (λ y. plus y v) (adds_in v k x)

  adds_heavier : (v w : W) → no_lighter v w ≡ true → (k : ℕ) (x : X) → over (adds plus v k x) (adds plus w k x) ≡ true
  adds_heavier v w h zero x = laws.same x
  adds_heavier v w h (suc k) x =
      laws.trans (plus (adds plus v k x) v) (plus (adds plus v k x) w) (plus (adds plus w k x) w)
      (laws.heavier (adds plus v k x) v w h) (laws.keeps (adds plus v k x) (adds plus w k x) w (adds_heavier v w h k x))

  adds_more : (v : W) (k : ℕ) (x : X) → over (adds plus v k x) x ≡ true
  adds_more v zero x = laws.same x
  adds_more v (suc k) x = laws.trans (plus (adds plus v k x) v) (adds plus v k x) x (laws.more (adds plus v k x) v) (adds_more v k x)

  -- v is no lighter than the first weight
  abbrev Above : W → List Row → List W → Type 0
  Above v [] ws = Unit {0}
  Above v (r ∷ rs) [] = Unit {0}
  Above v (r ∷ rs) (w ∷ ws) = no_lighter v w ≡ true

  above_next : (r : Row) (w : W) (rs : List Row) (ws : List W) → InRankOrder before (jobs_of (r ∷ rs) (w ∷ ws)) → Above w rs ws
  above_next r w [] ws ranked = tt
  above_next r w (s ∷ rs) [] ranked = tt
  above_next r w (s ∷ rs) (v ∷ ws) ranked = ranks.weights (job_of r w) (job_of s v) (ranked 0 (job_of r w) (omega arith))

  abbrev sum : List Row → List W → X
  sum rows ws = total_of_kept nothing plus rows ws

  -- with k more of a weight no lighter than what follows, where no front of the others has more than k beyond the rows'
  spare : (v : W) (k : ℕ) (rows others : List Row) (ws : List W) → length others ≡ length rows → InRankOrder before (jobs_of rows ws) → Above v rows ws →
      ((m : ℕ) → m ≤ length rows → count (kept_of others) m ≤ k + count (kept_of rows) m) → over (adds plus v k (sum rows ws)) (sum others ws) ≡ true
  spare v k [] [] ws z ranked a front = adds_more v k nothing
  spare v k [] (o ∷ os) ws z ranked a front = absurd (omega arith)
  spare v k (r ∷ rs) [] ws z ranked a front = absurd (omega arith)
  spare v k (r ∷ rs) (o ∷ os) [] z ranked a front = adds_more v k nothing
  spare v k (r ∷ rs) (o ∷ os) (w ∷ ws) z ranked a front =
      go (is_some r.seat) (is_some o.seat) k
      (λ j f. spare w j rs os ws (omega arith) (λ i d l. ranked (suc i) d (omega arith)) (above_next r w rs ws ranked) f)
      (λ m l.
      let x = count_cons (kept_of (r ∷ rs)) m in
      let y = count_cons (kept_of (o ∷ os)) m in
      let f = front (suc m) (omega arith) in
      omega arith)
    where
      K : X
      K = sum rs ws

      R : X
      R = sum os ws

      go : (x y : Bool) (j : ℕ) → ((c : ℕ) → ((m : ℕ) → m ≤ length rs → count (kept_of os) m ≤ c + count (kept_of rs) m) → over (adds plus w c K) R ≡ true) →
          ((m : ℕ) → m ≤ length rs → one y + count (kept_of os) m ≤ j + (one x + count (kept_of rs) m)) →
          over (adds plus v j (cond x (plus K w) K)) (cond y (plus R w) R) ≡ true
      go true true j ih f =
          laws.trans (adds plus v j (plus K w)) (adds plus w j (plus K w)) (plus R w) (adds_heavier v w a j (plus K w))
          (subst (λ t. over t (plus R w) ≡ true) (sym (adds_in w j K)) (laws.keeps (adds plus w j K) R w (ih j (λ m l. let g = f m l in omega arith))))
      go true false j ih f =
          laws.trans (adds plus v j (plus K w)) (adds plus w j (plus K w)) R (adds_heavier v w a j (plus K w))
          (subst (λ t. over t R ≡ true) (sym (adds_in w j K)) (ih (suc j) (λ m l. let g = f m l in omega arith)))
      go false true zero ih f = absurd (let g = f 0 (omega arith) in omega arith)
      go false true (suc j) ih f =
          laws.trans (adds plus v (suc j) K) (adds plus w (suc j) K) (plus R w) (adds_heavier v w a (suc j) K)
          (laws.keeps (adds plus w j K) R w (ih j (λ m l. let g = f m l in omega arith)))
      go false false j ih f =
          laws.trans (adds plus v j K) (adds plus w j K) R (adds_heavier v w a j K) (ih j (λ m l. let g = f m l in omega arith))

  -- each weight is as heavy as itself
  self : (w : W) → no_lighter w w ≡ true
  self w = elim (weighs.total w w) [ inl h ↦ h | inr h ↦ h ]

  self_above : (w : W) (rows : List Row) (ws : List W) → Above w rows (w ∷ ws)
  self_above w [] ws = tt
  self_above w (r ∷ rs) ws = self w

  totals_follow : (rows others : List Row) (ws : List W) → length others ≡ length rows → InRankOrder before (jobs_of rows ws) →
      ((m : ℕ) → m ≤ length rows → count (kept_of others) m ≤ count (kept_of rows) m) → over (sum rows ws) (sum others ws) ≡ true
  totals_follow [] [] [] z ranked front = laws.same nothing
  totals_follow (r ∷ rs) [] [] z ranked front = absurd (omega arith)
  totals_follow [] (o ∷ os) [] z ranked front = absurd (omega arith)
  totals_follow (r ∷ rs) (o ∷ os) [] z ranked front = laws.same nothing
  totals_follow rows others (w ∷ ws) z ranked front = spare w 0 rows others (w ∷ ws) z ranked (self_above w rows ws) (λ m l. let f = front m l in omega arith)

pub totals_follow_counts : {W X : Type 0} → TotalsFollowCounts W X
totals_follow_counts no_lighter before weighs ranks nothing plus over laws rows others ws z ranked front = totals_follow no_lighter before weighs ranks nothing plus over laws rows others ws z ranked front

pub plan_heaviest : {W X : Type 0} → PlanHeaviest W X
plan_heaviest no_lighter before weighs ranks nothing plus over laws first mask table rows store p others r =
    totals_follow no_lighter before weighs ranks nothing plus over laws rows others store r.table.size (subst (InRankOrder before) (jobs_taken rows store) p.ranked)
    (front_keeps_most mask rows others p.drawn.kept r)
