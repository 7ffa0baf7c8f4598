-- Reasons, from the stretches and the rank order; best, from the reasons. Assumes nothing.
--   weighs_at level weights i    weight i is there, and at or above the level
use Rattle.std.proofs.Common.{◌≡◌, ℕ, zero, suc, ◌+◌, ◌<◌, ◌≤◌, Bool, true, false, cond, ◌&&◌, List, [], ◌∷◌, length, get_or, take, is_some, sym, refl, ap, ◌∙◌, subst, inl, inr, arith}
use Rattle.std.proofs.lemmas.Bool.{cases_eq}
use Rattle.jobs.specs.declared.terms.Row.{Row}
use Rattle.jobs.specs.declared.terms.Job.{Job}
use Rattle.dealing.specs.Counting.{one, count}
use Rattle.placing.specs.Placing.{Placing}
use Rattle.placing.specs.Plan.{KeptRule}
use Rattle.placing.specs.Promise.{job_of, jobs_of, InRankOrder, kept_above, Reasons}
use Rattle.placing.specs.Orders.{Weighs, RankOrder}
use Rattle.placing.specs.Index.{kept_of}
use Rattle.placing.specs.Theorems.{kept_among, Reasoned, ReasonsMakeBest, PlanSound}
use Rattle.placing.proofs.Keeping.{reasoned_keeps_most}
use Rattle.placing.proofs.Stretches.{stretch_full, dropped_has_full_stretch}

pub count_cons : (p : ℕ → Bool) (n : ℕ) → count p (suc n) ≡ one (p 0) + count (λ i. p (suc i)) n
count_cons p zero = omega arith
count_cons p (suc n) = let ih = count_cons p n in omega arith

count_none : (n : ℕ) → count (λ _. false) n ≡ 0
count_none zero = refl
count_none (suc n) = let ih = count_none n in omega arith

pub jobs_taken : {W : Type 0} (rows : List Row) (ws : List W) → jobs_of rows (take (length rows) ws) ≡ jobs_of rows ws
jobs_taken [] ws = refl
jobs_taken (r ∷ rs) [] = refl
jobs_taken (r ∷ rs) (w ∷ ws) = ap (λ js. job_of r w ∷ js) (jobs_taken rs ws)

module _ {W : Type 0} (no_lighter : W → W → Bool) where
  abbrev weighs_at : W → List W → ℕ → Bool
  weighs_at level [] i = false
  weighs_at level (w ∷ ws) zero = no_lighter w level
  weighs_at level (w ∷ ws) (suc i) = weighs_at level ws i

  weighs_get_d : (level : W) (ws : List W) (i : ℕ) → i < length ws → (d : W) → weighs_at level ws i ≡ no_lighter (get_or ws i d) level
  weighs_get_d level [] i l d = absurd (omega arith)
  weighs_get_d level (w ∷ ws) zero l d = refl
  weighs_get_d level (w ∷ ws) (suc i) l d = weighs_get_d level ws i (omega arith) d

  above_among : (level : W) (rows : List Row) (ws : List W) → kept_above no_lighter level rows ws ≡ kept_among (weighs_at level ws) rows
  above_among level [] ws = refl
  above_among level (r ∷ rs) [] = sym (count_none (suc (length rs)))
  above_among level (r ∷ rs) (w ∷ ws) =
      go (is_some r.seat) (no_lighter w level) (above_among level rs ws) ∙ sym (count_cons (λ i. weighs_at level (w ∷ ws) i && kept_of (r ∷ rs) i) (length rs))
    where
      go : (a b : Bool) → kept_above no_lighter level rs ws ≡ kept_among (weighs_at level ws) rs →
          cond (a && b) (suc (kept_above no_lighter level rs ws)) (kept_above no_lighter level rs ws) ≡ one (b && a) + kept_among (weighs_at level ws) rs
      go true true e = omega arith
      go true false e = omega arith
      go false true e = omega arith
      go false false e = omega arith

  -- at each level a placing with its reasons is a reasoned one
  module _ (weighs : Weighs no_lighter) (mask : ℕ → ℕ) (rows : List Row) (ws : List W) (few : length rows ≤ length ws) (reasons : Reasons no_lighter mask rows ws) (level : W) where
    level_reasoned : Reasoned mask (weighs_at level ws) rows
    level_reasoned i l h d =
        let w = reasons.stretch i l d in (
          w.0,
          w.1,
          w.2.around.0,
          w.2.around.1,
          λ p o a b.
              let v = reasons.full i w.0 w.1 l d w.2 p o a b in
              let at_i = sym (weighs_get_d level ws i (omega arith) level) ∙ h in
              let at_j = weighs_get_d level ws v.0 (omega arith) level in
              (v.0, v.1, at_j ∙ weighs.trans (get_or ws v.0 level) (get_or ws i level) level (v.3 level) at_i, v.2, v.4, v.5),
        )

  module _ (before : Job W → Job W → Bool) (weighs : Weighs no_lighter) (ranks : RankOrder no_lighter before) where
    -- each weight is no lighter than the next
    next : (rows : List Row) (ws : List W) → InRankOrder before (jobs_of rows ws) → (d : W) (i : ℕ) → suc i < length rows → suc i < length ws → no_lighter (get_or ws i d) (get_or ws (suc i) d) ≡ true
    next [] ws ranked d i l m = absurd (omega arith)
    next (r ∷ []) ws ranked d i l m = absurd (omega arith)
    next (r ∷ s ∷ rs) [] ranked d i l m = absurd (omega arith)
    next (r ∷ s ∷ rs) (v ∷ []) ranked d i l m = absurd (omega arith)
    next (r ∷ s ∷ rs) (v ∷ w ∷ ws) ranked d zero l m = ranks.weights (job_of r v) (job_of s w) (ranked 0 (job_of r v) (omega arith))
    next (r ∷ s ∷ rs) (v ∷ w ∷ ws) ranked d (suc i) l m = next (s ∷ rs) (w ∷ ws) (λ k e h. ranked (suc k) e (omega arith)) d i (omega arith) (omega arith)

    earlier : (rows : List Row) (ws : List W) → InRankOrder before (jobs_of rows ws) → length rows ≤ length ws → (d : W) (i j : ℕ) → j < i → i < length rows → no_lighter (get_or ws j d) (get_or ws i d) ≡ true
    earlier rows ws ranked few d zero j h l = absurd (omega arith)
    earlier rows ws ranked few d (suc i) j h l =
        let n = next rows ws ranked d i l (omega arith) in
        elim (cases_eq j i) [
          | inl z ↦ subst (λ x. no_lighter (get_or ws x d) (get_or ws (suc i) d) ≡ true) (sym z) n
          | inr z ↦ weighs.trans (get_or ws j d) (get_or ws i d) (get_or ws (suc i) d) (earlier rows ws ranked few d i j (omega arith) (omega arith)) n
        ]

    reasons_of : (mask : ℕ → ℕ) (rows : List Row) (ws : List W) → KeptRule mask rows → Placing mask rows → InRankOrder before (jobs_of rows ws) → length rows ≤ length ws → Reasons no_lighter mask rows ws
    reasons_of mask rows ws rule s ranked few = record {
      stretch = λ i l h. let w = dropped_has_full_stretch mask rows rule s i l h in (w.0, w.1, w.2);
      full = λ i lo hi l h st p o a b.
          let w = stretch_full mask rows rule s i lo hi l h st p o a b in
          (w.0, omega arith, w.2, (λ d. earlier rows ws ranked few d i w.0 w.1 l), w.3, w.4);
    }

pub reasons_make_best : {W : Type 0} → ReasonsMakeBest W
reasons_make_best no_lighter weighs mask rows ws few s reasons level others r =
    let a = above_among no_lighter level rows ws in
    let b = above_among no_lighter level others ws in
    let c = reasoned_keeps_most mask (weighs_at no_lighter level ws) rows s (level_reasoned no_lighter weighs mask rows ws few reasons level) others r in
    omega arith

pub plan_sound : {W : Type 0} → PlanSound W
plan_sound no_lighter before weighs ranks first mask table rows store p =
    let ranked : InRankOrder before (jobs_of rows store) = subst (InRankOrder before) (jobs_taken rows store) p.ranked in
    let reasons = reasons_of no_lighter before weighs ranks mask rows store p.drawn.kept p.drawn.placing ranked p.stored in
    record { plan = p; best = reasons_make_best no_lighter weighs mask rows store p.stored p.drawn.placing reasons; reasons = reasons }
