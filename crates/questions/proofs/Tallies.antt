-- Counts and totals of rows. Assumes nothing.
use Rattle.std.proofs.Common.{◌≡◌, ℕ, suc, ◌+◌, ◌<◌, Bool, true, false, cond, ◌⊎◌, List, [], ◌∷◌, length, take, drop, is_some, fold, Option, refl, ap, ◌∙◌, subst, ⊎_elim, arith}
use mathlib.Core.Bool.{beq}
use Rattle.std.specs.List.{count_by}
use Rattle.std.proofs.lemmas.List.{at_drop_more}
use Rattle.std.proofs.lemmas.List.Sums.{sum_by-cons}
use Rattle.jobs.specs.declared.terms.Row.{Row}
use Rattle.jobs.specs.declared.terms.Seat.{Seat}
use Rattle.placing.specs.Placing.{blank, row}
use Rattle.placing.specs.Promise.{total_of_kept}
use Rattle.calls.specs.Questions.{kept_count, dropped_count, total_of_dropped}

pub kept_counted : (rows : List Row) → count_by (λ (r : Row). is_some r.seat) rows ≡ kept_count rows
kept_counted [] = refl
kept_counted (r ∷ rs) =
    let h = kept_counted rs in
    sum_by-cons (λ (q : Row). cond (is_some q.seat) 1 0) r rs
    ∙ elim (is_some r.seat) as (λ b. cond b 1 0 + count_by (λ (r : Row). is_some r.seat) rs ≡ cond b (suc (kept_count rs)) (kept_count rs)) [ true ↦ omega arith | false ↦ omega arith ]

-- each row is kept or dropped
pub all_counted : (rows : List Row) → kept_count rows + dropped_count rows ≡ length rows
all_counted [] = refl
all_counted (r ∷ rs) = let h = all_counted rs in elim (is_some r.seat) as (λ b. cond b (suc (kept_count rs)) (kept_count rs) + cond b (dropped_count rs) (suc (dropped_count rs)) ≡ suc (length rs)) [ true ↦ omega arith | false ↦ omega arith ]

-- one row less to count, with the seat s
pub kept_less : (rows : List Row) (i : ℕ) (s : Option Seat) → i < length rows → (row rows i).seat ≡ s →
    kept_count (drop i rows) ≡ cond (is_some s) (suc (kept_count (drop (i + 1) rows))) (kept_count (drop (i + 1) rows))
kept_less rows i s h e =
    subst (λ t. kept_count (drop i rows) ≡ cond (is_some t) (suc (kept_count (drop (i + 1) rows))) (kept_count (drop (i + 1) rows))) e (at_drop_more kept_count rows i blank h)

pub dropped_less : (rows : List Row) (i : ℕ) (s : Option Seat) → i < length rows → (row rows i).seat ≡ s →
    dropped_count (drop i rows) ≡ cond (is_some s) (dropped_count (drop (i + 1) rows)) (suc (dropped_count (drop (i + 1) rows)))
dropped_less rows i s h e =
    subst (λ t. dropped_count (drop i rows) ≡ cond (is_some t) (dropped_count (drop (i + 1) rows)) (suc (dropped_count (drop (i + 1) rows)))) e (at_drop_more dropped_count rows i blank h)

module _ {W : Type 0} (kept : Bool) where
  -- the weights of the kept rows, or of the dropped ones
  abbrev pub weights_where : List Row → List W → List W
  weights_where [] ws = []
  weights_where (r ∷ rs) [] = []
  weights_where (r ∷ rs) (w ∷ ws) = cond (beq (is_some r.seat) kept) (w ∷ weights_where rs ws) (weights_where rs ws)

  pub none_where : (rows : List Row) (ws : List W) → (length rows ≡ 0) ⊎ (length ws ≡ 0) → weights_where rows ws ≡ []
  none_where [] ws e = refl
  none_where (r ∷ rs) [] e = refl
  none_where (r ∷ rs) (w ∷ ws) e = absurd (⊎_elim (λ a. omega arith) (λ a. omega arith) e)

  -- weights beyond the rows do not count
  pub where_front : (rows : List Row) (ws : List W) → weights_where rows (take (length rows) ws) ≡ weights_where rows ws
  where_front [] ws = refl
  where_front (r ∷ rs) [] = refl
  where_front (r ∷ rs) (w ∷ ws) = ap (λ vs. cond (beq (is_some r.seat) kept) (w ∷ vs) vs) (where_front rs ws)

module _ {W X : Type 0} (nothing : X) (plus : X → W → X) where
  -- the total of the kept rows, or of the dropped ones
  abbrev pub total_where : Bool → List Row → List W → X
  total_where kept rows ws = cond kept (total_of_kept nothing plus rows ws) (total_of_dropped nothing plus rows ws)

module _ {W X : Type 0} (nothing : X) (plus : X → W → X) (commutes : (t : X) (a b : W) → plus (plus t a) b ≡ plus (plus t b) a) where
  -- a weight added first may as well be added last
  first_last : (t : X) (w : W) (ws : List W) → fold plus (plus t w) ws ≡ plus (fold plus t ws) w
  first_last t w [] = refl
  first_last t w (v ∷ ws) = ap (λ s. fold plus s ws) (commutes t w v) ∙ first_last (plus t v) w ws

  pub folded : (kept : Bool) (rows : List Row) (ws : List W) → fold plus nothing (weights_where kept rows ws) ≡ total_where nothing plus kept rows ws
  folded true [] ws = refl
  folded false [] ws = refl
  folded true (r ∷ rs) [] = refl
  folded false (r ∷ rs) [] = refl
  folded true (r ∷ rs) (w ∷ ws) =
      elim (is_some r.seat) as (λ b. fold plus nothing (cond (beq b true) (w ∷ weights_where true rs ws) (weights_where true rs ws)) ≡ cond b (plus (total_of_kept nothing plus rs ws) w) (total_of_kept nothing plus rs ws)) [
        | true ↦ first_last nothing w (weights_where true rs ws) ∙ ap (λ t. plus t w) (folded true rs ws)
        | false ↦ folded true rs ws
      ]
  folded false (r ∷ rs) (w ∷ ws) =
      elim (is_some r.seat) as (λ b. fold plus nothing (cond (beq b false) (w ∷ weights_where false rs ws) (weights_where false rs ws)) ≡ cond b (total_of_dropped nothing plus rs ws) (plus (total_of_dropped nothing plus rs ws) w)) [
        | true ↦ folded false rs ws
        | false ↦ first_last nothing w (weights_where false rs ws) ∙ ap (λ t. plus t w) (folded false rs ws)
      ]
