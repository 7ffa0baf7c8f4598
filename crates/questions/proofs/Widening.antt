-- Runs of slots, widened row by row. Assumes nothing.
use Rattle.std.proofs.Common.{◌≡◌, ℕ, ◌+◌, ◌<◌, List, length, subst, arith, below_more}
use Rattle.jobs.specs.declared.terms.Row.{Row}
use Rattle.placing.specs.Placing.{row}
use Rattle.placing.specs.Plan.{Closed}
use Rattle.questions.specs.Widening.{Inside, Widened}

-- the run holds the window of each of the first k rows that is seated in it
abbrev pub InsideFirst : List Row → ℕ → ℕ → ℕ → Type 0
InsideFirst rows k lo hi = (j : ℕ) → j < k → Inside (row rows j) lo hi

pub widened_none : (rows : List Row) (lo hi : ℕ) → Widened (InsideFirst rows 0) lo hi lo hi
widened_none rows lo hi = record {
  around = (omega arith, omega arith);
  least = λ a b h k _. (h, k);
  same = λ _ _ j l. absurd (omega arith);
}

-- widened once for P and once for Q, a run is widened for both
widened_twice : (P Q R : ℕ → ℕ → Type 0) (lo hi m n from to : ℕ) → ((a b : ℕ) → R a b → P a b × Q a b) → (P lo hi → Q lo hi → R lo hi) → Widened P lo hi m n → Widened Q m n from to → Widened R lo hi from to
widened_twice P Q R lo hi m n from to parts join p q =
    let a = p.around in
    let b = q.around in
    record {
      around = (omega arith, omega arith);
      least = λ x y h k r. let w = p.least x y h k (parts x y r).0 in q.least x y w.0 w.1 (parts x y r).1;
      same = λ e f.
          let e' : m ≡ lo = omega arith in
          let f' : n ≡ hi = omega arith in
          join (p.same e' f') (subst (λ (x : ℕ). Q x hi) e' (subst (λ (y : ℕ). Q m y) f' (q.same (omega arith) (omega arith))));
    }

-- one row more
pub widened_more : (rows : List Row) (k lo hi m n from to : ℕ) → Widened (InsideFirst rows k) lo hi m n → Widened (Inside (row rows k)) m n from to → Widened (InsideFirst rows (k + 1)) lo hi from to
widened_more rows k lo hi m n from to =
    widened_twice (InsideFirst rows k) (Inside (row rows k)) (InsideFirst rows (k + 1)) lo hi m n from to
    (λ a b r. (λ j l. r j (omega arith), r k (omega arith)))
    (λ p q. below_more (λ j. Inside (row rows j) lo hi) k p q)

pub widened_all : (rows : List Row) (k lo hi from to : ℕ) → k ≡ length rows → Widened (InsideFirst rows k) lo hi from to → Widened (Closed rows) lo hi from to
widened_all rows k lo hi from to e w = record {
  around = w.around;
  least = λ a b h g r. w.least a b h g (λ j l p. r j p (omega arith));
  same = λ f g j p l. w.same f g j (omega arith) p;
}
