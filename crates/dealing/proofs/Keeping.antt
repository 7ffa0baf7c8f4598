-- There is one choice in turn: how many it keeps of each front is the same in any two. Assumes nothing.
use Rattle.std.proofs.Common.{◌≡◌, ℕ, zero, suc, ◌<◌, ◌≤◌, Bool, true, false, cond, ltb, ◌⊎◌, sym, refl, ◌∙◌, subst, inl, inr, arith}
use Rattle.std.proofs.lemmas.Bool.{cases_lt, both_ways}
use Rattle.std.proofs.lemmas.Bool.Decides.{nat_tests}
use Rattle.dealing.specs.Counting.{one, count}
use Rattle.dealing.specs.Boards.{Table, Board, Placing}
use Rattle.dealing.specs.Choice.{adding, Greedy, ChoiceExists, ChoiceUnique}
use Rattle.dealing.proofs.Boards.{load_fits_room}
use Rattle.dealing.proofs.Choice.{part, kept_are_placed}
use Rattle.dealing.proofs.Reasons.{most_renumbered}
use Rattle.dealing.proofs.Seating.{placed_or_overloaded}

-- two greedy choices, one among the jobs of the other by other numbers
module _ (b : Board) (t u : Table) (kt ku : ℕ → Bool) (gt : Greedy b t kt) (gu : Greedy b u ku) (k : ℕ) (kl : k ≤ t.size) (km : k ≤ u.size) (f : ℕ → ℕ)
    (to : (i : ℕ) → i < k → (f i < k) × (u.ready (f i) ≡ t.ready i) × (u.deadline (f i) ≡ t.deadline i))
    (once : (i j : ℕ) → i < k → j < k → f i ≡ f j → i ≡ j) where
  pub no_more : count kt k ≤ count ku k
  no_more =
      let s = kept_are_placed b t kt gt in
      most_renumbered b u ku gu k km k kt f s.seat
      (λ i l e.
      let z = s.sits i (omega arith) e in
      let w = to i l in
      (w.0, (z.0, z.1, omega arith, omega arith)))
      (λ i j l m e d z. s.apart i j (omega arith) (omega arith) e d z)
      (λ i j l m e d z. once i j l m z)

pub one_same : (v w : Bool) → one v ≡ one w → v ≡ w
one_same true true e = refl
one_same true false e = absurd (omega arith)
one_same false true e = absurd (omega arith)
one_same false false e = refl

-- which of the two, as a test
abbrev pub holds : {A B : Type 0} → A ⊎ B → Bool
holds (inl _) = true
holds (inr _) = false

pub holds_yes : {A B : Type 0} (s : A ⊎ B) → holds s ≡ true → A
holds_yes (inl a) e = a
holds_yes (inr _) e = absurd (both_ways false refl e)

pub holds_no : {A B : Type 0} (s : A ⊎ B) → holds s ≡ false → B
holds_no (inl _) e = absurd (both_ways true e refl)
holds_no (inr c) e = c

-- kept below m, and v from there on
abbrev pub also : (ℕ → Bool) → ℕ → Bool → ℕ → Bool
also kept m v j = cond (ltb j m) (kept j) v

pub also_low : (kept : ℕ → Bool) (m : ℕ) (v : Bool) (j : ℕ) → j < m → also kept m v j ≡ kept j
also_low kept m v j l = grind (arith, nat_tests)

pub also_top : (kept : ℕ → Bool) (m : ℕ) (v : Bool) → also kept m v m ≡ v
also_top kept m v = grind (arith, nat_tests)

pub adding_also : (kept : ℕ → Bool) (m : ℕ) (v : Bool) (i j : ℕ) → i ≤ m → adding (also kept m v) i j ≡ adding kept i j
adding_also kept m v i j h =
    elim (cases_lt j i) [
      | inl l ↦ (let e = also_low kept m v j (omega arith) in grind (arith, nat_tests))
      | inr l ↦ grind (arith, nat_tests)
    ]

-- a greedy choice of the first m jobs
pub record Below (b : Board) (t : Table) (kept : ℕ → Bool) (m : ℕ) : Type 0 where
  pub fits : (i : ℕ) → i < m → kept i ≡ true → Placing b t (adding kept i)
  pub refused : (i : ℕ) → i < m → kept i ≡ false → Placing b t (adding kept i) → ⊥

same_set : (b : Board) (t : Table) (K L : ℕ → Bool) → ((j : ℕ) → L j ≡ K j) → Placing b t K → Placing b t L
same_set b t K L h s = part b t K L s (λ j jl e. sym (h j) ∙ e)

chosen_more : (b : Board) (t : Table) (kept : ℕ → Bool) (m : ℕ) → Below b t kept m → (v : Bool) →
    (v ≡ true → Placing b t (adding kept m)) → (v ≡ false → Placing b t (adding kept m) → ⊥) → Below b t (also kept m v) (suc m)
chosen_more b t kept m c v may never = record {
  fits = λ i l e. elim (cases_lt i m) [
    | inl h ↦ same_set b t (adding kept i) (adding (also kept m v) i) (λ j. adding_also kept m v i j (omega arith)) (c.fits i h (sym (also_low kept m v i h) ∙ e))
    | inr h ↦
        (let z : m ≡ i = omega arith in
        subst (λ k. also kept m v k ≡ true → Placing b t (adding (also kept m v) k)) z
        (λ d. same_set b t (adding kept m) (adding (also kept m v) m) (λ j. adding_also kept m v m j (omega arith)) (may (sym (also_top kept m v) ∙ d))) e)
  ];
  refused = λ i l e s. elim (cases_lt i m) [
    | inl h ↦ c.refused i h (sym (also_low kept m v i h) ∙ e) (same_set b t (adding (also kept m v) i) (adding kept i) (λ j. sym (adding_also kept m v i j (omega arith))) s)
    | inr h ↦
        (let z : m ≡ i = omega arith in
        subst (λ k. also kept m v k ≡ false → Placing b t (adding (also kept m v) k) → ⊥) z
        (λ d r. never (sym (also_top kept m v) ∙ d) (same_set b t (adding (also kept m v) m) (adding kept m) (λ j. sym (adding_also kept m v m j (omega arith))) r)) e s)
  ];
}

chosen_below : (b : Board) (t : Table) (m : ℕ) → (kept : ℕ → Bool) × Below b t kept m
chosen_below b t zero = (λ _. false, record { fits = λ i l. absurd (omega arith); refused = λ i l. absurd (omega arith) })
chosen_below b t (suc m) =
    let c = chosen_below b t m in (
      also c.0 m (holds (placed_or_overloaded b t (adding c.0 m))),
      chosen_more b t c.0 m c.1 (holds (placed_or_overloaded b t (adding c.0 m)))
          (λ e. holds_yes (placed_or_overloaded b t (adding c.0 m)) e)
          (λ e s.
          let w = holds_no (placed_or_overloaded b t (adding c.0 m)) e in
          let z = load_fits_room b t (adding c.0 m) s w.0 w.1 in
          omega arith),
    )

pub choice_exists : ChoiceExists
choice_exists b t = let c = chosen_below b t t.size in (c.0, record { fits = c.1.fits; refused = c.1.refused })

pub choice_unique : ChoiceUnique
choice_unique b t kept new g h m l =
    let same : (k : ℕ) → k ≤ t.size → count kept k ≡ count new k = λ k kl.
    let a = no_more b t t kept new g h k kl kl (λ i. i) (λ i il. (il, refl, refl)) (λ i j _ _ z. z) in
    let c = no_more b t t new kept h g k kl kl (λ i. i) (λ i il. (il, refl, refl)) (λ i j _ _ z. z) in
    omega arith in
    one_same (kept m) (new m) (let a = same m (omega arith) in let c = same (suc m) l in omega arith)
