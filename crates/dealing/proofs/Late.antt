-- A job that dealing by deadline leaves out is bound to an overloaded run: the run begins past the last slot before the job's deadline with a bad place, one
-- that is empty or went to a later deadline; nobody seated in the run was ready at that place. Assumes nothing.
use Rattle.std.proofs.Common.{◌≡◌, ℕ, suc, ◌-◌, ◌<◌, ◌≤◌, Bool, true, false, ◌&&◌, ◌||◌, ltb, leb, sym, refl, ap, ◌∙◌, inl, inr, arith}
use Rattle.std.proofs.lemmas.Bool.{cases_lt, cases_eq}
use Rattle.std.proofs.lemmas.Bool.Decides.{nat_tests}
use Rattle.dealing.specs.Boards.{Table, Board, within, room, bound, load}
use Rattle.dealing.specs.Dealing.{DealtByDeadline, LateJobOverloads}
use Rattle.dealing.proofs.Boards.{within_parts, bound_from}
use Rattle.dealing.proofs.Counting.{inject, last_below, without, without_true, count_without}

module _ (b : Board) (t : Table) (K : ℕ → Bool) (at : ℕ → ℕ) (law : DealtByDeadline b t K b.places at) (e : ℕ) where
  bad : ℕ → Bool
  bad p = b.free p && (ltb (b.slot p) e && (leb t.size (at p) || ltb e (t.deadline (at p))))

  bad_not : (p : ℕ) → b.free p ≡ true → b.slot p < e → bad p ≡ false → (at p < t.size) × (t.deadline (at p) ≤ e)
  unfolding bad
  bad_not p f l h = (grind (arith, nat_tests), grind (arith, nat_tests))

  bad_is : (p : ℕ) → bad p ≡ true → (b.free p ≡ true) × (b.slot p < e) × (at p < t.size → t.deadline (at p) ≤ e → ⊥)
  unfolding bad
  bad_is p h = (grind (arith, nat_tests), grind (arith, nat_tests), λ l m. grind (arith, nat_tests))

  -- one past the last bad place
  past : (a : ℕ) × (a ≤ b.places) × ((i : ℕ) → a ≤ i → i < b.places → bad i ≡ false) × ((x : ℕ) → a ≡ suc x → bad x ≡ true)
  past = last_below bad b.places

  -- the slot after that of the last bad place, or 0: what lies in it and after it lies past that place
  start : (a : ℕ) × (a ≤ e) × ((p : ℕ) → a ≤ b.slot p → past.0 ≤ p) × ((r : ℕ) → r < a → (x : ℕ) × (past.0 ≡ suc x) × (r ≤ b.slot x) × (a ≡ suc (b.slot x)))
  start =
      elim (cases_eq past.0 0) [
        | inl z ↦ (0, omega arith, (λ p h. omega arith), (λ r h. absurd (omega arith)))
        | inr z ↦
            (let x : ℕ = past.0 - 1 in
            let s : past.0 ≡ suc x = omega arith in
            let w = bad_is x (past.3 x s) in (
              suc (b.slot x),
              w.1,
              (λ p h. elim (cases_lt x p) [ inl k ↦ omega arith | inr k ↦ (let m = b.rising p x k in absurd (omega arith)) ]),
              (λ r h. (x, s, omega arith, refl)),
            ))
      ]

  -- a job with a deadline by e, and seated, if at all, past the last bad place, is ready no sooner than the start
  no_sooner : (i : ℕ) → i < t.size → K i ≡ true → t.deadline i ≤ e → start.0 ≤ t.deadline i → ((q : ℕ) → q < past.0 → at q ≡ i → ⊥) → start.0 ≤ t.ready i
  no_sooner i lt k de ad un =
      elim (cases_lt (t.ready i) start.0) [
        | inr l ↦ l
        | inl l ↦
            (let v = start.3 (t.ready i) l in
            let m = past.1 in
            let z = bad_is v.0 (past.3 v.0 v.1) in
            let f = law.earliest v.0 i (omega arith) z.0 lt k v.2 (omega arith) (λ q h. un q (omega arith)) in
            absurd (z.2 f.0 (omega arith)))
      ]

  late_run : (p : ℕ) → p < b.places → b.free p ≡ true → start.0 ≤ b.slot p → b.slot p < e → (at p < t.size) × (K (at p) ≡ true) × (start.0 ≤ t.ready (at p)) × (t.deadline (at p) ≤ e)
  late_run p pl f ap pe =
      let x = start.2 p ap in
      let g = bad_not p f pe (past.2 p x pl) in
      let s = law.sits p pl g.0 in (
        g.0,
        s.0,
        no_sooner (at p) g.0 s.0 g.1 (omega arith) (λ q h z. let o : p ≡ q = law.once p q pl (omega arith) g.0 (sym z) in omega arith),
        g.1,
      )

  late_count : (i : ℕ) → i < t.size → K i ≡ true → t.deadline i ≡ e → ((q : ℕ) → q < b.places → at q ≡ i → ⊥) →
      (start.0 ≤ t.ready i) × (room b start.0 e < load t K start.0 e)
  late_count i lt k de un =
      let m = start.1 in
      let n = past.1 in
      let ri : start.0 ≤ t.ready i = no_sooner i lt k (omega arith) (omega arith) (λ q h. un q (omega arith)) in
      let c = count_without (bound t K start.0 e) i t.size lt (bound_from t K start.0 e i k ri (omega arith)) in
      let d = inject b.places (within b start.0 e) t.size (without (bound t K start.0 e) i) (λ p j. (p < b.places) × (at p < t.size) × (at p ≡ j))
      (λ p pl h.
      let h' = within_parts b start.0 e p h in
      let g = late_run p pl h'.0 h'.1 h'.2 in
      (at p, g.0, without_true (bound t K start.0 e) i (at p) (bound_from t K start.0 e (at p) g.1 g.2 g.3) (un p pl), (pl, g.0, refl)))
      (λ p q j x y. law.once p q x.0 y.0 x.1 (x.2 ∙ sym y.2)) in
      (ri, omega arith)

pub late_job_overloads : LateJobOverloads
late_job_overloads b t K at law i lt k un =
    let c = late_count b t K at law (t.deadline i) i lt k refl un in
    ((start b t K at law (t.deadline i)).0, c.0, late_run b t K at law (t.deadline i), c.1)
