-- Dealing in an order of the jobs: there is one way to do it. Assumes nothing.
use Rattle.std.proofs.Common.{◌≡◌, ℕ, zero, suc, ◌<◌, ◌≤◌, Bool, true, false, cond, not, ◌&&◌, ◌||◌, eqb, ltb, leb, ◌⊎◌, sym, refl, ap, ◌∙◌, subst, inl, inr, arith}
use Rattle.std.proofs.lemmas.Bool.{cases_Bool, cases_lt, cases_eq, both_ways}
use Rattle.std.proofs.lemmas.Bool.Decides.{nat_tests}
use Rattle.dealing.specs.Boards.{Table, Board}
use Rattle.dealing.specs.Dealing.{CanSit, DealtByDeadline, Ordered, DealtInOrder, OrderKeepsDeadlines, DealingExists, DealingUnique}

-- v at k, and as before elsewhere
abbrev put : (ℕ → ℕ) → ℕ → ℕ → ℕ → ℕ
put at k v q = cond (eqb q k) v (at q)

put_same : (at : ℕ → ℕ) (k v q : ℕ) → q ≡ k → put at k v q ≡ v
put_same at k v q h = grind (arith, nat_tests)

put_other : (at : ℕ → ℕ) (k v q : ℕ) → (q ≡ k → ⊥) → put at k v q ≡ at q
put_other at k v q h = grind (arith, nat_tests)

-- one of the first k places was dealt to job i
pub seated : (ℕ → ℕ) → ℕ → ℕ → Bool
seated at zero i = false
seated at (suc k) i = eqb (at k) i || seated at k i

-- what may sit at k: not seated below, and ready, and not past
fits_at : Board → Table → (ℕ → Bool) → (ℕ → ℕ) → ℕ → ℕ → Bool
fits_at b t K at k i = b.free k && (K i && ((leb (t.ready i) (b.slot k) && ltb (b.slot k) (t.deadline i)) && not (seated at k i)))

seated_not : (at : ℕ → ℕ) (k i : ℕ) → ((q : ℕ) → q < k → at q ≡ i → ⊥) → seated at k i ≡ false
unfolding seated
seated_not at zero i h = refl
seated_not at (suc k) i h =
    let ih = seated_not at k i (λ q l. h q (omega arith)) in
    let ne : at k ≡ i → ⊥ = h k (omega arith) in
    grind (arith, nat_tests)

pub seated_no : (at : ℕ → ℕ) (k i : ℕ) → seated at k i ≡ false → (q : ℕ) → q < k → at q ≡ i → ⊥
unfolding seated
seated_no at zero i h q l z = absurd (omega arith)
seated_no at (suc k) i h q l z =
    let e : seated at k i ≡ false = grind (arith, nat_tests) in
    elim (cases_eq q k) [
      | inl s ↦ (let y : at k ≡ i = ap at (sym s) ∙ z in grind (arith, nat_tests))
      | inr s ↦ seated_no at k i e q (omega arith) z
    ]

pub seated_yes : (at : ℕ → ℕ) (k i : ℕ) → seated at k i ≡ true → (q : ℕ) × (q < k) × (at q ≡ i)
unfolding seated
seated_yes at zero i h = absurd (both_ways false refl h)
seated_yes at (suc k) i h =
    elim (cases_eq (at k) i) [
      | inl s ↦ (k, omega arith, s)
      | inr s ↦ (let w = seated_yes at k i (grind (arith, nat_tests)) in (w.0, omega arith, w.2))
    ]

fits_parts : (b : Board) (t : Table) (K : ℕ → Bool) (at : ℕ → ℕ) (k i : ℕ) → fits_at b t K at k i ≡ true →
    (K i ≡ true) × (b.free k ≡ true) × (t.ready i ≤ b.slot k) × (b.slot k < t.deadline i) × (seated at k i ≡ false)
unfolding fits_at
fits_parts b t K at k i h = (grind (arith, nat_tests), grind (arith, nat_tests), grind (arith, nat_tests), grind (arith, nat_tests), grind (arith, nat_tests))

fits_from : (b : Board) (t : Table) (K : ℕ → Bool) (at : ℕ → ℕ) (k i : ℕ) →
    K i ≡ true → b.free k ≡ true → t.ready i ≤ b.slot k → b.slot k < t.deadline i → seated at k i ≡ false → fits_at b t K at k i ≡ true
unfolding fits_at
fits_from b t K at k i h1 h2 h3 h4 h5 = grind (arith, nat_tests)

module _ (b : Board) (t : Table) (first : ℕ → ℕ → Bool) (K : ℕ → Bool) (k : ℕ) (at : ℕ → ℕ) (law : DealtInOrder b t first K k at) (v : ℕ) (new : ℕ → ℕ)
    (here : new k ≡ v) (there : (q : ℕ) → q < k → new q ≡ at q)
    (may : v < t.size → fits_at b t K at k v ≡ true)
    (best : (i : ℕ) → i < t.size → fits_at b t K at k i ≡ true → (v < t.size) × ((v ≡ i → ⊥) → (first v i ≡ true))) where
  which : (p : ℕ) → p < suc k → ((p ≡ k) × (new p ≡ v)) ⊎ ((p < k) × (new p ≡ at p))
  which p l = elim (cases_eq p k) [ inl s ↦ inl (s, ap new s ∙ here) | inr s ↦ inr (omega arith, there p (omega arith)) ]

  step_sits : (p : ℕ) → p < suc k → new p < t.size → CanSit b t K (new p) p
  step_sits p l h =
      elim (which p l) [
        | inl w ↦
            (let f = fits_parts b t K at k v (may (subst (λ x. x < t.size) w.1 h)) in
            subst (λ x. CanSit b t K x p) (sym w.1) (subst (λ y. CanSit b t K v y) (sym w.0) (f.0, f.1, f.2, f.3)))
        | inr w ↦ subst (λ x. CanSit b t K x p) (sym w.1) (law.sits p w.0 (subst (λ x. x < t.size) w.1 h))
      ]

  apart_new : (p : ℕ) → p < k → v < t.size → new p ≡ v → ⊥
  apart_new p l h z = seated_no at k v (fits_parts b t K at k v (may h)).4 p l (sym (there p l) ∙ z)

  step_once : (p q : ℕ) → p < suc k → q < suc k → new p < t.size → new p ≡ new q → p ≡ q
  step_once p q l m h z =
      elim (which p l) [
        | inl w ↦ elim (which q m) [
          | inl u ↦ w.0 ∙ sym u.0
          | inr u ↦ absurd (apart_new q u.0 (subst (λ x. x < t.size) w.1 h) (sym z ∙ w.1))
        ]
        | inr w ↦ elim (which q m) [
          | inl u ↦ absurd (apart_new p w.0 (subst (λ x. x < t.size) (z ∙ u.1) h) (z ∙ u.1))
          | inr u ↦ law.once p q w.0 u.0 (subst (λ x. x < t.size) w.1 h) (sym w.1 ∙ (z ∙ u.1))
        ]
      ]

  step_foremost : (p i : ℕ) → p < suc k → b.free p ≡ true → i < t.size → K i ≡ true → t.ready i ≤ b.slot p → b.slot p < t.deadline i → ((q : ℕ) → q ≤ p → new q ≡ i → ⊥) →
      (new p < t.size) × (first (new p) i ≡ true)
  step_foremost p i l f h ki ri di un =
      elim (which p l) [
        | inl w ↦
            (let sl : b.slot p ≡ b.slot k = ap b.slot w.0 in
            let z = best i h (fits_from b t K at k i ki (subst (λ y. b.free y ≡ true) w.0 f) (omega arith) (omega arith)
            (seated_not at k i (λ q lt e. un q (omega arith) (there q lt ∙ e)))) in
            subst (λ x. (x < t.size) × (first x i ≡ true)) (sym w.1) (z.0, z.1 (λ e. un p (omega arith) (w.1 ∙ e))))
        | inr w ↦
            subst (λ x. (x < t.size) × (first x i ≡ true)) (sym w.1)
            (law.foremost p i w.0 f h ki ri di (λ q le e. un q le (there q (omega arith) ∙ e)))
      ]

  step : DealtInOrder b t first K (suc k) new
  step = record { sits = step_sits; once = step_once; foremost = step_foremost }

-- the one that goes first among those below n that pass
module _ (t : Table) (first : ℕ → ℕ → Bool) (o : Ordered t first) (c : ℕ → Bool) where
  abbrev Foremost : ℕ → Type 0
  Foremost n = (j : ℕ) × (j < n) × (c j ≡ true) × ((i : ℕ) → i < n → c i ≡ true → (j ≡ i → ⊥) → first j i ≡ true)

  -- n passes too: it goes first, or gives way to the foremost so far
  foremost_more : (n : ℕ) → n < t.size → c n ≡ true → Foremost n → Foremost (suc n)
  foremost_more n l e w =
      let w1 = w.1 in
      elim (o.either n w.0 l (omega arith) (λ z. omega arith)) [
        | inl f ↦ (
          n,
          omega arith,
          e,
          λ i h ci ne. elim (cases_eq i w.0) [
            | inl z ↦ subst (λ x. first n x ≡ true) (sym z) f
            | inr z ↦ o.trans n w.0 i l (omega arith) (omega arith) f (w.3 i (omega arith) ci (λ y. z (sym y)))
          ],
        )
        | inr f ↦ (
          w.0,
          omega arith,
          w.2,
          λ i h ci ne. elim (cases_eq i n) [ inl z ↦ subst (λ x. first w.0 x ≡ true) (sym z) f | inr z ↦ w.3 i (omega arith) ci ne ],
        )
      ]

  foremost_below : (n : ℕ) → n ≤ t.size → Foremost n ⊎ ((i : ℕ) → i < n → c i ≡ false)
  foremost_below zero h = inr (λ i l. absurd (omega arith))
  foremost_below (suc n) h =
      elim (cases_Bool (c n)) [
        | inl e ↦ elim (foremost_below n (omega arith)) [
          | inl w ↦ inl (foremost_more n (omega arith) e w)
          | inr w ↦ inl (n, omega arith, e, λ i l ci ne. absurd (both_ways (c i) (w i (omega arith)) ci))
        ]
        | inr e ↦ elim (foremost_below n (omega arith)) [
          | inl w ↦ inl (w.0, omega arith, w.2, λ i l ci ne. elim (cases_eq i n) [ inl s ↦ absurd (both_ways (c n) e (subst (λ x. c x ≡ true) s ci)) | inr s ↦ w.3 i (omega arith) ci ne ])
          | inr w ↦ inr (λ i l. elim (cases_eq i n) [ inl s ↦ subst (λ x. c x ≡ false) (sym s) e | inr s ↦ w i (omega arith) ])
        ]
      ]

pub dealing_exists : DealingExists
dealing_exists b t first o K zero = (
  λ p. p,
  record {
    sits = λ p l. absurd (omega arith);
    once = λ p q l. absurd (omega arith);
    foremost = λ p i l. absurd (omega arith);
  },
)
dealing_exists b t first o K (suc k) =
    let f = dealing_exists b t first o K k in
    elim (foremost_below t first o (fits_at b t K f.0 k) t.size (omega arith)) [
      | inl w ↦ (
        put f.0 k w.0,
        step b t first K k f.0 f.1 w.0 (put f.0 k w.0)
            (put_same f.0 k w.0 k refl) (λ q l. put_other f.0 k w.0 q (omega arith))
            (λ _. w.2) (λ i l h. (w.1, w.3 i l h)),
      )
      | inr w ↦ (
        put f.0 k t.size,
        step b t first K k f.0 f.1 t.size (put f.0 k t.size)
            (put_same f.0 k t.size k refl) (λ q l. put_other f.0 k t.size q (omega arith))
            (λ h. absurd (omega arith)) (λ i l h. absurd (both_ways (fits_at b t K f.0 k i) (w i l) h)),
      )
    ]

pub order_keeps_deadlines : OrderKeepsDeadlines
order_keeps_deadlines b t first o K k at s = record {
  sits = s.sits;
  once = s.once;
  earliest = λ p i l f h ki ri di un. let w = s.foremost p i l f h ki ri di un in (w.0, o (at p) i w.0 h w.1);
}

-- the order by deadline, and of two jobs with one deadline the first in the table
abbrev sooner : Table → ℕ → ℕ → Bool
sooner t i j = ltb (t.deadline i) (t.deadline j) || (eqb (t.deadline i) (t.deadline j) && ltb i j)

sooner_parts : (t : Table) (i j : ℕ) → sooner t i j ≡ true → (t.deadline i ≤ t.deadline j) × (t.deadline j ≤ t.deadline i → i < j)
sooner_parts t i j h = (grind (arith, nat_tests), λ e. grind (arith, nat_tests))

sooner_from : (t : Table) (i j : ℕ) → t.deadline i ≤ t.deadline j → (t.deadline j ≤ t.deadline i → i < j) → sooner t i j ≡ true
sooner_from t i j h n = elim (cases_lt (t.deadline i) (t.deadline j)) [ inl l ↦ grind (arith, nat_tests) | inr l ↦ (let m = n l in grind (arith, nat_tests)) ]

sooner_order : (t : Table) → Ordered t (sooner t)
sooner_order t = record {
  trans = λ i j k _ _ _ h g.
      let p = sooner_parts t i j h in
      let q = sooner_parts t j k g in
      let p0 = p.0 in
      let q0 = q.0 in
      sooner_from t i k (omega arith) (λ e. let a = p.1 (omega arith) in let c = q.1 (omega arith) in omega arith);
  either = λ i j _ _ ne. elim (cases_lt (t.deadline i) (t.deadline j)) [
    | inl l ↦ inl (sooner_from t i j (omega arith) (λ e. absurd (omega arith)))
    | inr l ↦ elim (cases_lt (t.deadline j) (t.deadline i)) [
      | inl m ↦ inr (sooner_from t j i (omega arith) (λ e. absurd (omega arith)))
      | inr m ↦ elim (cases_lt i j) [ inl n ↦ inl (sooner_from t i j m (λ _. n)) | inr n ↦ inr (sooner_from t j i l (λ _. omega arith)) ]
    ]
  ];
}

-- each set can be dealt by deadline
pub dealt_by_deadline : (b : Board) (t : Table) (K : ℕ → Bool) (k : ℕ) → (at : ℕ → ℕ) × DealtByDeadline b t K k at
dealt_by_deadline b t K k =
    let f = dealing_exists b t (sooner t) (sooner_order t) K k in
    (f.0, order_keeps_deadlines b t (sooner t) (λ i j _ _ h. (sooner_parts t i j h).0) K k f.0 f.1)

-- two ways of dealing that agree so far agree on
module _ (b : Board) (t : Table) (first : ℕ → ℕ → Bool) (asym : (i j : ℕ) → first i j ≡ true → first j i ≡ true → ⊥) (K : ℕ → Bool) (k : ℕ) where
  abbrev Agree : (ℕ → ℕ) → (ℕ → ℕ) → ℕ → Type 0
  Agree at new n = (p : ℕ) → p < n → at p < t.size → new p ≡ at p

  -- what sits at n in the one sits there, or gives way to another, in the other
  gives_way : (at new : ℕ → ℕ) → DealtInOrder b t first K k at → DealtInOrder b t first K k new → (n : ℕ) → n < k → Agree new at n → at n < t.size → (new n ≡ at n → ⊥) →
      (new n < t.size) × (first (new n) (at n) ≡ true)
  gives_way at new s r n l back h ne =
      let z = s.sits n l h in
      r.foremost n (at n) l z.1 h z.0 z.2 z.3
      (λ q le e. elim (cases_eq q n) [
        | inl y ↦ ne (ap new (sym y) ∙ e)
        | inr y ↦
            (let z = back q (omega arith) (subst (λ x. x < t.size) (sym e) h) in
            let m : n ≡ q = s.once n q l (omega arith) h (sym (z ∙ e)) in
            omega arith)
      ])

  agree_at : (at new : ℕ → ℕ) → DealtInOrder b t first K k at → DealtInOrder b t first K k new → (n : ℕ) → n < k → Agree at new n → Agree new at n → at n < t.size → new n ≡ at n
  agree_at at new s r n l there back h =
      elim (cases_eq (new n) (at n)) [
        | inl e ↦ e
        | inr e ↦
            (let w = gives_way at new s r n l back h e in
            let v = gives_way new at r s n l there w.0 (λ z. e (sym z)) in
            absurd (asym (at n) (new n) v.1 w.1))
      ]

  agree : (at new : ℕ → ℕ) → DealtInOrder b t first K k at → DealtInOrder b t first K k new → (n : ℕ) → n ≤ k → Agree at new n × Agree new at n
  agree at new s r zero h = ((λ p l. absurd (omega arith)), (λ p l. absurd (omega arith)))
  agree at new s r (suc n) h =
      let ih = agree at new s r n (omega arith) in (
        (λ p l o. elim (cases_eq p n) [ inl z ↦ subst (λ x. at x < t.size → new x ≡ at x) (sym z) (agree_at at new s r n h ih.0 ih.1) o | inr z ↦ ih.0 p (omega arith) o ]),
        (λ p l o. elim (cases_eq p n) [ inl z ↦ subst (λ x. new x < t.size → at x ≡ new x) (sym z) (agree_at new at r s n h ih.1 ih.0) o | inr z ↦ ih.1 p (omega arith) o ]),
      )

pub dealing_unique : DealingUnique
dealing_unique b t first asym K k at new s r p l h = (agree b t first asym K k at new s r k (omega arith)).0 p l h
