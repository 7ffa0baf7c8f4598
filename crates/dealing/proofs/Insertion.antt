-- One job more in the ranks: whether it has a place beside what is kept of the first m jobs falls once, if at all, as m grows, and that is where a flag changes. Assumes nothing.
use Rattle.std.proofs.Common.{◌≡◌, ℕ, zero, suc, ◌+◌, ◌-◌, ◌<◌, ◌≤◌, Bool, true, false, cond, eqb, ltb, ◌⊎◌, sym, refl, ap, ◌∙◌, subst, inl, inr, arith}
use Rattle.std.proofs.lemmas.Bool.{cases_Bool, cases_lt, cases_eq, both_ways}
use Rattle.std.proofs.lemmas.Bool.Decides.{nat_tests}
use Rattle.dealing.specs.Counting.{one, count}
use Rattle.dealing.specs.Boards.{Table, Board, Placing}
use Rattle.dealing.specs.Choice.{adding, Greedy}
use Rattle.dealing.specs.Insertion.{Inserted, shift, InsertionChangesOne, MoveChangesOne}
use Rattle.dealing.proofs.Boards.{load_fits_room}
use Rattle.dealing.proofs.Choice.{adding_from, adding_parts, below_parts, carry, part}
use Rattle.dealing.proofs.Counting.{count_same}
use Rattle.dealing.proofs.Keeping.{no_more, one_same, holds, holds_yes, holds_no, also, also_low, also_top, adding_also, choice_exists}
use Rattle.dealing.proofs.Seating.{placed_or_overloaded}

-- the first m jobs of t, and then the one more
abbrev then : Table → ℕ → ℕ → ℕ → Table
then t m x y = record { size = suc m; ready = λ j. cond (ltb j m) (t.ready j) x; deadline = λ j. cond (ltb j m) (t.deadline j) y }

-- g m tells whether the one more has a place beside what is kept of the first m
pub record Joins (b : Board) (t : Table) (kept : ℕ → Bool) (x y : ℕ) (g : ℕ → Bool) : Type 0 where
  pub has_place : (m : ℕ) → m ≤ t.size → g m ≡ true → Placing b (then t m x y) (adding kept m)
  pub has_none : (m : ℕ) → m ≤ t.size → g m ≡ false → Placing b (then t m x y) (adding kept m) → ⊥

telling : (b : Board) (t : Table) (kept : ℕ → Bool) (x y : ℕ) → (g : ℕ → Bool) × Joins b t kept x y g
telling b t kept x y = (
  λ m. holds (placed_or_overloaded b (then t m x y) (adding kept m)),
  record {
    has_place = λ m l e. holds_yes (placed_or_overloaded b (then t m x y) (adding kept m)) e;
    has_none = λ m l e s.
        let w = holds_no (placed_or_overloaded b (then t m x y) (adding kept m)) e in
        let z = load_fits_room b (then t m x y) (adding kept m) s w.0 w.1 in
        omega arith;
  },
)

then_low : (f : ℕ → ℕ) (m x j : ℕ) → j < m → cond (ltb j m) (f j) x ≡ f j
then_low f m x j l = grind (arith, nat_tests)

then_top : (f : ℕ → ℕ) (m x j : ℕ) → m ≤ j → cond (ltb j m) (f j) x ≡ x
then_top f m x j l = grind (arith, nat_tests)

adding_le : (kept : ℕ → Bool) (i j : ℕ) → adding kept i j ≡ true → j ≤ i
adding_le kept i j h = grind (arith, nat_tests)

module _ (b : Board) (t : Table) (kept : ℕ → Bool) (gr : Greedy b t kept) (x y : ℕ) (g : ℕ → Bool) (js : Joins b t kept x y g) (m : ℕ) (ml : m ≤ t.size) where
  abbrev third : Table
  third = then t m x y

  up : (i : ℕ) → i < m → Placing b t (adding kept i) → Placing b third (adding (also kept m (g m)) i)
  up i l s =
      carry b t third (adding kept i) (adding (also kept m (g m)) i) (λ j. j) s
      (λ j jl e.
      let e' = sym (adding_also kept m (g m) i j (omega arith)) ∙ e in
      let d = adding_le kept i j e' in
      (omega arith, e', sym (then_low t.ready m x j (omega arith)), sym (then_low t.deadline m y j (omega arith))))
      (λ i j _ _ _ _ z. z)

  down : (i : ℕ) → i < m → Placing b third (adding (also kept m (g m)) i) → Placing b t (adding kept i)
  down i l s =
      carry b third t (adding (also kept m (g m)) i) (adding kept i) (λ j. j) s
      (λ j jl e.
      let d = adding_le kept i j e in
      (omega arith, adding_also kept m (g m) i j (omega arith) ∙ e, then_low t.ready m x j (omega arith), then_low t.deadline m y j (omega arith)))
      (λ i j _ _ _ _ z. z)

  top_yes : (i : ℕ) → m ≡ i → also kept m (g m) i ≡ true → Placing b third (adding (also kept m (g m)) i)
  top_yes i z =
      subst (λ k. also kept m (g m) k ≡ true → Placing b third (adding (also kept m (g m)) k)) z
      (λ e. part b third (adding kept m) (adding (also kept m (g m)) m) (js.has_place m ml (sym (also_top kept m (g m)) ∙ e))
      (λ j jl d. sym (adding_also kept m (g m) m j (omega arith)) ∙ d))

  top_no : (i : ℕ) → m ≡ i → also kept m (g m) i ≡ false → Placing b third (adding (also kept m (g m)) i) → ⊥
  top_no i z =
      subst (λ k. also kept m (g m) k ≡ false → Placing b third (adding (also kept m (g m)) k) → ⊥) z
      (λ e s. js.has_none m ml (sym (also_top kept m (g m)) ∙ e)
      (part b third (adding (also kept m (g m)) m) (adding kept m) s (λ j jl d. adding_also kept m (g m) m j (omega arith) ∙ d)))

  third_greedy : Greedy b third (also kept m (g m))
  third_greedy = record {
    fits = λ i l e. elim (cases_lt i m) [
      | inl h ↦ up i h (gr.fits i (omega arith) (sym (also_low kept m (g m) i h) ∙ e))
      | inr h ↦ top_yes i (omega arith) e
    ];
    refused = λ i l e s. elim (cases_lt i m) [
      | inl h ↦ gr.refused i (omega arith) (sym (also_low kept m (g m) i h) ∙ e) (down i h s)
      | inr h ↦ top_no i (omega arith) e s
    ];
  }

  third_count : count (also kept m (g m)) (suc m) ≡ count kept m + one (g m)
  third_count =
      let c = count_same (also kept m (g m)) kept m (λ i l. also_low kept m (g m) i l) in
      let o = ap one (also_top kept m (g m)) in
      omega arith

-- from the one more at the end to the one more at p, and back
abbrev into : ℕ → ℕ → ℕ → ℕ
into p m j = cond (ltb j p) j (cond (ltb j m) (suc j) p)

abbrev out : ℕ → ℕ → ℕ → ℕ
out p m j = cond (ltb j p) j (cond (eqb j p) m (j - 1))

into_cases : (p m j : ℕ) → j < suc m → ((j < p) × (into p m j ≡ j)) ⊎ (((p ≤ j) × (j < m) × (into p m j ≡ suc j)) ⊎ ((p ≤ j) × (j ≡ m) × (into p m j ≡ p)))
into_cases p m j h =
    elim (cases_lt j p) [
      | inl l ↦ inl (l, grind (arith, nat_tests))
      | inr l ↦ inr (elim (cases_lt j m) [ inl k ↦ inl (l, k, grind (arith, nat_tests)) | inr k ↦ inr (l, omega arith, grind (arith, nat_tests)) ])
    ]

out_cases : (p m j : ℕ) → ((j < p) × (out p m j ≡ j)) ⊎ (((j ≡ p) × (out p m j ≡ m)) ⊎ ((p < j) × (out p m j ≡ j - 1)))
out_cases p m j =
    elim (cases_lt j p) [
      | inl l ↦ inl (l, grind (arith, nat_tests))
      | inr l ↦ inr (elim (cases_eq j p) [ inl k ↦ inl (k, grind (arith, nat_tests)) | inr k ↦ inr (omega arith, grind (arith, nat_tests)) ])
    ]

into_once : (p m i j : ℕ) → p ≤ m → i < suc m → j < suc m → into p m i ≡ into p m j → i ≡ j
into_once p m i j h il jl z = let a = into_cases p m i il in let c = into_cases p m j jl in omega arith

out_once : (p m i j : ℕ) → p ≤ m → i < suc m → j < suc m → out p m i ≡ out p m j → i ≡ j
out_once p m i j h il jl z = let a = out_cases p m i in let c = out_cases p m j in omega arith

module _ (b : Board) (t : Table) (kept : ℕ → Bool) (gr : Greedy b t kept) (x y : ℕ) (g : ℕ → Bool) (js : Joins b t kept x y g)
    (p : ℕ) (u : Table) (new : ℕ → Bool) (pl : p ≤ t.size) (ins : Inserted t p x y u) (gn : Greedy b u new) where
  front_count : (m : ℕ) → m ≤ p → count new m ≡ count kept m
  front_count m h =
      let us = ins.size in
      let a = no_more b t u kept new gr gn m (omega arith) (omega arith) (λ i. i) (λ i l. let f = ins.front i (omega arith) in (l, f.0, f.1)) (λ i j _ _ z. z) in
      let c = no_more b u t new kept gn gr m (omega arith) (omega arith) (λ i. i) (λ i l. let f = ins.front i (omega arith) in (l, sym f.0, sym f.1)) (λ i j _ _ z. z) in
      omega arith

  into_same : (m : ℕ) → p ≤ m → m ≤ t.size → (i : ℕ) → i < suc m → (into p m i < suc m) × (u.ready (into p m i) ≡ (then t m x y).ready i) × (u.deadline (into p m i) ≡ (then t m x y).deadline i)
  into_same m pm mt i l =
      elim (into_cases p m i l) [
        | inl w ↦ (let f = ins.front i w.0 in
            (omega arith, ap u.ready w.1 ∙ (f.0 ∙ sym (then_low t.ready m x i (omega arith))), ap u.deadline w.1 ∙ (f.1 ∙ sym (then_low t.deadline m y i (omega arith)))))
        | inr v ↦ elim v [
          | inl w ↦ (let f = ins.back i w.0 (omega arith) in
              (omega arith, ap u.ready w.2 ∙ (f.0 ∙ sym (then_low t.ready m x i (omega arith))), ap u.deadline w.2 ∙ (f.1 ∙ sym (then_low t.deadline m y i (omega arith)))))
          | inr w ↦ (let f = ins.here in
              (omega arith, ap u.ready w.2 ∙ (f.0 ∙ sym (then_top t.ready m x i (omega arith))), ap u.deadline w.2 ∙ (f.1 ∙ sym (then_top t.deadline m y i (omega arith)))))
        ]
      ]

  out_same : (m : ℕ) → p ≤ m → m ≤ t.size → (i : ℕ) → i < suc m → (out p m i < suc m) × ((then t m x y).ready (out p m i) ≡ u.ready i) × ((then t m x y).deadline (out p m i) ≡ u.deadline i)
  out_same m pm mt i l =
      let o = out_cases p m i in
      let lt : out p m i < suc m = omega arith in
      let c = into_cases p m (out p m i) lt in
      let z : into p m (out p m i) ≡ i = omega arith in
      let w = into_same m pm mt (out p m i) lt in
      (lt, sym w.1 ∙ ap u.ready z, sym w.2 ∙ ap u.deadline z)

  back_count : (m : ℕ) → p ≤ m → m ≤ t.size → count new (suc m) ≡ count kept m + one (g m)
  back_count m pm mt =
      let us = ins.size in
      let tg = third_greedy b t kept gr x y g js m mt in
      let a = no_more b (then t m x y) u (also kept m (g m)) new tg gn (suc m) (omega arith) (omega arith) (into p m) (into_same m pm mt) (λ i j l k z. into_once p m i j pm l k z) in
      let c = no_more b u (then t m x y) new (also kept m (g m)) gn tg (suc m) (omega arith) (omega arith) (out p m) (out_same m pm mt) (λ i j l k z. out_once p m i j pm l k z) in
      let d = third_count b t kept gr x y g js m mt in
      omega arith

-- what each flag is after the insertion
flags : (b : Board) (t : Table) (kept : ℕ → Bool) → Greedy b t kept → (x y : ℕ) (g : ℕ → Bool) → Joins b t kept x y g →
    (p : ℕ) (u : Table) (new : ℕ → Bool) → p ≤ t.size → Inserted t p x y u → Greedy b u new →
    ((m : ℕ) → m < p → new m ≡ kept m) ×
    (new p ≡ g p) ×
    ((m : ℕ) → p ≤ m → m < t.size → one (new (suc m)) + one (g m) ≡ one (kept m) + one (g (suc m)))
flags b t kept gr x y g js p u new pl ins gn =
    let front = front_count b t kept gr x y g js p u new pl ins gn in
    let back = back_count b t kept gr x y g js p u new pl ins gn in (
      (λ m h. one_same (new m) (kept m) (let a = front m (omega arith) in let c = front (suc m) (omega arith) in omega arith)),
      one_same (new p) (g p) (let a = front p (omega arith) in let c = back p (omega arith) pl in omega arith),
      (λ m h l. let a = back m h (omega arith) in let c = back (suc m) (omega arith) (omega arith) in omega arith),
    )

-- once the one more has no place, it has none beside more
falling : (b : Board) (t : Table) (kept : ℕ → Bool) (x y : ℕ) (g : ℕ → Bool) → Joins b t kept x y g → (m : ℕ) → m < t.size → g (suc m) ≡ true → g m ≡ true
falling b t kept x y g js m l e =
    elim (cases_Bool (g m)) [
      | inl z ↦ z
      | inr z ↦ absurd (js.has_none m (omega arith) z
          (carry b (then t (suc m) x y) (then t m x y) (adding kept (suc m)) (adding kept m) f (js.has_place (suc m) (omega arith) e)
          (λ j jl a. elim (f_cases j) [
            | inl w ↦
                (let k = below_parts kept m j (adding_parts kept m j a (omega arith)) in
                subst (λ i. Same j i) (sym w.1) (
                  omega arith,
                  adding_from kept (suc m) j (inl (omega arith, k.1)),
                  then_low t.ready (suc m) x j (omega arith) ∙ sym (then_low t.ready m x j (omega arith)),
                  then_low t.deadline (suc m) y j (omega arith) ∙ sym (then_low t.deadline m y j (omega arith)),
                ))
            | inr w ↦
                subst (λ i. Same j i) (sym w.1) (
                  omega arith,
                  adding_from kept (suc m) (suc m) (inr refl),
                  then_top t.ready (suc m) x (suc m) (omega arith) ∙ sym (then_top t.ready m x j (omega arith)),
                  then_top t.deadline (suc m) y (suc m) (omega arith) ∙ sym (then_top t.deadline m y j (omega arith)),
                )
          ])
          (λ i j il jl _ _ q. let a = f_cases i in let c = f_cases j in omega arith)))
    ]
  where
    f : ℕ → ℕ
    f j = cond (ltb j m) j (suc m)

    f_cases : (j : ℕ) → ((j < m) × (f j ≡ j)) ⊎ ((m ≤ j) × (f j ≡ suc m))
    f_cases j = elim (cases_lt j m) [ inl h ↦ inl (h, grind (arith, nat_tests)) | inr h ↦ inr (h, grind (arith, nat_tests)) ]

    Same : ℕ → ℕ → Type 0
    Same j i = (i < suc (suc m)) × (adding kept (suc m) i ≡ true) × ((then t (suc m) x y).ready i ≡ (then t m x y).ready j) × ((then t (suc m) x y).deadline i ≡ (then t m x y).deadline j)

changed : (n k a c : Bool) → one n + one a ≡ one k + one c → (n ≡ k → ⊥) → (c ≡ true → a ≡ true) → (a ≡ true) × (c ≡ false) × (k ≡ true) × (n ≡ false)
changed true true a c e h f = absurd (h refl)
changed false false a c e h f = absurd (h refl)
changed true false true true e h f = absurd (omega arith)
changed true false true false e h f = absurd (omega arith)
changed true false false true e h f = absurd (both_ways false refl (f refl))
changed true false false false e h f = absurd (omega arith)
changed false true true true e h f = absurd (omega arith)
changed false true true false e h f = (refl, refl, refl, refl)
changed false true false true e h f = absurd (omega arith)
changed false true false false e h f = absurd (omega arith)

module _ (b : Board) (t : Table) (kept : ℕ → Bool) (gr : Greedy b t kept) (x y : ℕ) (g : ℕ → Bool) (js : Joins b t kept x y g) where
  sooner : (p m : ℕ) → p ≤ m → m ≤ t.size → g m ≡ true → g p ≡ true
  sooner p zero h l e = subst (λ k. g k ≡ true) (omega arith) e
  sooner p (suc m) h l e =
      elim (cases_eq p (suc m)) [
        | inl z ↦ subst (λ k. g k ≡ true) (sym z) e
        | inr z ↦ sooner p m (omega arith) (omega arith) (falling b t kept x y g js m l e)
      ]

  abbrev Fall : ℕ → Type 0
  Fall m = (g m ≡ true) × (g (suc m) ≡ false)

  no_two : (m l : ℕ) → l < t.size → m < l → Fall m → Fall l → ⊥
  no_two m l lt h f e = both_ways (g (suc m)) f.1 (sooner (suc m) l h (omega arith) e.0)

  one_fall : (m l : ℕ) → m < t.size → l < t.size → Fall m → Fall l → m ≡ l
  one_fall m l mt lt f e =
      elim (cases_eq m l) [
        | inl z ↦ z
        | inr z ↦ elim (cases_lt m l) [ inl h ↦ absurd (no_two m l lt h f e) | inr h ↦ absurd (no_two l m mt (omega arith) e f) ]
      ]

  module _ (p : ℕ) (u : Table) (new : ℕ → Bool) (pl : p ≤ t.size) (ins : Inserted t p x y u) (gn : Greedy b u new) where
    fall : (m : ℕ) → m < t.size → (new (shift p m) ≡ kept m → ⊥) → (p ≤ m) × Fall m × (kept m ≡ true) × (new (suc m) ≡ false)
    fall m l h =
        let fl = flags b t kept gr x y g js p u new pl ins gn in
        elim (cases_lt m p) [
          | inl k ↦ (let z : shift p m ≡ m = grind (arith, nat_tests) in absurd (h (ap new z ∙ fl.0 m k)))
          | inr k ↦
              (let z : shift p m ≡ suc m = grind (arith, nat_tests) in
              let w = changed (new (suc m)) (kept m) (g m) (g (suc m)) (fl.2 m k l) (λ e. h (ap new z ∙ e)) (falling b t kept x y g js m l) in
              (k, (w.0, w.1), w.2, w.3))
        ]

pub insertion_changes_one : InsertionChangesOne
insertion_changes_one b t kept gr x y p u new pl ins gn =
    let j = telling b t kept x y in (
      (λ m l h.
          let w = fall b t kept gr x y j.0 j.1 p u new pl ins gn m l h in
          let f = flags b t kept gr x y j.0 j.1 p u new pl ins gn in
          (w.0, w.2, w.3, f.1 ∙ sooner b t kept gr x y j.0 j.1 p m w.0 (omega arith) w.1.0)),
      (λ m l mt lt h k. one_fall b t kept gr x y j.0 j.1 m l mt lt
          (fall b t kept gr x y j.0 j.1 p u new pl ins gn m mt h).1 (fall b t kept gr x y j.0 j.1 p u new pl ins gn l lt k).1),
    )

bool_eq : (v w : Bool) → (v ≡ w) ⊎ (v ≡ w → ⊥)
bool_eq true true = inl refl
bool_eq true false = inr (λ e. both_ways true e refl)
bool_eq false true = inr (λ e. both_ways false refl e)
bool_eq false false = inl refl

pub move_changes_one : MoveChangesOne
move_changes_one b t x y p q u v old new pl ql iu gu iv gv m l mt lt hm hl =
    let c = choice_exists b t in
    let j = telling b t c.0 x y in
    let falls : (k : ℕ) → k < t.size → (new (shift q k) ≡ old (shift p k) → ⊥) → (j.0 k ≡ true) × (j.0 (suc k) ≡ false) = λ k kt h.
    elim (bool_eq (new (shift q k)) (c.0 k)) [
      | inl z ↦ (fall b t c.0 c.1 x y j.0 j.1 p u old pl iu gu k kt (λ e. h (z ∙ sym e))).1
      | inr z ↦ (fall b t c.0 c.1 x y j.0 j.1 q v new ql iv gv k kt z).1
    ] in
    one_fall b t c.0 c.1 x y j.0 j.1 m l mt lt (falls m mt hm) (falls l lt hl)
