-- One trial, over indices: what it leaves is dealt in order to the jobs that had places and to the one on trial, or there is no placing of them. Assumes nothing.
--   Walk .. p c new    the trial has come to place p with job c in hand, and left `new` at the places below p
--   succeeds, fails    the two ways in which a trial ends
use Rattle.std.proofs.Common.{◌≡◌, ℕ, zero, suc, ◌<◌, ◌≤◌, Bool, true, false, cond, ◌&&◌, ltb, leb, ◌⊎◌, sym, refl, ap, ◌∙◌, subst, inl, inr, arith}
use Rattle.std.proofs.lemmas.Bool.{cases_Bool, cases_lt, cases_eq, both_ways}
use Rattle.std.proofs.lemmas.Bool.Decides.{nat_tests}
use Rattle.dealing.specs.Boards.{Table, Board, Placing}
use Rattle.dealing.specs.Dealing.{CanSit, Ordered, DealtInOrder}
use Rattle.dealing.proofs.Dealing.{order_keeps_deadlines}
use Rattle.dealing.proofs.Seating.{seated_are_placed, placeable_are_seated}
use Rattle.drawing.specs.Walk.{carried, settled, Passed, Succeeds, Fails, In}

in_more : (f : ℕ → ℕ) (p j : ℕ) → In f p j → In f (suc p) j
in_more f p j w = (w.0, let l = w.1 in omega arith, w.2)

in_cases : (f : ℕ → ℕ) (p j : ℕ) → In f (suc p) j → (f p ≡ j) ⊎ In f p j
in_cases f p j w =
    let l = w.1 in
    elim (cases_eq w.0 p) [ inl e ↦ inl (ap f (sym e) ∙ w.2) | inr e ↦ inr (w.0, omega arith, w.2) ]

module _ (b : Board) (t : Table) (first : ℕ → ℕ → Bool) (L : ℕ → Bool) (new : ℕ → ℕ) where
  abbrev pub Good : ℕ → Type 0
  Good p = new p < t.size → CanSit b t L (new p) p

  abbrev pub First : ℕ → Type 0
  First p = (i : ℕ) → b.free p ≡ true → i < t.size → L i ≡ true → t.ready i ≤ b.slot p → b.slot p < t.deadline i → ((q : ℕ) → q ≤ p → new q ≡ i → ⊥) →
      (new p < t.size) × (first (new p) i ≡ true)

  -- one place more
  pub extend : (p : ℕ) → DealtInOrder b t first L p new → Good p → ((q : ℕ) → q < p → new p < t.size → new q ≡ new p → ⊥) → First p → DealtInOrder b t first L (suc p) new
  extend p s good apart foremost = record {
    sits = λ q l h. elim (cases_eq q p) [ inl e ↦ subst Good (sym e) good h | inr n ↦ s.sits q (omega arith) h ];
    once = λ q r l m h z.
        elim (cases_eq q p) [
          | inl e ↦ elim (cases_eq r p) [
            | inl f ↦ e ∙ sym f
            | inr f ↦ absurd (apart r (omega arith) (subst (λ y. new y < t.size) e h) (sym z ∙ ap new e))
          ]
          | inr e ↦ elim (cases_eq r p) [
            | inl f ↦ absurd (apart q (omega arith) (subst (λ v. v < t.size) (z ∙ ap new f) h) (z ∙ ap new f))
            | inr f ↦ s.once q r (omega arith) (omega arith) h z
          ]
        ];
    foremost = λ q i l f h k r d un.
        elim (cases_eq q p) [ inl e ↦ subst First (sym e) foremost i f h k r d un | inr n ↦ s.foremost q i (omega arith) f h k r d un ];
  }

-- the state of a trial of x at the place p: it carries c, and `new` is what it left below p
pub record Walk (b : Board) (t : Table) (first : ℕ → ℕ → Bool) (L : ℕ → Bool) (x : ℕ) (at : ℕ → ℕ) (p c : ℕ) (new : ℕ → ℕ) : Type 0 where
  pub small : c < t.size
  pub mine : L c ≡ true
  pub ready : t.ready c ≤ b.slot p
  pub away : In new p c → ⊥
  pub dealt : DealtInOrder b t first L p new
  pub was : (j : ℕ) → (j ≡ c) ⊎ In new p j → (j ≡ x) ⊎ In at p j
  pub came : (j : ℕ) → (j ≡ x) ⊎ In at p j → (j ≡ c) ⊎ In new p j

pub carried_keep : (first : ℕ → ℕ → Bool) (at : ℕ → ℕ) (s x p : ℕ) → (leb s p && first (carried first at s x p) (at p)) ≡ false →
    (carried first at s x (suc p) ≡ carried first at s x p) × (settled first at s x p ≡ at p)
unfolding carried settled
carried_keep first at s x p h = (grind (arith, nat_tests), grind (arith, nat_tests))

pub carried_swap : (first : ℕ → ℕ → Bool) (at : ℕ → ℕ) (s x p : ℕ) → (leb s p && first (carried first at s x p) (at p)) ≡ true →
    (carried first at s x (suc p) ≡ at p) × (settled first at s x p ≡ carried first at s x p)
unfolding carried settled
carried_swap first at s x p h = (grind (arith, nat_tests), grind (arith, nat_tests))

-- before s nothing changes
pub carried_start : (first : ℕ → ℕ → Bool) (at : ℕ → ℕ) (s x p : ℕ) → p ≤ s → carried first at s x p ≡ x
unfolding carried
carried_start first at s x zero h = refl
carried_start first at s x (suc p) h =
    (carried_keep first at s x p (grind (arith, nat_tests))).0 ∙ carried_start first at s x p (omega arith)

pub settled_start : (first : ℕ → ℕ → Bool) (at : ℕ → ℕ) (s x p : ℕ) → p < s → settled first at s x p ≡ at p
settled_start first at s x p h = (carried_keep first at s x p (grind (arith, nat_tests))).1

-- K is kept, and L is K with x; `at` is dealt to K
module _ (b : Board) (t : Table) (first : ℕ → ℕ → Bool) (ordered : Ordered t first)
    (deadlines : (i j : ℕ) → i < t.size → j < t.size → first i j ≡ true → t.deadline i ≤ t.deadline j)
    (opened : (p : ℕ) → p < b.places → b.free p ≡ true) (K L : ℕ → Bool) (x : ℕ) (xs : x < t.size) (joins : L x ≡ true) (fresh : K x ≡ true → ⊥)
    (grows : (j : ℕ) → K j ≡ true → L j ≡ true) (only : (j : ℕ) → L j ≡ true → (j ≡ x → ⊥) → K j ≡ true)
    (at : ℕ → ℕ) (law : DealtInOrder b t first K b.places at) where
  -- what stands at p is not x, and stands nowhere before
  not_before : (p : ℕ) → p < b.places → at p < t.size → (at p ≡ x) ⊎ In at p (at p) → ⊥
  not_before p l h (inl e) = fresh (subst (λ j. K j ≡ true) e (law.sits p l h).0)
  not_before p l h (inr w) = let m = w.1 in let o : p ≡ w.0 = law.once p w.0 l (omega arith) h (sym w.2) in omega arith

  -- the beginning: x can sit at no place before s
  pub begin : (s : ℕ) (new : ℕ → ℕ) → s ≤ b.places → t.ready x ≤ b.slot s → ((p : ℕ) → p < s → b.slot p < t.ready x) → ((p : ℕ) → p < s → new p ≡ at p) →
      Walk b t first L x at s x new
  begin s new l r before same = record {
    small = xs;
    mine = joins;
    ready = r;
    away = λ w. let m = w.1 in
        let e : at w.0 ≡ x = sym (same w.0 m) ∙ w.2 in
        not_before w.0 (omega arith) (subst (λ j. j < t.size) (sym e) xs) (inl e);
    dealt = record {
      sits = λ p m h. subst (λ v. CanSit b t L v p) (sym (same p m))
          (let g = law.sits p (omega arith) (subst (λ v. v < t.size) (same p m) h) in (grows (at p) g.0, g.1, g.2, g.3));
      once = λ p q m n h z. law.once p q (omega arith) (omega arith) (subst (λ v. v < t.size) (same p m) h) (sym (same p m) ∙ (z ∙ same q n));
      foremost = λ p i m f h k rd d un.
          elim (cases_eq i x) [
            | inl e ↦ (let y = before p m in let z : t.ready i ≡ t.ready x = ap t.ready e in absurd (omega arith))
            | inr e ↦ subst (λ v. (v < t.size) × (first v i ≡ true)) (sym (same p m))
                (law.foremost p i (omega arith) f h (only i k e) rd d (λ q le z. un q le (same q (omega arith) ∙ z)))
          ];
    };
    was = λ j h. elim h [ inl e ↦ inl e | inr w ↦ inr (w.0, w.1, sym (same w.0 w.1) ∙ w.2) ];
    came = λ j h. elim h [ inl e ↦ inl e | inr w ↦ inr (w.0, w.1, same w.0 w.1 ∙ w.2) ];
  }

  -- a job that the trial has not met: not x, and not seated before p
  unmet : (new : ℕ → ℕ) (p c : ℕ) → Walk b t first L x at p c new → (j : ℕ) → (j ≡ c → ⊥) → (In new p j → ⊥) → ((j ≡ x) ⊎ In at p j → ⊥)
  unmet new p c walk j n m h = elim (walk.came j h) [ inl e ↦ n e | inr w ↦ m w ]

  module _ (new : ℕ → ℕ) (p c : ℕ) (walk : Walk b t first L x at p c new) (pl : p < b.places) where
    -- what stands at p, and is not carried and not left before
    apart_at : at p < t.size → (at p ≡ c) ⊎ In new p (at p) → ⊥
    apart_at h w = not_before p pl h (walk.was (at p) w)

    -- what sits at p of old goes before each such job
    old_first : (i : ℕ) → b.free p ≡ true → i < t.size → L i ≡ true → t.ready i ≤ b.slot p → b.slot p < t.deadline i → (i ≡ c → ⊥) → (In new p i → ⊥) → (at p ≡ i → ⊥) →
        (at p < t.size) × (first (at p) i ≡ true)
    old_first i f h k r d nc nn na =
        let u = unmet new p c walk i nc nn in
        law.foremost p i pl f h (only i k (λ e. u (inl e))) r d
        (λ q le z. elim (cases_eq q p) [ inl e ↦ na (ap at (sym e) ∙ z) | inr e ↦ u (inr (q, omega arith, z)) ])

    -- the job at p goes first, and stays
    pub keep : at p < t.size → first c (at p) ≡ false → new p ≡ at p → Walk b t first L x at (suc p) c new
    keep h nb e =
        let hn : new p < t.size = subst (λ v. v < t.size) (sym e) h in
        let g = law.sits p pl h in
        let nc : at p ≡ c → ⊥ = λ z. apart_at h (inl z) in
        let rise = b.rising p (suc p) (omega arith) in
        let rc = walk.ready in
        record {
          small = walk.small;
          mine = walk.mine;
          ready = omega arith;
          away = λ w. elim (in_cases new p c w) [ inl z ↦ nc (sym e ∙ z) | inr v ↦ walk.away v ];
          dealt = extend b t first L new p walk.dealt
              (λ _. subst (λ v. CanSit b t L v p) (sym e) (grows (at p) g.0, g.1, g.2, g.3))
              (λ q l _ z. apart_at h (inr (q, l, z ∙ e)))
              (λ i f l k r d un.
              subst (λ v. (v < t.size) × (first v i ≡ true)) (sym e)
              (elim (cases_eq i c) [
                | inl z ↦ (h, subst (λ v. (first (at p) v ≡ true)) (sym z) (elim (ordered.either c (at p) walk.small h (λ y. nc (sym y))) [ inl g ↦ absurd (both_ways (first c (at p)) nb g) | inr g ↦ g ]))
                | inr z ↦ old_first i f l k r d z (λ w. let m = w.1 in un w.0 (omega arith) w.2) (λ y. un p (omega arith) (e ∙ y))
              ]));
          was = λ j w. elim w [
            | inl z ↦ elim (walk.was j (inl z)) [ inl y ↦ inl y | inr y ↦ inr (in_more at p j y) ]
            | inr v ↦ elim (in_cases new p j v) [
              | inl y ↦ inr (p, omega arith, sym e ∙ y)
              | inr y ↦ elim (walk.was j (inr y)) [ inl u ↦ inl u | inr u ↦ inr (in_more at p j u) ]
            ]
          ];
          came = λ j w. elim w [
            | inl z ↦ elim (walk.came j (inl z)) [ inl y ↦ inl y | inr y ↦ inr (in_more new p j y) ]
            | inr v ↦ elim (in_cases at p j v) [
              | inl y ↦ inr (p, omega arith, e ∙ y)
              | inr y ↦ elim (walk.came j (inr y)) [ inl u ↦ inl u | inr u ↦ inr (in_more new p j u) ]
            ]
          ];
        }

    -- the job that is carried goes first: it stays, and the one at p is carried on
    pub swap : at p < t.size → (first c (at p) ≡ true) → b.slot p < t.deadline c → new p ≡ c → Walk b t first L x at (suc p) (at p) new
    swap h be d e =
        let g = law.sits p pl h in
        let rise = b.rising p (suc p) (omega arith) in
        let rc = walk.ready in
        record {
          small = h;
          mine = grows (at p) g.0;
          ready = let y = g.2 in omega arith;
          away = λ w. elim (in_cases new p (at p) w) [ inl z ↦ apart_at h (inl (sym z ∙ e)) | inr v ↦ apart_at h (inr v) ];
          dealt = extend b t first L new p walk.dealt
              (λ _. subst (λ v. CanSit b t L v p) (sym e) (walk.mine, g.1, rc, d))
              (λ q l _ z. walk.away (q, l, z ∙ e))
              (λ i f l k r di un.
              subst (λ v. (v < t.size) × (first v i ≡ true)) (sym e) (
                walk.small,
                elim (cases_eq i (at p)) [
                  | inl z ↦ subst (λ v. (first c v ≡ true)) (sym z) be
                  | inr z ↦ ordered.trans c (at p) i walk.small h l be
                      (old_first i f l k r di (λ y. un p (omega arith) (e ∙ sym y)) (λ w. let m = w.1 in un w.0 (omega arith) w.2) (λ y. z (sym y))).1
                ],
              ));
          was = λ j w. elim w [
            | inl z ↦ inr (p, omega arith, sym z)
            | inr v ↦ elim (walk.was j (elim (in_cases new p j v) [ inl y ↦ inl (sym y ∙ e) | inr y ↦ inr y ])) [ inl u ↦ inl u | inr u ↦ inr (in_more at p j u) ]
          ];
          came = λ j w.
              let on : (j ≡ x) ⊎ In at p j → (j ≡ at p) ⊎ In new (suc p) j =
              λ v. elim (walk.came j v) [ inl y ↦ inr (p, omega arith, e ∙ sym y) | inr y ↦ inr (in_more new p j y) ] in
              elim w [ inl z ↦ on (inl z) | inr v ↦ elim (in_cases at p j v) [ inl y ↦ inl (sym y) | inr y ↦ on (inr y) ] ];
        }

  -- what the trial left stands nowhere further on
  further : (new : ℕ → ℕ) (p c : ℕ) → Walk b t first L x at p c new → (r : ℕ) → p ≤ r → r < b.places → at r < t.size → (at r ≡ c) ⊎ In new p (at r) → ⊥
  further new p c walk r l m h w =
      not_before r m h (elim (walk.was (at r) w) [ inl e ↦ inl e | inr v ↦ (let k = v.1 in inr (v.0, omega arith, v.2)) ])

  -- the first m places dealt anew, and then as before
  joined : (new : ℕ → ℕ) (m : ℕ) → m ≤ b.places → ((q : ℕ) → m ≤ q → q < b.places → new q ≡ at q) → DealtInOrder b t first L m new →
      ((q r : ℕ) → q < m → m ≤ r → r < b.places → at r < t.size → new q ≡ at r → ⊥) →
      ((q i : ℕ) → m ≤ q → q < b.places → i < t.size → L i ≡ true → b.slot q < t.deadline i → ((r : ℕ) → r < m → new r ≡ i → ⊥) → (K i ≡ true) × (In at m i → ⊥)) →
      DealtInOrder b t first L b.places new
  joined new m ml back dealt others rest = record {
    sits = λ q l h.
        elim (cases_lt q m) [
          | inl y ↦ dealt.sits q y h
          | inr y ↦
              (let e = back q y l in
              let g = law.sits q l (subst (λ v. v < t.size) e h) in
              subst (λ v. CanSit b t L v q) (sym e) (grows (at q) g.0, g.1, g.2, g.3))
        ];
    once = λ q r l k h z.
        elim (cases_lt q m) [
          | inl y ↦ elim (cases_lt r m) [
            | inl w ↦ dealt.once q r y w h z
            | inr w ↦ (let e = back r w k in absurd (others q r y w k (subst (λ v. v < t.size) (z ∙ e) h) (z ∙ e)))
          ]
          | inr y ↦ (let e = back q y l in
              let h' = subst (λ v. v < t.size) e h in
              elim (cases_lt r m) [
                | inl w ↦ absurd (others r q w y l h' (sym z ∙ e))
                | inr w ↦ law.once q r l k h' (sym e ∙ (z ∙ back r w k))
              ])
        ];
    foremost = λ q i l f h k r d un.
        elim (cases_lt q m) [
          | inl y ↦ dealt.foremost q i y f h k r d un
          | inr y ↦
              (let e = back q y l in
              let z = rest q i y l h k d (λ j w. un j (omega arith)) in
              subst (λ v. (v < t.size) × (first v i ≡ true)) (sym e)
              (law.foremost q i l f h z.0 r d (λ j le w. elim (cases_lt j m) [ inl v ↦ z.1 (j, v, w) | inr v ↦ un j le (back j v (omega arith) ∙ w) ])))
        ];
  }

  -- the end at an empty place
  module _ (new : ℕ → ℕ) (e c : ℕ) (walk : Walk b t first L x at e c new) (el : e < b.places) (empty : t.size ≤ at e) (deadline : b.slot e < t.deadline c)
      (here : new e ≡ c) (back : (q : ℕ) → e < q → q < b.places → new q ≡ at q) where
    pub succeeded : DealtInOrder b t first L b.places new
    succeeded =
        joined new (suc e) el (λ q l m. back q l m)
        (extend b t first L new e walk.dealt
        (λ _. subst (λ v. CanSit b t L v e) (sym here) (walk.mine, opened e el, walk.ready, deadline))
        (λ q l _ z. walk.away (q, l, z ∙ here))
        (λ i f l k r d un.
        let o = (old_first new e c walk el i f l k r d (λ y. un e (omega arith) (here ∙ sym y)) (λ w. let m = w.1 in un w.0 (omega arith) w.2) (λ y. omega arith)).0 in
        absurd (omega arith)))
        (λ q r l m k h z. further new e c walk r (omega arith) k h (elim (cases_eq q e) [ inl y ↦ inl (sym z ∙ (ap new y ∙ here)) | inr y ↦ inr (q, omega arith, z) ]))
        (λ q i l m h k d un.
        let u = unmet new e c walk i (λ y. un e (omega arith) (here ∙ sym y)) (λ w. let n = w.1 in un w.0 (omega arith) w.2) in
        (only i k (λ y. u (inl y)), λ w. elim (in_cases at e i w) [ inl y ↦ omega arith | inr y ↦ u (inr y) ]))

    -- each job has a seat if each had one before
    pub succeeded_seats : ((i : ℕ) → i < t.size → K i ≡ true → In at b.places i) → (i : ℕ) → i < t.size → L i ≡ true → In new b.places i
    succeeded_seats seats i l k =
        let met : (i ≡ x) ⊎ In at e i → In new b.places i =
        λ w. elim (walk.came i w) [ inl y ↦ (e, el, here ∙ sym y) | inr y ↦ (let m = y.1 in (y.0, omega arith, y.2)) ] in
        elim (cases_eq i x) [
          | inl y ↦ met (inl y)
          | inr y ↦
              (let w = seats i l (only i k y) in
              let m = w.1 in
              let z = w.2 in
              elim (cases_lt w.0 e) [
                | inl v ↦ met (inr (w.0, v, z))
                | inr v ↦ elim (cases_eq w.0 e) [
                  | inl u ↦ (let a : at e ≡ i = ap at (sym u) ∙ z in absurd (omega arith))
                  | inr u ↦ (w.0, m, back w.0 (omega arith) m ∙ z)
                ]
              ])
        ]

  -- the end at a place that is too late, or at the last
  module _ (new : ℕ → ℕ) (e c : ℕ) (walk : Walk b t first L x at e c new) (el : e ≤ b.places) (late : e < b.places → t.deadline c ≤ b.slot e)
      (back : (q : ℕ) → e ≤ q → q < b.places → new q ≡ at q) where
    failed_dealt : DealtInOrder b t first L b.places new
    failed_dealt =
        joined new e el back walk.dealt
        (λ q r l m k h z. further new e c walk r m k h (inr (q, l, z)))
        (λ q i l m h k d un.
        let v = late (omega arith) in
        let rise = b.rising e q l in
        let u = unmet new e c walk i (λ y. let w : t.deadline i ≡ t.deadline c = ap t.deadline y in omega arith) (λ w. un w.0 w.1 w.2) in
        (only i k (λ y. u (inl y)), λ w. u (inr w)))

    pub failed : Placing b t L → ⊥
    failed s =
        let w = placeable_are_seated b t L new (order_keeps_deadlines b t first deadlines L b.places new failed_dealt) s c walk.small walk.mine in
        elim (cases_lt w.0 e) [
          | inl l ↦ walk.away (w.0, l, w.2)
          | inr l ↦
              (let z : at w.0 ≡ c = sym (back w.0 l w.1) ∙ w.2 in
              further new e c walk w.0 l w.1 (subst (λ v. v < t.size) (sym z) walk.small) (inl z))
        ]

  -- the trial from s on, where x is ready
  module _ (s : ℕ) (ready : t.ready x ≤ b.slot s) (before : (p : ℕ) → p < s → b.slot p < t.ready x) where
    abbrev car : ℕ → ℕ
    car p = carried first at s x p

    abbrev set : ℕ → ℕ
    set p = settled first at s x p

    step : (new : ℕ → ℕ) (p : ℕ) → s ≤ p → p < b.places → at p < t.size → b.slot p < t.deadline (car p) → new p ≡ set p → Walk b t first L x at p (car p) new →
        Walk b t first L x at (suc p) (car (suc p)) new
    step new p sp pl h d e walk =
        elim (cases_Bool (first (car p) (at p))) [
          | inl y ↦
              (let w = carried_swap first at s x p (grind (arith, nat_tests)) in
              subst (λ c. Walk b t first L x at (suc p) c new) (sym w.0)
              (swap new p (car p) walk pl h y d (e ∙ w.1)))
          | inr y ↦
              (let w = carried_keep first at s x p (grind (arith, nat_tests)) in
              subst (λ c. Walk b t first L x at (suc p) c new) (sym w.0)
              (keep new p (car p) walk pl h y (e ∙ w.1)))
        ]

    start : (new : ℕ → ℕ) → s ≤ b.places → ((q : ℕ) → q < s → new q ≡ set q) → Walk b t first L x at s (car s) new
    start new l same =
        subst (λ c. Walk b t first L x at s c new) (sym (carried_start first at s x s (omega arith)))
        (begin s new l ready before (λ q m. same q m ∙ settled_start first at s x q m))

    pub walks : (new : ℕ → ℕ) (p : ℕ) → s ≤ p → p ≤ b.places → Passed b t first at s x p → ((q : ℕ) → q < p → new q ≡ set q) → Walk b t first L x at p (car p) new
    walks new zero sp pl passed same =
        let z : s ≡ 0 = omega arith in
        subst (λ p. Walk b t first L x at p (car p) new) z (start new (omega arith) (λ q m. absurd (omega arith)))
    walks new (suc p) sp pl passed same =
        elim (cases_eq s (suc p)) [
          | inl z ↦ subst (λ p. Walk b t first L x at p (car p) new) z (start new (omega arith) (λ q m. same q (omega arith)))
          | inr z ↦
              (let w = passed p (omega arith) (omega arith) in
              step new p (omega arith) (omega arith) w.0 w.1 (same p (omega arith)) (walks new p (omega arith) (omega arith) (λ q l m. passed q l (omega arith)) (λ q m. same q (omega arith))))
        ]

    -- what the array is once the trial has succeeded
    pub succeeds : (e : ℕ) → Succeeds b t first at s x e → (new : ℕ → ℕ) → ((q : ℕ) → q < e → new q ≡ set q) → new e ≡ car e → ((q : ℕ) → e < q → q < b.places → new q ≡ at q) →
        DealtInOrder b t first L b.places new × (((i : ℕ) → i < t.size → K i ≡ true → In at b.places i) → (i : ℕ) → i < t.size → L i ≡ true → In new b.places i)
    succeeds e h new front here back =
        let l = h.1 in
        let w = walks new e h.0 (omega arith) h.2 front in
        (succeeded new e (car e) w l h.3 h.4 here back, succeeded_seats new e (car e) w l h.3 h.4 here back)

    pub fails : (e : ℕ) → Fails b t first at s x e → Placing b t L → ⊥
    fails e h =
        let new : ℕ → ℕ = λ q. cond (ltb q e) (set q) (at q) in
        let w = walks new e h.0 h.1 h.2 (λ q m. grind (arith, nat_tests)) in
        failed new e (car e) w h.1 h.3 (λ q l m. grind (arith, nat_tests))

pub placed_by : (b : Board) (t : Table) (first : ℕ → ℕ → Bool) → ((i j : ℕ) → i < t.size → j < t.size → first i j ≡ true → t.deadline i ≤ t.deadline j) →
    (L : ℕ → Bool) (new : ℕ → ℕ) → DealtInOrder b t first L b.places new →
    ((i : ℕ) → i < t.size → L i ≡ true → In new b.places i) → Placing b t L
placed_by b t first deadlines L new s seats = seated_are_placed b t L new (order_keeps_deadlines b t first deadlines L b.places new s) seats
