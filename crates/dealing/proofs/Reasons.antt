-- A reasoned set is largest, however it was found; what is kept in turn is reasoned on each front of the ranks. Assumes nothing.
use Rattle.std.proofs.Common.{◌≡◌, ℕ, zero, suc, ◌<◌, ◌≤◌, Bool, true, false, ◌&&◌, ◌||◌, ltb, leb, ◌⊎◌, sym, refl, ap, ◌∙◌, subst, inl, inr, arith}
use Rattle.std.proofs.lemmas.Bool.{cases_Bool, cases_eq, both_ways}
use Rattle.std.proofs.lemmas.Bool.Decides.{nat_tests}
use Rattle.dealing.specs.Counting.{count}
use Rattle.dealing.specs.Boards.{Table, Board, Sits, Placing}
use Rattle.dealing.specs.Choice.{Greedy, Reasoned, ReasonedIsLargest, KeepsMost}
use Rattle.dealing.proofs.Choice.{below, below_parts, below_from, part, kept_are_placed, dropped_has_full_run}
use Rattle.dealing.proofs.Counting.{inject}

-- the slots in the runs of the jobs of T that are left out below m: all are taken, by jobs of K that reach no others
pub record Cover (b : Board) (t : Table) (T K : ℕ → Bool) (s : Placing b t K) (m : ℕ) (U : ℕ → Bool) : Type 0 where
  pub taken : (p : ℕ) → p < b.places → b.free p ≡ true → U (b.slot p) ≡ true →
      (j : ℕ) × (j < t.size) × (K j ≡ true) × (s.seat j ≡ p) × ((x : ℕ) → t.ready j ≤ x → x < t.deadline j → U x ≡ true)
  pub reached : (i : ℕ) → i < m → T i ≡ true → K i ≡ false → (x : ℕ) → t.ready i ≤ x → x < t.deadline i → U x ≡ true

abbrev wider : (ℕ → Bool) → ℕ → ℕ → ℕ → Bool
wider U a e x = U x || (leb a x && ltb x e)

wider_old : (U : ℕ → Bool) (a e x : ℕ) → U x ≡ true → wider U a e x ≡ true
wider_old U a e x h = grind (arith, nat_tests)

wider_new : (U : ℕ → Bool) (a e x : ℕ) → a ≤ x → x < e → wider U a e x ≡ true
wider_new U a e x h l = grind (arith, nat_tests)

wider_cases : (U : ℕ → Bool) (a e x : ℕ) → wider U a e x ≡ true → (U x ≡ true) ⊎ ((a ≤ x) × (x < e))
wider_cases U a e x h =
    elim (cases_Bool (U x)) [
      | inl y ↦ inl y
      | inr y ↦ inr (grind (arith, nat_tests), grind (arith, nat_tests))
    ]

module _ (b : Board) (t : Table) (T K : ℕ → Bool) (s : Placing b t K) (r : Reasoned b t T K s) where
  -- job m needs no run: it is not of T, or of K
  cover_same : (m : ℕ) (U : ℕ → Bool) → Cover b t T K s m U → (T m ≡ true → K m ≡ false → ⊥) → Cover b t T K s (suc m) U
  cover_same m U c no-need = record {
    taken = c.taken;
    reached = λ i l h k. elim (cases_eq i m) [
      | inl z ↦ absurd (no-need (subst (λ x. T x ≡ true) z h) (subst (λ x. K x ≡ false) z k))
      | inr z ↦ c.reached i (omega arith) h k
    ];
  }

  cover_more : (m : ℕ) (U : ℕ → Bool) → Cover b t T K s m U → m < t.size → T m ≡ true → K m ≡ false → (V : ℕ → Bool) × Cover b t T K s (suc m) V
  cover_more m U c l h k =
      let w = r m l h k in (
        wider U w.0 w.1,
        record {
          taken = λ p pl f u. elim (wider_cases U w.0 w.1 (b.slot p) u) [
            | inl y ↦ (let v = c.taken p pl f y in (v.0, v.1, v.2, v.3, λ x xl n. wider_old U w.0 w.1 x (v.4 x xl n)))
            | inr y ↦
                (let v = w.4 p pl f y.0 y.1 in
                (v.0, v.1, v.2, v.5, λ x xl n. wider_new U w.0 w.1 x (omega arith) (omega arith)))
          ];
          reached = λ i il hi ki x xl xd. elim (cases_eq i m) [
            | inl z ↦
                (let a : t.ready i ≡ t.ready m = ap t.ready z in
                let d : t.deadline i ≡ t.deadline m = ap t.deadline z in
                wider_new U w.0 w.1 x (omega arith) (omega arith))
            | inr z ↦ wider_old U w.0 w.1 x (c.reached i (omega arith) hi ki x xl xd)
          ];
        },
      )

  cover : (m : ℕ) → m ≤ t.size → (U : ℕ → Bool) × Cover b t T K s m U
  cover zero h = (
    λ _. false,
    record {
      taken = λ p pl f u. absurd (both_ways false refl u);
      reached = λ i l. absurd (omega arith);
    },
  )
  cover (suc m) h =
      let c = cover m (omega arith) in
      elim (cases_Bool (T m)) [
        | inr e ↦ (c.0, cover_same m c.0 c.1 (λ f. absurd (both_ways (T m) e f)))
        | inl e ↦ elim (cases_Bool (K m)) [
          | inl k ↦ (c.0, cover_same m c.0 c.1 (λ _ f. absurd (both_ways (K m) f k)))
          | inr k ↦ cover_more m c.0 c.1 (omega arith) e k
        ]
      ]

-- jobs of T by other numbers, `which i` of the table at the place `put i`, are no more than those of K: one put in the cover goes to the job of K there, any other to itself
module _ (b : Board) (t : Table) (T K : ℕ → Bool) (s : Placing b t K) (U : ℕ → Bool) (c : Cover b t T K s t.size U)
    (k : ℕ) (R : ℕ → Bool) (which put : ℕ → ℕ)
    (sit : (i : ℕ) → i < k → R i ≡ true → (which i < t.size) × (T (which i) ≡ true) × Sits b t (which i) (put i))
    (apart : (i j : ℕ) → i < k → j < k → R i ≡ true → R j ≡ true → put i ≡ put j → i ≡ j)
    (differ : (i j : ℕ) → i < k → j < k → R i ≡ true → R j ≡ true → which i ≡ which j → i ≡ j) where
  -- the job of K where i was put, in the cover, or i itself
  abbrev To : ℕ → ℕ → Type 0
  To i j = ((s.seat j ≡ put i) × ((x : ℕ) → t.ready j ≤ x → x < t.deadline j → U x ≡ true)) ⊎ ((U (b.slot (put i)) ≡ false) × (which i ≡ j))

  largest_to : (i : ℕ) → i < k → R i ≡ true → (j : ℕ) × (j < t.size) × (K j ≡ true) × To i j
  largest_to i l e =
      let w = sit i l e in
      let p = w.2 in
      elim (cases_Bool (U (b.slot (put i)))) [
        | inl u ↦ (let v = c.taken (put i) p.0 p.1 u in (v.0, v.1, v.2, inl (v.3, v.4)))
        | inr u ↦ (
          which i,
          w.0,
          elim (cases_Bool (K (which i))) [ inl q ↦ q | inr q ↦ absurd (both_ways (U (b.slot (put i))) u (c.reached (which i) w.0 w.1 q (b.slot (put i)) p.2 p.3)) ],
          inr (u, refl),
        )
      ]

  -- one that is put outside the cover is no job that reaches only into it
  unlike : (i j : ℕ) → i < k → R i ≡ true → U (b.slot (put i)) ≡ false → which i ≡ j → ((x : ℕ) → t.ready j ≤ x → x < t.deadline j → U x ≡ true) → ⊥
  unlike i j l e u z h =
      let p = (sit i l e).2 in
      let r : t.ready (which i) ≡ t.ready j = ap t.ready z in
      let d : t.deadline (which i) ≡ t.deadline j = ap t.deadline z in
      both_ways (U (b.slot (put i))) u (h (b.slot (put i)) (omega arith) (omega arith))

  largest_once : (i n j : ℕ) → (i < k) × (R i ≡ true) × To i j → (n < k) × (R n ≡ true) × To n j → i ≡ n
  largest_once i n j x y =
      elim x.2 [
        | inl a ↦ elim y.2 [
          | inl b ↦ apart i n x.0 y.0 x.1 y.1 (sym a.0 ∙ b.0)
          | inr b ↦ absurd (unlike n j y.0 y.1 b.0 b.1 a.1)
        ]
        | inr a ↦ elim y.2 [
          | inl b ↦ absurd (unlike i j x.0 x.1 a.0 a.1 b.1)
          | inr b ↦ differ i n x.0 y.0 x.1 y.1 (a.1 ∙ sym b.1)
        ]
      ]

  largest_by : count R k ≤ count K t.size
  largest_by = inject k R t.size K (λ i j. (i < k) × (R i ≡ true) × To i j) (λ i l e. let w = largest_to i l e in (w.0, w.1, w.2, (l, e, w.3))) largest_once

-- the same for jobs by other numbers
pub reasoned_renumbered : (b : Board) (t : Table) (T K : ℕ → Bool) (s : Placing b t K) → Reasoned b t T K s →
    (k : ℕ) (R : ℕ → Bool) (which put : ℕ → ℕ) →
    ((i : ℕ) → i < k → R i ≡ true → (which i < t.size) × (T (which i) ≡ true) × Sits b t (which i) (put i)) →
    ((i j : ℕ) → i < k → j < k → R i ≡ true → R j ≡ true → put i ≡ put j → i ≡ j) →
    ((i j : ℕ) → i < k → j < k → R i ≡ true → R j ≡ true → which i ≡ which j → i ≡ j) →
    count R k ≤ count K t.size
reasoned_renumbered b t T K s r k R which put sit apart differ =
    let c = cover b t T K s r t.size (omega arith) in
    largest_by b t T K s c.0 c.1 k R which put sit apart differ

pub reasoned_is_largest : ReasonedIsLargest
reasoned_is_largest b t T K s r R in-T rival =
    reasoned_renumbered b t T K s r t.size R (λ i. i) rival.seat
    (λ i l e. (l, in-T i l e, rival.sits i l e)) rival.apart (λ i j l n e f z. z)

-- the first m jobs
abbrev front : ℕ → ℕ → Bool
front m j = ltb j m

front_from : (m j : ℕ) → j < m → front m j ≡ true
front_from m j l = grind (arith, nat_tests)

front_parts : (m j : ℕ) → front m j ≡ true → j < m
front_parts m j h = grind (arith, nat_tests)

below_not : (kept : ℕ → Bool) (m j : ℕ) → j < m → below kept m j ≡ false → kept j ≡ false
below_not kept m j l h = grind (arith, nat_tests)

-- what is kept in turn is reasoned on each front
module _ (b : Board) (t : Table) (kept : ℕ → Bool) (g : Greedy b t kept) (m : ℕ) where
  front_placing : Placing b t (below kept m)
  front_placing = part b t kept (below kept m) (kept_are_placed b t kept g) (λ i l h. (below_parts kept m i h).1)

  front_reasoned : Reasoned b t (front m) (below kept m) front_placing
  front_reasoned i l h k =
      let im = front_parts m i h in
      let w = dropped_has_full_run b t kept g i l (below_not kept m i im k) in (
        w.0,
        w.1,
        w.2,
        w.3,
        λ p pl f ap pe.
            let v = w.4 (below kept m) (λ j jl kj. below_from kept m j (omega arith) kj) front_placing p pl f ap pe in
            (v.0, omega arith, below_from kept m v.0 (omega arith) v.2, v.3, v.4, v.5),
      )

-- so it is largest on each front, by other numbers too
pub most_renumbered : (b : Board) (t : Table) (kept : ℕ → Bool) → Greedy b t kept → (m : ℕ) → m ≤ t.size →
    (k : ℕ) (R : ℕ → Bool) (which put : ℕ → ℕ) →
    ((i : ℕ) → i < k → R i ≡ true → (which i < m) × Sits b t (which i) (put i)) →
    ((i j : ℕ) → i < k → j < k → R i ≡ true → R j ≡ true → put i ≡ put j → i ≡ j) →
    ((i j : ℕ) → i < k → j < k → R i ≡ true → R j ≡ true → which i ≡ which j → i ≡ j) →
    count R k ≤ count kept m
most_renumbered b t kept g m ms k R which put sit apart differ =
    let a = reasoned_renumbered b t (front m) (below kept m) (front_placing b t kept g m) (front_reasoned b t kept g m) k R which put
    (λ i l e. let w = sit i l e in (omega arith, front_from m (which i) w.0, w.1)) apart differ in
    let c = inject t.size (below kept m) m kept (λ i j. i ≡ j) (λ i l e. let w = below_parts kept m i e in (i, w.0, w.1, refl)) (λ i j x y z. y ∙ sym z) in
    omega arith

pub keeps_most : KeepsMost
keeps_most b t kept g R s m ms =
    most_renumbered b t kept g m ms m R (λ i. i) s.seat
    (λ i l e. (l, s.sits i (omega arith) e))
    (λ i j l n e f z. s.apart i j (omega arith) (omega arith) e f z)
    (λ i j l n e f z. z)
