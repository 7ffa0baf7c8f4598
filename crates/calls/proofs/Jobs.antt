-- What a call does to the jobs of a table, and that tables with the same jobs stay so. Assumes nothing.
--   JobsApart xs       no two jobs of the list have one number
--   StandsAt n p xs    the job at p has the number n
use Rattle.std.proofs.Common.{◌≡◌, ℕ, zero, suc, ◌+◌, ◌<◌, ◌≤◌, true, cond, eqb, ◌⊎◌, List, [], ◌∷◌, ◌++◌, length, get_or, take, sym, refl, ap, ◌∙◌, subst, inl, inr, arith}
use Rattle.std.specs.List.{insert, remove}
use Rattle.std.proofs.lemmas.List.Edits.{length-insert, length-remove}
use Rattle.std.proofs.lemmas.List.{get_or_default, length_push}
use Rattle.std.proofs.lemmas.Bool.{cases_eq, cases_order, cond-true, cond-false, eq-eqb, ne_eqb}
use Rattle.jobs.specs.declared.terms.Row.{Row}
use Rattle.jobs.specs.declared.terms.Job.{Job}
use Rattle.dealing.specs.Counting.{count}
use Rattle.dealing.proofs.Counting as counting
use Rattle.placing.specs.Placing.{row, Apart}
use Rattle.placing.specs.Promise.{jobs_of, Member, SameJobs}
use Rattle.calls.specs.declared.terms.Call.{Call}
use Rattle.calls.specs.declared.terms.Call.TheVariants.{Offer, Withdraw, Reweigh}
use Rattle.calls.specs.Moments.{jobs_in}
use Rattle.calls.specs.Calls.{without, with_weight, reweighed, table_after}

count_all : (n : ℕ) → count (λ _. true) n ≡ n
count_all zero = refl
count_all (suc n) = let ih = count_all n in omega arith

module _ {W : Type 0} where
  abbrev pub JobsApart : List (Job W) → Type 0
  JobsApart xs = (d : Job W) (i j : ℕ) → i < length xs → j < length xs → (get_or xs i d).number ≡ (get_or xs j d).number → i ≡ j

  abbrev pub StandsAt : ℕ → ℕ → List (Job W) → Type 0
  StandsAt n p xs = (d : Job W) → (get_or xs p d).number ≡ n

  pub same_refl : (xs : List (Job W)) → SameJobs xs xs
  same_refl xs = (refl, (λ j m. m), (λ j m. m))

  pub same_sym : (xs ys : List (Job W)) → SameJobs xs ys → SameJobs ys xs
  same_sym xs ys s = (sym s.0, s.2, s.1)

  pub same_trans : (xs ys zs : List (Job W)) → SameJobs xs ys → SameJobs ys zs → SameJobs xs zs
  same_trans xs ys zs s t = (s.0 ∙ t.0, (λ j m. t.1 j (s.1 j m)), (λ j m. s.2 j (t.2 j m)))

  -- who is a member
  pub member_at : (xs : List (Job W)) (i : ℕ) (d : Job W) → i < length xs → Member (get_or xs i d) xs
  member_at xs i d l = (i, l, get_or_default xs i (get_or xs i d) d l)

  pub member_later : (k x : Job W) (xs : List (Job W)) → Member k xs → Member k (x ∷ xs)
  member_later k x xs m = (suc m.0, (let l = m.1 in omega arith), m.2)

  pub member_cases : (k x : Job W) (xs : List (Job W)) → Member k (x ∷ xs) → Member k xs ⊎ (x ≡ k)
  member_cases k x xs (zero, l, e) = inr e
  member_cases k x xs (suc i, l, e) = inl (i, omega arith, e)

  pub pushed_cases : (k j : Job W) (xs : List (Job W)) → Member k (xs ++ (j ∷ [])) → Member k xs ⊎ (j ≡ k)
  pushed_cases k j [] (zero, l, e) = inr e
  pushed_cases k j [] (suc i, l, e) = absurd (omega arith)
  pushed_cases k j (x ∷ xs) (zero, l, e) = inl (0, omega arith, e)
  pushed_cases k j (x ∷ xs) (suc i, l, e) = elim (pushed_cases k j xs (i, omega arith, e)) [ inl m ↦ inl (member_later k x xs m) | inr z ↦ inr z ]

  pub pushed_old : (k j : Job W) (xs : List (Job W)) → Member k xs → Member k (xs ++ (j ∷ []))
  pushed_old k j [] (i, l, e) = absurd (omega arith)
  pushed_old k j (x ∷ xs) (zero, l, e) = (0, omega arith, e)
  pushed_old k j (x ∷ xs) (suc i, l, e) = member_later k x (xs ++ (j ∷ [])) (pushed_old k j xs (i, omega arith, e))

  pub pushed_new : (j : Job W) (xs : List (Job W)) → Member j (xs ++ (j ∷ []))
  pushed_new j [] = (0, omega arith, refl)
  pushed_new j (x ∷ xs) = member_later j x (xs ++ (j ∷ [])) (pushed_new j xs)

  pub inserted_cases : (k j : Job W) (p : ℕ) (xs : List (Job W)) → Member k (insert xs p j) → Member k xs ⊎ (j ≡ k)
  inserted_cases k j zero xs (zero, l, e) = inr e
  inserted_cases k j zero xs (suc i, l, e) = inl (i, omega arith, e)
  inserted_cases k j (suc p) [] (zero, l, e) = inr e
  inserted_cases k j (suc p) [] (suc i, l, e) = absurd (omega arith)
  inserted_cases k j (suc p) (x ∷ xs) (zero, l, e) = inl (0, omega arith, e)
  inserted_cases k j (suc p) (x ∷ xs) (suc i, l, e) = elim (inserted_cases k j p xs (i, omega arith, e)) [ inl m ↦ inl (member_later k x xs m) | inr z ↦ inr z ]

  pub inserted_old : (k j : Job W) (p : ℕ) (xs : List (Job W)) → Member k xs → Member k (insert xs p j)
  inserted_old k j zero xs m = member_later k j xs m
  inserted_old k j (suc p) [] (i, l, e) = absurd (omega arith)
  inserted_old k j (suc p) (x ∷ xs) (zero, l, e) = (0, omega arith, e)
  inserted_old k j (suc p) (x ∷ xs) (suc i, l, e) = member_later k x (insert xs p j) (inserted_old k j p xs (i, omega arith, e))

  pub inserted_new : (j : Job W) (p : ℕ) (xs : List (Job W)) → Member j (insert xs p j)
  inserted_new j zero xs = (0, omega arith, refl)
  inserted_new j (suc p) [] = (0, omega arith, refl)
  inserted_new j (suc p) (x ∷ xs) = member_later j x (insert xs p j) (inserted_new j p xs)

  pub removed_to : (k : Job W) (p : ℕ) (xs : List (Job W)) → Member k (remove xs p) → Member k xs
  removed_to k zero [] m = m
  removed_to k (suc p) [] m = m
  removed_to k zero (x ∷ xs) m = member_later k x xs m
  removed_to k (suc p) (x ∷ xs) (zero, l, e) = (0, omega arith, e)
  removed_to k (suc p) (x ∷ xs) (suc i, l, e) = member_later k x xs (removed_to k p xs (i, omega arith, e))

  pub removed_from : (k : Job W) (p : ℕ) (xs : List (Job W)) → Member k xs → Member k (remove xs p) ⊎ (get_or xs p k ≡ k)
  removed_from k p [] (i, l, e) = absurd (omega arith)
  removed_from k zero (x ∷ xs) (zero, l, e) = inr e
  removed_from k zero (x ∷ xs) (suc i, l, e) = inl (i, omega arith, e)
  removed_from k (suc p) (x ∷ xs) (zero, l, e) = inl (0, omega arith, e)
  removed_from k (suc p) (x ∷ xs) (suc i, l, e) = elim (removed_from k p xs (i, omega arith, e)) [ inl m ↦ inl (member_later k x (remove xs p) m) | inr z ↦ inr z ]

  without_head : (n : ℕ) (x : Job W) (xs : List (Job W)) → x.number ≡ n → without n (x ∷ xs) ≡ without n xs
  without_head n x xs e = cond-true (eqb x.number n) (without n xs) (x ∷ without n xs) (eq-eqb x.number n e)

  without_other : (n : ℕ) (x : Job W) (xs : List (Job W)) → (x.number ≡ n → ⊥) → without n (x ∷ xs) ≡ x ∷ without n xs
  without_other n x xs ne = cond-false (eqb x.number n) (without n xs) (x ∷ without n xs) (ne_eqb x.number n ne)

  pub without_to : (n : ℕ) (k : Job W) (xs : List (Job W)) → Member k (without n xs) → Member k xs × (k.number ≡ n → ⊥)
  without_to n k [] (i, l, e) = absurd (omega arith)
  without_to n k (x ∷ xs) m =
      elim (cases_eq x.number n) [
        | inl e ↦ (let w = without_to n k xs (subst (Member k) (without_head n x xs e) m) in (member_later k x xs w.0, w.1))
        | inr ne ↦ elim (member_cases k x (without n xs) (subst (Member k) (without_other n x xs ne) m)) [
          | inl q ↦ (let w = without_to n k xs q in (member_later k x xs w.0, w.1))
          | inr z ↦ ((0, omega arith, z), λ s. ne (ap (λ y. y.number) z ∙ s))
        ]
      ]

  pub without_from : (n : ℕ) (k : Job W) (xs : List (Job W)) → Member k xs → (k.number ≡ n → ⊥) → Member k (without n xs)
  without_from n k [] (i, l, e) other = absurd (omega arith)
  without_from n k (x ∷ xs) m other =
      elim (cases_eq x.number n) [
        | inl e ↦ subst (Member k) (sym (without_head n x xs e)) (elim (member_cases k x xs m) [
          | inl q ↦ without_from n k xs q other
          | inr z ↦ absurd (other (sym (ap (λ y. y.number) z) ∙ e))
        ])
        | inr ne ↦ subst (Member k) (sym (without_other n x xs ne)) (elim (member_cases k x xs m) [
          | inl q ↦ member_later k x (without n xs) (without_from n k xs q other)
          | inr z ↦ (0, omega arith, z)
        ])
      ]

  reweighed_head : (n : ℕ) (w : W) (x : Job W) (xs : List (Job W)) → x.number ≡ n → reweighed n w (x ∷ xs) ≡ with_weight x w ∷ reweighed n w xs
  reweighed_head n w x xs e = ap (λ y. y ∷ reweighed n w xs) (cond-true (eqb x.number n) (with_weight x w) x (eq-eqb x.number n e))

  reweighed_other : (n : ℕ) (w : W) (x : Job W) (xs : List (Job W)) → (x.number ≡ n → ⊥) → reweighed n w (x ∷ xs) ≡ x ∷ reweighed n w xs
  reweighed_other n w x xs ne = ap (λ y. y ∷ reweighed n w xs) (cond-false (eqb x.number n) (with_weight x w) x (ne_eqb x.number n ne))

  pub reweighed_to : (n : ℕ) (w : W) (k : Job W) (xs : List (Job W)) → Member k (reweighed n w xs) →
      (Member k xs × (k.number ≡ n → ⊥)) ⊎ ((x : Job W) × Member x xs × (x.number ≡ n) × (with_weight x w ≡ k))
  reweighed_to n w k [] (i, l, e) = absurd (omega arith)
  reweighed_to n w k (x ∷ xs) (zero, l, z) =
      elim (cases_eq x.number n) [
        | inl e ↦ inr (x, (0, omega arith, refl), e, ap (λ ys. get_or ys 0 k) (sym (reweighed_head n w x xs e)) ∙ z)
        | inr ne ↦ (let y : x ≡ k = ap (λ ys. get_or ys 0 k) (sym (reweighed_other n w x xs ne)) ∙ z in inl ((0, omega arith, y), λ s. ne (ap (λ v. v.number) y ∙ s)))
      ]
  reweighed_to n w k (x ∷ xs) (suc i, l, z) =
      elim (reweighed_to n w k xs (i, omega arith, z)) [
        | inl h ↦ inl (member_later k x xs h.0, h.1)
        | inr h ↦ inr (h.0, member_later h.0 x xs h.1, h.2, h.3)
      ]

  pub reweighed_old : (n : ℕ) (w : W) (k : Job W) (xs : List (Job W)) → Member k xs → (k.number ≡ n → ⊥) → Member k (reweighed n w xs)
  reweighed_old n w k [] (i, l, e) other = absurd (omega arith)
  reweighed_old n w k (x ∷ xs) (zero, l, z) other = subst (Member k) (sym (reweighed_other n w x xs (λ s. other (sym (ap (λ y. y.number) z) ∙ s)))) (0, omega arith, z)
  reweighed_old n w k (x ∷ xs) (suc i, l, z) other = member_later k (cond (eqb x.number n) (with_weight x w) x) (reweighed n w xs) (reweighed_old n w k xs (i, omega arith, z) other)

  pub reweighed_new : (n : ℕ) (w : W) (k : Job W) (xs : List (Job W)) → Member k xs → k.number ≡ n → Member (with_weight k w) (reweighed n w xs)
  reweighed_new n w k [] (i, l, e) is = absurd (omega arith)
  reweighed_new n w k (x ∷ xs) (zero, l, z) is = subst (Member (with_weight k w)) (sym (reweighed_head n w x xs (ap (λ y. y.number) z ∙ is))) (0, omega arith, ap (λ y. with_weight y w) z)
  reweighed_new n w k (x ∷ xs) (suc i, l, z) is = member_later (with_weight k w) (cond (eqb x.number n) (with_weight x w) x) (reweighed n w xs) (reweighed_new n w k xs (i, omega arith, z) is)

  pub reweighed_length : (n : ℕ) (w : W) (xs : List (Job W)) → length (reweighed n w xs) ≡ length xs
  reweighed_length n w [] = refl
  reweighed_length n w (x ∷ xs) = ap suc (reweighed_length n w xs)

  -- numbers apart
  tail_apart : (x : Job W) (xs : List (Job W)) → JobsApart (x ∷ xs) → JobsApart xs
  tail_apart x xs apart d i j l m e = let z = apart d (suc i) (suc j) (omega arith) (omega arith) e in omega arith

  head_apart : (x : Job W) (xs : List (Job W)) → JobsApart (x ∷ xs) → (k : Job W) → Member k xs → k.number ≡ x.number → ⊥
  head_apart x xs apart k m e =
      let z : 0 ≡ suc m.0 = apart k 0 (suc m.0) (omega arith) (let l = m.1 in omega arith) (sym e ∙ sym (ap (λ y. y.number) m.2)) in
      omega arith

  number_at : (rows : List Row) (ws : List W) (i : ℕ) (d : Job W) → i < length (jobs_of rows ws) → (i < length rows) × ((get_or (jobs_of rows ws) i d).number ≡ (row rows i).number)
  number_at [] ws i d l = absurd (omega arith)
  number_at (r ∷ rs) [] i d l = absurd (omega arith)
  number_at (r ∷ rs) (w ∷ ws) zero d l = (omega arith, refl)
  number_at (r ∷ rs) (w ∷ ws) (suc i) d l = let ih = number_at rs ws i d (omega arith) in ((let z = ih.0 in omega arith), ih.1)

  pub rows_apart : (rows : List Row) (ws : List W) → Apart rows → JobsApart (jobs_of rows ws)
  rows_apart rows ws apart d i j l m e =
      let a = number_at rows ws i d l in
      let b = number_at rows ws j d m in
      apart i j a.0 b.0 (sym a.1 ∙ (e ∙ b.1))

  pub jobs_apart : (rows : List Row) (store : List W) → Apart rows → JobsApart (jobs_in rows store)
  jobs_apart rows store = rows_apart rows (take (length rows) store)

  -- two jobs of the one list with one number would leave too few for the jobs of the other
  no_two : (xs ys : List (Job W)) → JobsApart ys → SameJobs xs ys → (d : Job W) (i j : ℕ) → i < j → j < length xs → (get_or xs i d).number ≡ (get_or xs j d).number → ⊥
  no_two xs ys apart s d i j h l e =
      let c = counting.inject (length ys) (λ _. true) (length xs) (counting.without (λ _. true) j) (λ a b. (a < length ys) × ((get_or ys a d).number ≡ (get_or xs b d).number))
      (λ a al _.
      let m = s.2 (get_or ys a d) (member_at ys a d al) in
      let n : (get_or ys a d).number ≡ (get_or xs m.0 d).number = sym (ap (λ y. y.number) (get_or_default xs m.0 d (get_or ys a d) m.1 ∙ m.2)) in
      elim (cases_eq m.0 j) [
        | inl z ↦ (i, omega arith, counting.without_true (λ _. true) j i refl (λ y. omega arith), (al, n ∙ (ap (λ y. (get_or xs y d).number) z ∙ sym e)))
        | inr z ↦ (m.0, m.1, counting.without_true (λ _. true) j m.0 refl z, (al, n))
      ])
      (λ a b k x y. apart d a b x.0 y.0 (x.1 ∙ sym y.1)) in
      let w = counting.count_without (λ _. true) j (length xs) l refl in
      let p = count_all (length ys) in
      let q = count_all (length xs) in
      let z = s.0 in
      omega arith

  pub same_apart : (xs ys : List (Job W)) → JobsApart ys → SameJobs xs ys → JobsApart xs
  same_apart xs ys apart s d i j l m e =
      elim (cases_order i j) [
        | inl y ↦ y
        | inr y ↦ elim y [
          | inl h ↦ absurd (no_two xs ys apart s d i j h m e)
          | inr h ↦ absurd (no_two xs ys apart s d j i h l (sym e))
        ]
      ]

  -- the named job, taken out of its place or put back with another weight
  without_none : (n : ℕ) (xs : List (Job W)) → ((k : Job W) → Member k xs → k.number ≡ n → ⊥) → without n xs ≡ xs
  without_none n [] none = refl
  without_none n (x ∷ xs) none = without_other n x xs (none x (0, omega arith, refl)) ∙ ap (λ ys. x ∷ ys) (without_none n xs (λ k m. none k (member_later k x xs m)))

  pub without_removed : (xs : List (Job W)) (n p : ℕ) → p < length xs → JobsApart xs → StandsAt n p xs → without n xs ≡ remove xs p
  without_removed [] n p l apart here = absurd (omega arith)
  without_removed (x ∷ xs) n zero l apart here = without_head n x xs (here x) ∙ without_none n xs (λ k m e. head_apart x xs apart k m (e ∙ sym (here x)))
  without_removed (x ∷ xs) n (suc p) l apart here =
      without_other n x xs (λ e. head_apart x xs apart (get_or xs p x) (member_at xs p x (omega arith)) (here x ∙ sym e))
      ∙ ap (λ ys. x ∷ ys) (without_removed xs n p (omega arith) (tail_apart x xs apart) here)

  reweighed_none : (n : ℕ) (w : W) (xs : List (Job W)) → ((k : Job W) → Member k xs → k.number ≡ n → ⊥) → reweighed n w xs ≡ xs
  reweighed_none n w [] none = refl
  reweighed_none n w (x ∷ xs) none = reweighed_other n w x xs (none x (0, omega arith, refl)) ∙ ap (λ ys. x ∷ ys) (reweighed_none n w xs (λ k m. none k (member_later k x xs m)))

  pub reweighed_inserted : (xs : List (Job W)) (n p : ℕ) → p < length xs → JobsApart xs → StandsAt n p xs → (d : Job W) (w : W) → reweighed n w xs ≡ insert (remove xs p) p (with_weight (get_or xs p d) w)
  reweighed_inserted [] n p l apart here d w = absurd (omega arith)
  reweighed_inserted (x ∷ xs) n zero l apart here d w =
      reweighed_head n w x xs (here x) ∙ ap (λ ys. with_weight x w ∷ ys) (reweighed_none n w xs (λ k m e. head_apart x xs apart k m (e ∙ sym (here x))))
  reweighed_inserted (x ∷ xs) n (suc p) l apart here d w =
      reweighed_other n w x xs (λ e. head_apart x xs apart (get_or xs p x) (member_at xs p x (omega arith)) (here x ∙ sym e))
      ∙ ap (λ ys. x ∷ ys) (reweighed_inserted xs n p (omega arith) (tail_apart x xs apart) here d w)

  pub offer_jobs : (xs : List (Job W)) (j : Job W) (p : ℕ) → p ≤ length xs → SameJobs (xs ++ (j ∷ [])) (insert xs p j)
  offer_jobs xs j p l = (
    length_push xs j ∙ sym (length-insert xs p j l),
    (λ k m. elim (pushed_cases k j xs m) [ inl q ↦ inserted_old k j p xs q | inr e ↦ subst (λ y. Member y (insert xs p j)) e (inserted_new j p xs) ]),
    (λ k m. elim (inserted_cases k j p xs m) [ inl q ↦ pushed_old k j xs q | inr e ↦ subst (λ y. Member y (xs ++ (j ∷ []))) e (pushed_new j xs) ]),
  )

  pub withdraw_jobs : (xs : List (Job W)) (n p : ℕ) → p < length xs → JobsApart xs → StandsAt n p xs → SameJobs (without n xs) (remove xs p)
  withdraw_jobs xs n p l apart here = subst (λ ys. SameJobs ys (remove xs p)) (sym (without_removed xs n p l apart here)) (same_refl (remove xs p))

  pub reweigh_jobs : (xs : List (Job W)) (n p : ℕ) → p < length xs → JobsApart xs → StandsAt n p xs → (d : Job W) (w : W) (q : ℕ) → q ≤ length (remove xs p) →
      SameJobs (reweighed n w xs) (insert (remove xs p) q (with_weight (get_or xs p d) w))
  reweigh_jobs xs n p l apart here d w q ql =
      let rest = remove xs p in
      let j = with_weight (get_or xs p d) w in
      let z = length-remove xs p l in
      subst (λ ys. SameJobs ys (insert rest q j)) (sym (reweighed_inserted xs n p l apart here d w))
      (same_trans (insert rest p j) (rest ++ (j ∷ [])) (insert rest q j) (same_sym (rest ++ (j ∷ [])) (insert rest p j) (offer_jobs rest j p (omega arith))) (offer_jobs rest j q ql))

  find : (n : ℕ) (xs : List (Job W)) → ((k : Job W) × Member k xs × (k.number ≡ n)) ⊎ ((k : Job W) → Member k xs → k.number ≡ n → ⊥)
  find n [] = inr (λ k m e. let l = m.1 in omega arith)
  find n (x ∷ xs) =
      elim (cases_eq x.number n) [
        | inl e ↦ inl (x, (0, omega arith, refl), e)
        | inr ne ↦ elim (find n xs) [
          | inl f ↦ inl (f.0, member_later f.0 x xs f.1, f.2)
          | inr none ↦ inr (λ k m e. elim (member_cases k x xs m) [ inl q ↦ none k q e | inr z ↦ ne (ap (λ y. y.number) z ∙ e) ])
        ]
      ]

  without_length : (n : ℕ) (xs : List (Job W)) → JobsApart xs → (k : Job W) → Member k xs → k.number ≡ n → suc (length (without n xs)) ≡ length xs
  without_length n xs apart k (i, l, z) e =
      let h = ap length (without_removed xs n i l apart (λ d. ap (λ y. y.number) (get_or_default xs i d k l ∙ z) ∙ e)) in
      let r = length-remove xs i l in
      omega arith

  -- a call does the same to two tables with the same jobs
  pub after_same : (c : Call W) (xs ys : List (Job W)) → JobsApart ys → SameJobs xs ys → SameJobs (table_after c xs) (table_after c ys)
  after_same (Offer j) xs ys apart s = (length_push xs j ∙ (ap (λ n. n + 1) s.0 ∙ sym (length_push ys j)), go xs ys s.1, go ys xs s.2)
    where
      go : (us vs : List (Job W)) → ((k : Job W) → Member k us → Member k vs) → (k : Job W) → Member k (us ++ (j ∷ [])) → Member k (vs ++ (j ∷ []))
      go us vs to k m = elim (pushed_cases k j us m) [ inl q ↦ pushed_old k j vs (to k q) | inr e ↦ subst (λ y. Member y (vs ++ (j ∷ []))) e (pushed_new j vs) ]
  after_same (Withdraw n) xs ys apart s = (lengths, go xs ys s.1, go ys xs s.2)
    where
      go : (us vs : List (Job W)) → ((k : Job W) → Member k us → Member k vs) → (k : Job W) → Member k (without n us) → Member k (without n vs)
      go us vs to k m = let w = without_to n k us m in without_from n k vs (to k w.0) w.1

      lengths : length (without n xs) ≡ length (without n ys)
      lengths =
          let z = s.0 in
          elim (find n ys) [
            | inl f ↦
                (let a = without_length n xs (same_apart xs ys apart s) f.0 (s.2 f.0 f.1) f.2 in
                let b = without_length n ys apart f.0 f.1 f.2 in
                omega arith)
            | inr none ↦
                (let a = ap length (without_none n xs (λ k m. none k (s.1 k m))) in
                let b = ap length (without_none n ys none) in
                omega arith)
          ]
  after_same (Reweigh n w) xs ys apart s = (reweighed_length n w xs ∙ (s.0 ∙ sym (reweighed_length n w ys)), go xs ys s.1, go ys xs s.2)
    where
      go : (us vs : List (Job W)) → ((k : Job W) → Member k us → Member k vs) → (k : Job W) → Member k (reweighed n w us) → Member k (reweighed n w vs)
      go us vs to k m =
          elim (reweighed_to n w k us m) [
            | inl q ↦ reweighed_old n w k vs (to k q.0) q.1
            | inr q ↦ subst (λ y. Member y (reweighed n w vs)) q.3 (reweighed_new n w q.0 vs (to q.0 q.1) q.2)
          ]
