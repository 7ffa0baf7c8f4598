-- One other at most: the rows before and after are compared job by job, and the flags of at most one pair differ. Assumes nothing.
--   Compared ..    job m of those that both lists have stands at fb m before and at fa m after
use Rattle.std.proofs.Common.{◌≡◌, ℕ, suc, ◌-◌, ◌<◌, ◌≤◌, max, Bool, true, false, eqb, ◌⊎◌, List, length, Some, None, sym, refl, ap, ◌∙◌, subst, inl, inr, arith}
use Rattle.std.proofs.lemmas.Bool.{cases_lt, cases_eq, both_ways, eqb-true, eqb-false}
use Rattle.std.proofs.lemmas.Bool.Decides.{nat_tests}
use Rattle.jobs.specs.declared.terms.Row.{Row}
use Rattle.jobs.specs.declared.terms.Standing.{Standing}
use Rattle.jobs.specs.declared.terms.Standing.TheVariants as standings
use Rattle.dealing.specs.Insertion.{Inserted, shift}
use Rattle.dealing.proofs.Counting.{any_below}
use Rattle.dealing.proofs.Insertion.{insertion_changes_one, move_changes_one}
use Rattle.placing.specs.Placing.{row, SameJob, Apart}
use Rattle.placing.specs.Plan.{KeptRule, Stands}
use Rattle.placing.specs.Promise.{Changed}
use Rattle.placing.specs.Change.{OneMore, AtMostOne, Answered, OfferChangesOne, OfferOnlyDrops, WithdrawalChangesOne, WithdrawalOnlyRevives, RerankingChangesOne, AnswerAlone}
use Rattle.placing.specs.Index.{board_of, table_of, kept_of}
use Rattle.placing.proofs.Index.{Ends, greedy, ends_by, ends_more_slots}

pub record Compared (before after : List Row) (named k : ℕ) (fb fa : ℕ → ℕ) : Type 0 where
  pub in_b : (m : ℕ) → m < k → fb m < length before
  pub in_a : (m : ℕ) → m < k → fa m < length after
  pub same : (m : ℕ) → m < k → (row before (fb m)).number ≡ (row after (fa m)).number
  pub other : (m : ℕ) → m < k → (row before (fb m)).number ≡ named → ⊥
  pub from_b : (i : ℕ) → i < length before → ((row before i).number ≡ named → ⊥) → (m : ℕ) × (m < k) × (fb m ≡ i)
  pub from_a : (i : ℕ) → i < length after → ((row after i).number ≡ named → ⊥) → (m : ℕ) × (m < k) × (fa m ≡ i)
  pub apart_b : Apart before
  pub apart_a : Apart after
  pub once : (m l : ℕ) → m < k → l < k → (kept_of after (fa m) ≡ kept_of before (fb m) → ⊥) → (kept_of after (fa l) ≡ kept_of before (fb l) → ⊥) → m ≡ l

differ : Bool → Bool → Bool
differ true true = false
differ true false = true
differ false true = true
differ false false = false

differ_yes : (x y : Bool) → differ x y ≡ true → x ≡ y → ⊥
unfolding differ
differ_yes true true e z = both_ways false refl e
differ_yes true false e z = both_ways true z refl
differ_yes false true e z = both_ways false refl z
differ_yes false false e z = both_ways false refl e

differ_no : (x y : Bool) → differ x y ≡ false → x ≡ y
unfolding differ
differ_no true true e = refl
differ_no true false e = absurd (both_ways true e refl)
differ_no false true e = absurd (both_ways true e refl)
differ_no false false e = refl

-- the standing of a row
abbrev standing_of : Bool → Standing
standing_of true = standings.Kept
standing_of false = standings.Dropped

stands_as : (rows : List Row) (i n : ℕ) → i < length rows → (row rows i).number ≡ n → (v : Bool) → kept_of rows i ≡ v → Stands rows n (standing_of v)
stands_as rows i n l e true k = (i, l, e, k)
stands_as rows i n l e false k = (i, l, e, k)

module _ (before after : List Row) (named k : ℕ) (fb fa : ℕ → ℕ) (c : Compared before after named k fb fa) where
  numbered : ℕ → ℕ → Bool
  numbered n m = eqb (row before (fb m)).number n

  -- a number that changes is that of a job whose flag changes
  from_changed : (n : ℕ) → (n ≡ named → ⊥) → Changed before after n → (m : ℕ) × (m < k) × ((row before (fb m)).number ≡ n) × (kept_of after (fa m) ≡ kept_of before (fb m) → ⊥)
  unfolding numbered
  from_changed n ne ch =
      elim (any_below (numbered n) k) [
        | inl w ↦
            (let e = eqb-true (row before (fb w.0)).number n w.2 in (
              w.0,
              w.1,
              e,
              λ z. ch (standing_of (kept_of before (fb w.0))) (standing_of (kept_of before (fb w.0)))
                  (stands_as before (fb w.0) n (c.in_b w.0 w.1) e (kept_of before (fb w.0)) refl)
                  (stands_as after (fa w.0) n (c.in_a w.0 w.1) (sym (c.same w.0 w.1) ∙ e) (kept_of before (fb w.0)) z)
                  refl,
            ))
        | inr w ↦ absurd (ch standings.Absent standings.Absent
            (λ i l e.
            let v = c.from_b i l (λ z. ne (sym e ∙ z)) in
            eqb-false (row before (fb v.0)).number n (w v.0 v.1) (ap (λ x. (row before x).number) v.2 ∙ e))
            (λ i l e.
            let v = c.from_a i l (λ z. ne (sym e ∙ z)) in
            eqb-false (row before (fb v.0)).number n (w v.0 v.1) (c.same v.0 v.1 ∙ (ap (λ x. (row after x).number) v.2 ∙ e)))
            refl)
      ]

  at_most : AtMostOne before after named
  at_most a b na nb ca cb =
      let v = from_changed a na ca in
      let w = from_changed b nb cb in
      let z = c.once v.0 w.0 v.1 w.1 v.3 w.3 in
      sym v.2 ∙ (ap (λ m. (row before (fb m)).number) z ∙ w.2)

  -- and the number of such a job changes
  changed_from : (m : ℕ) → m < k → (kept_of after (fa m) ≡ kept_of before (fb m) → ⊥) → Changed before after (row before (fb m)).number
  changed_from m l h = go
    where
      n : ℕ
      n = (row before (fb m)).number

      flag_b : (i : ℕ) → i < length before → (row before i).number ≡ (row before (fb m)).number → kept_of before i ≡ kept_of before (fb m)
      flag_b i il e = ap (kept_of before) (c.apart_b i (fb m) il (c.in_b m l) e)

      flag_a : (i : ℕ) → i < length after → (row after i).number ≡ (row before (fb m)).number → kept_of after i ≡ kept_of after (fa m)
      flag_a i il e = ap (kept_of after) (c.apart_a i (fa m) il (c.in_a m l) (e ∙ c.same m l))

      go : (a b : Standing) → Stands before (row before (fb m)).number a → Stands after (row before (fb m)).number b → a ≡ b → ⊥
      go standings.Kept standings.Kept x y e = h (sym (flag_a y.0 y.1 y.2) ∙ (y.3 ∙ (sym x.3 ∙ flag_b x.0 x.1 x.2)))
      go standings.Dropped standings.Dropped x y e = h (sym (flag_a y.0 y.1 y.2) ∙ (y.3 ∙ (sym x.3 ∙ flag_b x.0 x.1 x.2)))
      go standings.Absent standings.Absent x y e = x (fb m) (c.in_b m l) refl
      go standings.Kept standings.Dropped x y e = let z : ◌≡◌ {A = ℕ} 0 1 = cc in omega arith
      go standings.Kept standings.Absent x y e = let z : ◌≡◌ {A = ℕ} 0 1 = cc in omega arith
      go standings.Dropped standings.Kept x y e = let z : ◌≡◌ {A = ℕ} 0 1 = cc in omega arith
      go standings.Dropped standings.Absent x y e = let z : ◌≡◌ {A = ℕ} 0 1 = cc in omega arith
      go standings.Absent standings.Kept x y e = let z : ◌≡◌ {A = ℕ} 0 1 = cc in omega arith
      go standings.Absent standings.Dropped x y e = let z : ◌≡◌ {A = ℕ} 0 1 = cc in omega arith

  -- so there is an answer
  answered : (v : Bool) → (v ≡ true → Stands after named standings.Kept) → (Stands after named standings.Kept → v ≡ true) → Answered before after named
  answered v to fro =
      elim (any_below (λ m. differ (kept_of after (fa m)) (kept_of before (fb m))) k) [
        | inl w ↦
            (let h = differ_yes (kept_of after (fa w.0)) (kept_of before (fb w.0)) w.2 in
            let ch = changed_from w.0 w.1 h in (
              (v, Some (row before (fb w.0)).number),
              (to, fro, c.other w.0 w.1, ch, λ n nn no cn. no (at_most n (row before (fb w.0)).number nn (c.other w.0 w.1) cn ch)),
            ))
        | inr w ↦ (
          (v, None),
          (to, fro, λ n nn cn. let u = from_changed n nn cn in u.3 (differ_no (kept_of after (fa u.0)) (kept_of before (fb u.0)) (w u.0 u.1))),
        )
      ]

-- one more row, over indices
module _ (fewer more : List Row) (p : ℕ) (o : OneMore fewer p more) where
  shift_cases : (m : ℕ) → ((m < p) × (shift p m ≡ m)) ⊎ ((p ≤ m) × (shift p m ≡ suc m))
  shift_cases m = elim (cases_lt m p) [ inl h ↦ inl (h, grind (arith, nat_tests)) | inr h ↦ inr (h, grind (arith, nat_tests)) ]

  shifted : (m : ℕ) → m < length fewer → (shift p m < length more) × (shift p m ≡ p → ⊥) × SameJob (row fewer m) (row more (shift p m))
  shifted m l =
      let z = o.size in
      elim (shift_cases m) [
        | inl w ↦ (let e = w.1 in (omega arith, (λ x. omega arith), subst (λ x. SameJob (row fewer m) (row more x)) (sym w.1) (o.front m w.0)))
        | inr w ↦ (let e = w.1 in (omega arith, (λ x. omega arith), subst (λ x. SameJob (row fewer m) (row more x)) (sym w.1) (o.back m w.0 l)))
      ]

  shift_once : (i j : ℕ) → shift p i ≡ shift p j → i ≡ j
  shift_once i j e = let a = shift_cases i in let b = shift_cases j in omega arith

  unshift : (i : ℕ) → i < length more → (i ≡ p → ⊥) → (m : ℕ) × (m < length fewer) × (shift p m ≡ i)
  unshift i l ne =
      let z = o.size in
      let q = o.within in
      elim (cases_lt i p) [
        | inl h ↦ (let a = shift_cases i in (i, omega arith, omega arith))
        | inr h ↦ (let a = shift_cases (i - 1) in (i - 1, omega arith, omega arith))
      ]

  insertion : Inserted (table_of fewer) p (row more p).ready (row more p).deadline (table_of more)
  insertion = record {
    size = o.size;
    front = λ j l. let s = o.front j l in (sym s.1, sym s.2);
    here = (refl, refl);
    back = λ j l m. let s = o.back j l m in (sym s.1, sym s.2);
  }

  fewer_apart : Apart more → Apart fewer
  fewer_apart ap-more i j l m e =
      let a = shifted i l in
      let b = shifted j m in
      shift_once i j (ap-more (shift p i) (shift p j) a.0 b.0 (sym a.2.0 ∙ (e ∙ b.2.0)))

  not_named : Apart more → (m : ℕ) → m < length fewer → (row more (shift p m)).number ≡ (row more p).number → ⊥
  not_named ap-more m l e = let a = shifted m l in let z = o.size in let q = o.within in a.1 (ap-more (shift p m) p a.0 (omega arith) e)

  named_not : (i : ℕ) → ((row more i).number ≡ (row more p).number → ⊥) → i ≡ p → ⊥
  named_not i h e = h (ap (λ x. (row more x).number) e)

-- slots enough for both
both_ends : (a b : List Row) → (n : ℕ) × Ends n a × Ends n b
both_ends a b =
    let v = ends_by a in
    let w = ends_by b in
    (max v.0 w.0, ends_more_slots v.0 (max v.0 w.0) a v.1 (omega arith), ends_more_slots w.0 (max v.0 w.0) b w.1 (omega arith))

module _ (mask : ℕ → ℕ) (fewer more : List Row) (p : ℕ) (o : OneMore fewer p more) (ap-more : Apart more) (df : KeptRule mask fewer) (dm : KeptRule mask more) where
  once_more : (m l : ℕ) → m < length fewer → l < length fewer → (kept_of more (shift p m) ≡ kept_of fewer m → ⊥) → (kept_of more (shift p l) ≡ kept_of fewer l → ⊥) → m ≡ l
  once_more =
      let e = both_ends fewer more in
      (insertion_changes_one (board_of mask e.0) (table_of fewer) (kept_of fewer) (greedy mask e.0 fewer e.1 df) (row more p).ready (row more p).deadline p (table_of more) (kept_of more)
      o.within (insertion fewer more p o) (greedy mask e.0 more e.2 dm)).1

  offered : Compared fewer more (row more p).number (length fewer) (λ m. m) (shift p)
  offered = record {
    in_b = λ m l. l;
    in_a = λ m l. (shifted fewer more p o m l).0;
    same = λ m l. (shifted fewer more p o m l).2.0;
    other = λ m l e. not_named fewer more p o ap-more m l (sym (shifted fewer more p o m l).2.0 ∙ e);
    from_b = λ i l h. (i, l, refl);
    from_a = λ i l h. unshift fewer more p o i l (named_not fewer more p o i h);
    apart_b = fewer_apart fewer more p o ap-more;
    apart_a = ap-more;
    once = once_more;
  }

  withdrawn : Compared more fewer (row more p).number (length fewer) (shift p) (λ m. m)
  withdrawn = record {
    in_b = λ m l. (shifted fewer more p o m l).0;
    in_a = λ m l. l;
    same = λ m l. sym (shifted fewer more p o m l).2.0;
    other = not_named fewer more p o ap-more;
    from_b = λ i l h. unshift fewer more p o i l (named_not fewer more p o i h);
    from_a = λ i l h. (i, l, refl);
    apart_b = ap-more;
    apart_a = fewer_apart fewer more p o ap-more;
    once = λ m l mk lk x y. once_more m l mk lk (λ e. x (sym e)) (λ e. y (sym e));
  }

-- a kept row with distinct numbers: the flag is the standing
kept_to : (rows : List Row) (p : ℕ) → p < length rows → kept_of rows p ≡ true → Stands rows (row rows p).number standings.Kept
kept_to rows p l k = (p, l, refl, k)

kept_fro : (rows : List Row) → Apart rows → (p : ℕ) → p < length rows → Stands rows (row rows p).number standings.Kept → kept_of rows p ≡ true
kept_fro rows apart p l s = ap (kept_of rows) (sym (apart s.0 p s.1 l s.2)) ∙ s.3

pub offer_changes_one : OfferChangesOne
offer_changes_one mask before after p o apart db da =
    let c = offered mask before after p o apart db da in
    let z = o.size in
    let q = o.within in
    let l : p < length after = omega arith in (
      at_most before after (row after p).number (length before) (λ m. m) (shift p) c,
      answered before after (row after p).number (length before) (λ m. m) (shift p) c (kept_of after p) (kept_to after p l) (kept_fro after apart p l),
    )

pub withdrawal_changes_one : WithdrawalChangesOne
withdrawal_changes_one mask before after p o apart db da =
    let c = withdrawn mask after before p o apart da db in (
      at_most before after (row before p).number (length after) (shift p) (λ m. m) c,
      answered before after (row before p).number (length after) (shift p) (λ m. m) c false (λ e. absurd (both_ways false refl e))
          (λ s. absurd (let a = shifted after before p o s.0 s.1 in not_named after before p o apart s.0 s.1 (sym a.2.0 ∙ s.2))),
    )

both_same : (k l : Bool) → (k ≡ true → l ≡ true) → (l ≡ true → k ≡ true) → k ≡ l
both_same true l to fro = sym (to refl)
both_same false true to fro = fro refl
both_same false false to fro = refl

pub answer_alone : AnswerAlone
answer_alone before after named (k, None) (l, None) x y = let e = both_same k l (λ z. y.1 (x.0 z)) (λ z. x.1 (y.0 z)) in λ i. (e i, None)
answer_alone before after named (k, None) (l, Some o) x y = absurd (x.2 o y.2 y.3)
answer_alone before after named (k, Some o) (l, None) x y = absurd (y.2 o x.2 x.3)
answer_alone before after named (k, Some o) (l, Some p) x y =
    let e = both_same k l (λ z. y.1 (x.0 z)) (λ z. x.1 (y.0 z)) in
    elim (cases_eq o p) [
      | inl z ↦ (λ i. (e i, Some (z i)))
      | inr z ↦ absurd (y.4 o x.2 z x.3)
    ]

module _ (mask : ℕ → ℕ) (fewer more : List Row) (p : ℕ) (o : OneMore fewer p more) (ap-more : Apart more) (df : KeptRule mask fewer) (dm : KeptRule mask more) where
  -- whose flag changes is kept without the one more, and dropped with it, which is kept
  gives_way : (m : ℕ) → m < length fewer → (kept_of more (shift p m) ≡ kept_of fewer m → ⊥) → (kept_of fewer m ≡ true) × (kept_of more (shift p m) ≡ false) × (kept_of more p ≡ true)
  gives_way m l h =
      let e = both_ends fewer more in
      let w = (insertion_changes_one (board_of mask e.0) (table_of fewer) (kept_of fewer) (greedy mask e.0 fewer e.1 df) (row more p).ready (row more p).deadline p (table_of more) (kept_of more)
      o.within (insertion fewer more p o) (greedy mask e.0 more e.2 dm)).0 m l h in
      let w0 = w.0 in
      let z : shift p m ≡ suc m = (let c = shift_cases fewer more p o m in omega arith) in
      (w.1, ap (kept_of more) z ∙ w.2, w.3)

pub offer_only_drops : OfferOnlyDrops
offer_only_drops mask before after p o apart db da n ne ch =
    let c = offered mask before after p o apart db da in
    let u = from_changed before after (row after p).number (length before) (λ m. m) (shift p) c n ne ch in
    let w = gives_way mask before after p o apart db da u.0 u.1 u.3 in
    let s = shifted before after p o u.0 u.1 in
    let z = o.size in
    let q = o.within in
    ((u.0, u.1, u.2, w.0), (shift p u.0, s.0, sym s.2.0 ∙ u.2, w.1), (p, omega arith, refl, w.2))

pub withdrawal_only_revives : WithdrawalOnlyRevives
withdrawal_only_revives mask before after p o apart db da n ne ch =
    let c = withdrawn mask after before p o apart da db in
    let u = from_changed before after (row before p).number (length after) (shift p) (λ m. m) c n ne ch in
    let w = gives_way mask after before p o apart da db u.0 u.1 (λ e. u.3 (sym e)) in
    let s = shifted after before p o u.0 u.1 in
    let z = o.size in
    let q = o.within in
    ((shift p u.0, s.0, u.2, w.1), (u.0, u.1, s.2.0 ∙ u.2, w.0), (p, omega arith, refl, w.2))

module _ (mask : ℕ → ℕ) (before rest after : List Row) (p q : ℕ) (ob : OneMore rest p before) (oa : OneMore rest q after) (moved : SameJob (row before p) (row after q))
    (apart : Apart before) (db : KeptRule mask before) (da : KeptRule mask after) where
  -- the numbers after are apart too
  after_apart : Apart after
  after_apart i j l m e =
      let rest-apart = fewer_apart rest before p ob apart in
      elim (cases_eq i q) [
        | inl x ↦ elim (cases_eq j q) [
          | inl y ↦ x ∙ sym y
          | inr y ↦
              (let w = unshift rest after q oa j m y in
              absurd (clash w.0 w.1 (ap (λ z. (row after z).number) w.2 ∙ (sym e ∙ ap (λ z. (row after z).number) x))))
        ]
        | inr x ↦ elim (cases_eq j q) [
          | inl y ↦
              (let w = unshift rest after q oa i l x in
              absurd (clash w.0 w.1 (ap (λ z. (row after z).number) w.2 ∙ (e ∙ ap (λ z. (row after z).number) y))))
          | inr y ↦
              (let v = unshift rest after q oa i l x in
              let w = unshift rest after q oa j m y in
              let a = (shifted rest after q oa v.0 v.1).2.0 in
              let b = (shifted rest after q oa w.0 w.1).2.0 in
              let n : v.0 ≡ w.0 = rest-apart v.0 w.0 v.1 w.1
              (a ∙ (ap (λ z. (row after z).number) v.2 ∙ (e ∙ (sym (ap (λ z. (row after z).number) w.2) ∙ sym b)))) in
              sym v.2 ∙ (ap (shift q) n ∙ w.2))
        ]
      ]
    where
      clash : (m : ℕ) → m < length rest → (row after (shift q m)).number ≡ (row after q).number → ⊥
      clash m l e =
          not_named rest before p ob apart m l
          (sym (shifted rest before p ob m l).2.0 ∙ ((shifted rest after q oa m l).2.0 ∙ (e ∙ sym moved.0)))

  here : Inserted (table_of rest) q (row before p).ready (row before p).deadline (table_of after)
  here =
      subst (λ x. Inserted (table_of rest) q x (row before p).deadline (table_of after)) (sym moved.1)
      (subst (λ y. Inserted (table_of rest) q (row after q).ready y (table_of after)) (sym moved.2) (insertion rest after q oa))

  reranked : Compared before after (row before p).number (length rest) (shift p) (shift q)
  reranked = record {
    in_b = λ m l. (shifted rest before p ob m l).0;
    in_a = λ m l. (shifted rest after q oa m l).0;
    same = λ m l. sym (shifted rest before p ob m l).2.0 ∙ (shifted rest after q oa m l).2.0;
    other = not_named rest before p ob apart;
    from_b = λ i l h. unshift rest before p ob i l (named_not rest before p ob i h);
    from_a = λ i l h. unshift rest after q oa i l (named_not rest after q oa i (λ e. h (e ∙ sym moved.0)));
    apart_b = apart;
    apart_a = after_apart;
    once =
        let e = both_ends before after in
        move_changes_one (board_of mask e.0) (table_of rest) (row before p).ready (row before p).deadline p q (table_of before) (table_of after) (kept_of before) (kept_of after)
        ob.within oa.within (insertion rest before p ob) (greedy mask e.0 before e.1 db) here (greedy mask e.0 after e.2 da);
  }

  reranked_both : AtMostOne before after (row before p).number × Answered before after (row before p).number
  reranked_both =
      let z = oa.size in
      let w = oa.within in
      let l : q < length after = omega arith in (
        at_most before after (row before p).number (length rest) (shift p) (shift q) reranked,
        answered before after (row before p).number (length rest) (shift p) (shift q) reranked (kept_of after q)
            (λ k. subst (λ x. Stands after x standings.Kept) (sym moved.0) (kept_to after q l k))
            (λ s. kept_fro after after_apart q l (subst (λ x. Stands after x standings.Kept) moved.0 s)),
      )

pub reranking_changes_one : RerankingChangesOne
reranking_changes_one mask before rest after p q ob oa moved apart db da = reranked_both mask before rest after p q ob oa moved apart db da
