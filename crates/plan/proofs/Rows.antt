-- Numbers stay distinct where a row is seated, inserted or removed, and each row keeps its window and its number. Assumes nothing.
use Rattle.std.proofs.Common.{◌≡◌, ℕ, ◌+◌, ◌-◌, ◌<◌, ◌≤◌, List, length, take, set, Option, None, Some, MatchOption, sym, ap, ◌∙◌, subst, inl, inr, ⊎_elim, arith}
use lib.Seq.{take-set-lt}
use Rattle.std.specs.List.{insert, remove}
use Rattle.std.proofs.lemmas.List.{get_or-take, get_or-set_same, get_or-set_other, length-set, length-take-le}
use Rattle.std.proofs.lemmas.List.Edits.{length-insert, get_or-insert_below, get_or-insert_at, get_or-insert_above, length-remove, get_or-remove_below, get_or-remove_above}
use Rattle.std.proofs.lemmas.Bool.{cases_eq, cases_lt, cases_order}
use Rattle.jobs.specs.declared.terms.Row.{Row}
use Rattle.jobs.specs.declared.terms.Seat.{Seat}
use Rattle.jobs.specs.declared.terms.Standing.TheVariants.{Absent}
use Rattle.placing.specs.Placing.{Apart, SameTable, blank, row}
use Rattle.placing.specs.Plan.{Stands}
use Rattle.jobs.specs.Admission.{Window}
use Rattle.std.specs.List.{AllWithin, HoldsAt}
use Rattle.plan.specs.declared.table.Table.{Table}
use Rattle.plan.specs.Tables.{rows_of}
use Rattle.plan.specs.Rows.{Distinct, Numbered, Windows, with_seat}

pub distinct_apart : (rows : List Row) → Distinct rows → Apart rows
distinct_apart rows distinct i j l m e =
    elim (cases_order i j) [
      | inl same ↦ same
      | inr other ↦ elim other [ inl h ↦ absurd (distinct i j h m e) | inr h ↦ absurd (distinct j i h l (sym e)) ]
    ]

number_seated : (rows : List Row) (p : ℕ) (s : Option Seat) → p < length rows → (k : ℕ) → (row (set rows p (with_seat (row rows p) s)) k).number ≡ (row rows k).number
number_seated rows p s l k =
    ⊎_elim
    (λ e. let same : ℕ → Type 0 = λ q. (row (set rows p (with_seat (row rows p) s)) q).number ≡ (row rows q).number in
    subst same (sym e) (ap (λ r. r.number) (get_or-set_same rows p (with_seat (row rows p) s) blank l)))
    (λ n. ap (λ r. r.number) (get_or-set_other rows p k (with_seat (row rows p) s) blank n))
    (cases_eq k p)

pub distinct_seated : (rows : List Row) (p : ℕ) (s : Option Seat) → p < length rows → Distinct rows → Distinct (set rows p (with_seat (row rows p) s))
distinct_seated rows p s l distinct i j a b e =
    distinct i j a (rw length-set at b) (sym (number_seated rows p s l i) ∙ e ∙ number_seated rows p s l j)

pub distinct_removed : (rows : List Row) (p : ℕ) → p < length rows → Distinct rows → Distinct (remove rows p)
distinct_removed rows p l distinct i j a b e =
    let n = length-remove rows p l in
    let m = distinct i j in let m' = distinct i (j + 1) in let m'' = distinct (i + 1) (j + 1) in
    grind (arith, get_or-remove_below rows p blank i, get_or-remove_below rows p blank j, get_or-remove_above rows p blank i, get_or-remove_above rows p blank j, cases_lt i p, cases_lt j p)

-- and no row has the number of the one removed
pub removed_absent : (rows : List Row) (p : ℕ) → p < length rows → Distinct rows → Stands (remove rows p) (row rows p).number Absent
removed_absent rows p l distinct i b e =
    let n = length-remove rows p l in
    let m = distinct i p in
    let m' = distinct p (i + 1) in
    grind (arith, get_or-remove_below rows p blank i, get_or-remove_above rows p blank i, cases_lt i p)

pub distinct_inserted : (rows : List Row) (p : ℕ) (r : Row) → p ≤ length rows → Stands rows r.number Absent → Distinct rows → Distinct (insert rows p r)
distinct_inserted rows p r l absent distinct i j a b e =
    let n = length-insert rows p r l in
    let here : (k : ℕ) → k ≡ p → (row (insert rows p r) k).number ≡ r.number = λ k h. ap (λ q. q.number) (subst (λ (m : ℕ). row (insert rows p r) m ≡ r) (sym h) (get_or-insert_at rows p r blank l)) in
    let low : (k : ℕ) → k < p → (row (insert rows p r) k).number ≡ (row rows k).number = λ k h. ap (λ q. q.number) (get_or-insert_below rows p r blank k h l) in
    let high : (k : ℕ) → p < k → (row (insert rows p r) k).number ≡ (row rows (k - 1)).number =
    λ k h. let z : (k - 1) + 1 ≡ k = omega arith in ap (λ q. q.number) (subst (λ (m : ℕ). row (insert rows p r) m ≡ row rows (k - 1)) z (get_or-insert_above rows p r blank (k - 1) (omega arith) l)) in
    grind (arith, here i, here j, low i, low j, high i, high j, distinct i j, distinct i (j - 1), distinct (i - 1) (j - 1), absent i, absent (j - 1), cases_lt i p, cases_lt j p, cases_eq i p, cases_eq j p)

-- the first n rows after one of them is seated
pub seated_rows : (rows : List Row) (n i : ℕ) (s : Option Seat) → i < n → i < length rows → take n (set rows i (with_seat (row rows i) s)) ≡ set (take n rows) i (with_seat (row (take n rows) i) s)
seated_rows rows n i s l m =
    let h : row (take n rows) i ≡ row rows i = get_or-take n rows i blank l in
    take-set-lt n rows i (with_seat (row rows i) s) l ∙ ap (λ r. set (take n rows) i (with_seat r s)) (sym h)

-- what holds of each row, and of the one put in, still holds of each
module _ (P : Row → Type 0) where
  pub all_removed : (rows : List Row) (p : ℕ) → p < length rows → ((i : ℕ) → i < length rows → P (row rows i)) → (i : ℕ) → i < length (remove rows p) → P (row (remove rows p) i)
  all_removed rows p l all i h =
      let n = length-remove rows p l in
      elim (cases_lt i p) [
        | inl b ↦ subst P (sym (get_or-remove_below rows p blank i b l)) (all i (omega arith))
        | inr b ↦ subst P (sym (get_or-remove_above rows p blank i b l)) (all (i + 1) (omega arith))
      ]

  pub all_inserted : (rows : List Row) (p : ℕ) (r : Row) → p ≤ length rows → P r → ((i : ℕ) → i < length rows → P (row rows i)) → (i : ℕ) → i < length (insert rows p r) → P (row (insert rows p r) i)
  all_inserted rows p r l here all i h =
      let n = length-insert rows p r l in
      elim (cases_order i p) [
        | inl e ↦ subst (λ (q : ℕ). P (row (insert rows p r) q)) (sym e) (subst P (sym (get_or-insert_at rows p r blank l)) here)
        | inr o ↦ elim o [
          | inl b ↦ subst P (sym (get_or-insert_below rows p r blank i b l)) (all i (omega arith))
          | inr b ↦
              (let z : (i - 1) + 1 ≡ i = omega arith in
              subst (λ (q : ℕ). P (row (insert rows p r) q)) z (subst P (sym (get_or-insert_above rows p r blank (i - 1) (omega arith) l)) (all (i - 1) (omega arith))))
        ]
      ]

abbrev pub HasWindow : Row → Type 0
HasWindow r = Window r.ready r.deadline

abbrev pub HasNumber : Row → Type 0
HasNumber r = 0 < r.number

-- each row still has its window, and none the number 0, where a row that has them is inserted, one is removed, or the seats are others
module _ (rows after : List Row) (p : ℕ) where
  module _ (r : Row) (is : after ≡ insert rows p r) (l : p ≤ length rows) where
    pub windows_inserted : HasWindow r → Windows rows → Windows after
    windows_inserted here all = subst Windows (sym is) (all_inserted HasWindow rows p r l here all)

    pub numbered_inserted : HasNumber r → Numbered rows → Numbered after
    numbered_inserted here all = subst Numbered (sym is) (all_inserted HasNumber rows p r l here all)

  module _ (is : after ≡ remove rows p) (l : p < length rows) where
    pub windows_removed : Windows rows → Windows after
    windows_removed all = subst Windows (sym is) (all_removed HasWindow rows p l all)

    pub numbered_removed : Numbered rows → Numbered after
    numbered_removed all = subst Numbered (sym is) (all_removed HasNumber rows p l all)

module _ (rows after : List Row) (s : SameTable rows after) where
  pub windows_like : Windows rows → Windows after
  windows_like all i l =
      let h : i < length rows = (let z = s.size in omega arith) in
      let e = s.jobs i h in
      subst (λ (n : ℕ). Window n (row after i).deadline) e.1 (subst (λ (n : ℕ). Window (row rows i).ready n) e.2 (all i h))

  pub numbered_like : Numbered rows → Numbered after
  numbered_like all i l =
      let h : i < length rows = (let z = s.size in omega arith) in
      subst (λ (n : ℕ). 0 < n) (s.jobs i h).0 (all i h)

-- how many rows are in use
pub rows_count : (rows : List Row) (n : ℕ) → length rows ≡ 256 → n ≤ 256 → length (take n rows) ≡ n
rows_count rows n whole few = length-take-le n rows (omega arith)

-- the first row with a number, or none
pub found_first : (rows : List Row) (n count : ℕ) (r : Option ℕ) → length rows ≡ count
    → MatchOption r (AllWithin (λ (q : Row). q.number ≡ n → ⊥) rows 0 (length rows)) (λ i. (i < length rows) × HoldsAt (λ (q : Row). q.number ≡ n) rows i × AllWithin (λ (q : Row). q.number ≡ n → ⊥) rows 0 i)
    → MatchOption r (Stands rows n Absent) (λ rank. (rank < count) × ((row rows rank).number ≡ n))
found_first rows n count None e h = λ i l. h i blank (omega arith) l
found_first rows n count (Some i) e h = (omega (arith, h.0), h.1 blank)

-- a table has as many rows as it counts
pub counted : (table : Table) → length (rows_of table) ≡ table.count
counted table = rows_count table.rows table.count table.whole table.few
