-- Who is kept: settled by jobs and masks alone, and never fewer than a rival keeps. Assumes nothing.
use Rattle.std.proofs.Common.{◌≡◌, ℕ, Bool, true, false, ◌&&◌, List, length, is_some, sym, ap, ◌∙◌, subst, inl, inr, arith}
use Rattle.std.proofs.lemmas.Bool.{cases_Bool, both_ways, and_parts, and_from}
use Rattle.jobs.specs.declared.terms.Row.{Row}
use Rattle.dealing.specs.Boards as indices
use Rattle.dealing.specs.Choice as choice
use Rattle.dealing.specs.Choice.{Greedy}
use Rattle.dealing.specs.Counting.{count}
use Rattle.dealing.proofs.Choice.{part}
use Rattle.dealing.proofs.Keeping.{choice_unique}
use Rattle.dealing.proofs.Reasons.{reasoned_is_largest, keeps_most}
use Rattle.placing.specs.Placing.{Dropped, Placing}
use Rattle.placing.specs.Plan.{KeptRule}
use Rattle.placing.specs.Index.{board_of, table_of, kept_of}
use Rattle.placing.specs.Theorems.{SameKept, FrontKeepsMost, kept_among, Reasoned, ReasonedKeepsMost}
use Rattle.placing.proofs.Index.{Ends, place_of, place_seat, seat_at, free_open, indexed, indexed_seat, table_same, same_ends, rival, greedy, ends_by}

pub same_kept : SameKept
same_kept mask mask' agree rows others t kept kept' i l =
    let n = ends_by rows in
    let e : mask' ≡ mask = λ k s. sym (agree s) k in
    let g = greedy mask n.0 others (same_ends mask n.0 rows others n.1 t) (subst (λ m. KeptRule m others) e kept') in
    choice_unique (board_of mask n.0) (table_of rows) (kept_of rows) (kept_of others) (greedy mask n.0 rows n.1 kept)
    (subst (λ u. Greedy (board_of mask n.0) u (kept_of others)) (table_same rows others t) g) i l

pub front_keeps_most : FrontKeepsMost
front_keeps_most mask rows others kept r =
    let n = ends_by rows in
    keeps_most (board_of mask n.0) (table_of rows) (kept_of rows) (greedy mask n.0 rows n.1 kept) (kept_of others) (rival mask n.0 rows others n.1 r)

-- the rows of T that are kept
module _ (mask : ℕ → ℕ) (n : ℕ) (T : ℕ → Bool) (rows : List Row) (ends : Ends n rows) (s : Placing mask rows) (r : Reasoned mask T rows) where
  abbrev K : ℕ → Bool
  K i = T i && kept_of rows i

  abbrev its : indices.Placing (board_of mask n) (table_of rows) K
  its = record {
    seat = λ i. (indexed mask n rows ends s).seat i;
    sits = λ i l k. (indexed mask n rows ends s).sits i l (and_parts (T i) (kept_of rows i) k).1;
    apart = λ i j l m h k. (indexed mask n rows ends s).apart i j l m (and_parts (T i) (kept_of rows i) h).1 (and_parts (T j) (kept_of rows j) k).1;
  }

  dropped_by : (i : ℕ) → T i ≡ true → K i ≡ false → Dropped rows i
  dropped_by i h k = elim (cases_Bool (kept_of rows i)) [ inr e ↦ e | inl e ↦ absurd (both_ways (K i) k (and_from (T i) (kept_of rows i) h e)) ]

  indexed_reasons : choice.Reasoned (board_of mask n) (table_of rows) T K its
  indexed_reasons i l h k =
      let w = r i l h (dropped_by i h k) in (
        w.0,
        w.1,
        w.2,
        w.3,
        λ p pl f a b.
            let v = w.4 (seat_at p) (free_open mask n p f) a b in
            (v.0, v.1, and_from (T v.0) (kept_of rows v.0) v.2 (ap is_some v.3), v.4, v.5, indexed_seat mask n rows ends s v.0 ∙ (ap place_of v.3 ∙ place_seat p)),
      )

pub reasoned_keeps_most : ReasonedKeepsMost
reasoned_keeps_most mask T rows s r others x =
    let n = ends_by rows in
    let z : kept_among T others ≡ count (λ i. T i && kept_of others i) (length rows) = ap (count (λ i. T i && kept_of others i)) x.table.size in
    let c = reasoned_is_largest (board_of mask n.0) (table_of rows) T (λ i. T i && kept_of rows i) (its mask n.0 T rows n.1 s r) (indexed_reasons mask n.0 T rows n.1 s r)
    (λ i. T i && kept_of others i) (λ i l h. (and_parts (T i) (kept_of others i) h).0)
    (part (board_of mask n.0) (table_of rows) (kept_of others) (λ i. T i && kept_of others i) (rival mask n.0 rows others n.1 x) (λ i l h. (and_parts (T i) (kept_of others i) h).1)) in
    omega arith
