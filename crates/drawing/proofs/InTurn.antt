-- The rows tried in rank order, one after the other. Assumes nothing.
--   AfterTrials rows counts kept at x    after the trials of the rows below x: who is kept of them, and the places dealt to the kept
use Rattle.std.proofs.Common.{◌≡◌, ℕ, ◌+◌, ◌<◌, ◌≤◌, Bool, true, false, List, length, get_or, Option, sym, ap, ◌∙◌, subst, inl, inr, arith}
use Rattle.std.proofs.lemmas.Bool.{cases_Bool, cases_eq, cases_lt}
use Rattle.std.proofs.lemmas.Bool.Decides.{nat_tests}
use Rattle.jobs.specs.declared.terms.Row.{Row}
use Rattle.dealing.specs.Boards.{Table, Board, Placing}
use Rattle.dealing.specs.Choice.{adding}
use Rattle.dealing.specs.Dealing.{DealtInOrder}
use Rattle.dealing.proofs.Choice.{part, below_parts}
use Rattle.dealing.proofs.Keeping.{also, also_low, also_top, adding_also}
use Rattle.placing.specs.Index.{table_of}
use Rattle.drawing.specs.Slots.{board_by}
use Rattle.drawing.specs.Trial.{order, seat_of, below, DealtToAll, Chosen}
use Rattle.drawing.proofs.Tried.{placing}

-- the same set by another name
pub dealt_like : (b : Board) (t : Table) (first : ℕ → ℕ → Bool) (K L : ℕ → Bool) (k : ℕ) (at : ℕ → ℕ) → ((j : ℕ) → j < t.size → K j ≡ L j) → DealtInOrder b t first K k at → DealtInOrder b t first L k at
dealt_like b t first K L k at same s = record {
  sits = λ p l h. let g = s.sits p l h in (sym (same (at p) h) ∙ g.0, g.1, g.2, g.3);
  once = s.once;
  foremost = λ p i l f h e. s.foremost p i l f h (same i h ∙ e);
}

all_like : (rows : List Row) (counts : List ℕ) (K L : ℕ → Bool) (at : List (Option ℕ)) → ((j : ℕ) → j < length rows → K j ≡ L j) → DealtToAll rows counts K at → DealtToAll rows counts L at
all_like rows counts K L at same f = record {
  dealt = dealt_like (board_by counts) (table_of rows) (order rows) K L (get_or counts 1024 0) (seat_of at) same f.dealt;
  seats = λ i l e. f.seats i l (same i l ∙ e);
}

pub record AfterTrials (rows : List Row) (counts : List ℕ) (kept : ℕ → Bool) (at : List (Option ℕ)) (x : ℕ) : Type 0 where
  pub all : DealtToAll rows counts (below kept x) at
  pub fits : (i : ℕ) → i < x → kept i ≡ true → Placing (board_by counts) (table_of rows) (adding kept i)
  pub refused : (i : ℕ) → i < x → kept i ≡ false → Placing (board_by counts) (table_of rows) (adding kept i) → ⊥

none_below : (kept : ℕ → Bool) (i : ℕ) → below kept 0 i ≡ true → ⊥
none_below kept i h = let l = (below_parts kept 0 i h).0 in omega arith

module _ (rows : List Row) (counts : List ℕ) where
  pub trials_none : (kept : ℕ → Bool) (at : List (Option ℕ)) → ((q : ℕ) → q < get_or counts 1024 0 → length rows ≤ seat_of at q) → AfterTrials rows counts kept at 0
  trials_none kept at empty = record {
    all = record {
      dealt = record {
        sits = λ p l h. absurd (let e = empty p l in omega arith);
        once = λ p q l m h. absurd (let e = empty p l in omega arith);
        foremost = λ p i l f h e. absurd (none_below kept i e);
      };
      seats = λ i l e. absurd (none_below kept i e);
    };
    fits = λ i l. absurd (omega arith);
    refused = λ i l. absurd (omega arith);
  }

  pub trials_all : (kept : ℕ → Bool) (at : List (Option ℕ)) (x : ℕ) → length rows ≤ x → AfterTrials rows counts kept at x → Chosen rows counts at
  trials_all kept at x h d = (
    kept,
    record { fits = λ i l. d.fits i (omega arith); refused = λ i l. d.refused i (omega arith) },
    all_like rows counts (below kept x) kept at (λ j l. grind (arith, nat_tests)) d.all,
  )

  module _ (kept : ℕ → Bool) (x : ℕ) (r : Bool) where
    abbrev then : ℕ → Bool
    then = also kept x r

    same_true : r ≡ true → (j : ℕ) → adding kept x j ≡ below then (x + 1) j
    same_true h j =
        elim (cases_lt j x) [
          | inl l ↦ (let z = also_low kept x r j l in grind (arith, nat_tests))
          | inr l ↦ elim (cases_eq j x) [
            | inl e ↦ (let z : then j ≡ true = ap then e ∙ (also_top kept x r ∙ h) in grind (arith, nat_tests))
            | inr e ↦ grind (arith, nat_tests)
          ]
        ]

    same_false : r ≡ false → (j : ℕ) → below kept x j ≡ below then (x + 1) j
    same_false h j =
        elim (cases_lt j x) [
          | inl l ↦ (let z = also_low kept x r j l in grind (arith, nat_tests))
          | inr l ↦ elim (cases_eq j x) [
            | inl e ↦ (let z : then j ≡ false = ap then e ∙ (also_top kept x r ∙ h) in grind (arith, nat_tests))
            | inr e ↦ grind (arith, nat_tests)
          ]
        ]

    forth : (i : ℕ) → i ≤ x → Placing (board_by counts) (table_of rows) (adding kept i) → Placing (board_by counts) (table_of rows) (adding then i)
    forth i l s = part (board_by counts) (table_of rows) (adding kept i) (adding then i) s (λ j _ e. sym (adding_also kept x r i j l) ∙ e)

    back : (i : ℕ) → i ≤ x → Placing (board_by counts) (table_of rows) (adding then i) → Placing (board_by counts) (table_of rows) (adding kept i)
    back i l s = part (board_by counts) (table_of rows) (adding then i) (adding kept i) s (λ j _ e. adding_also kept x r i j l ∙ e)

    pub trials_more : (at new : List (Option ℕ)) → AfterTrials rows counts kept at x →
        (r ≡ true → DealtToAll rows counts (adding kept x) new) →
        (r ≡ false → Placing (board_by counts) (table_of rows) (adding kept x) → ⊥) → (r ≡ false → new ≡ at) → AfterTrials rows counts then new (x + 1)
    trials_more at new d seats refuses unchanged = record {
      all = elim (cases_Bool r) [
        | inl e ↦ all_like rows counts (adding kept x) (below then (x + 1)) new (λ j _. same_true e j) (seats e)
        | inr e ↦ all_like rows counts (below kept x) (below then (x + 1)) new (λ j _. same_false e j) (subst (λ ys. DealtToAll rows counts (below kept x) ys) (sym (unchanged e)) d.all)
      ];
      fits = λ i l h. elim (cases_eq i x) [
        | inl e ↦ forth i (omega arith) (subst (λ y. Placing (board_by counts) (table_of rows) (adding kept y)) (sym e)
            (placing rows counts new (adding kept x) (seats (sym (also_top kept x r) ∙ (ap then (sym e) ∙ h)))))
        | inr e ↦ forth i (omega arith) (d.fits i (omega arith) (sym (also_low kept x r i (omega arith)) ∙ h))
      ];
      refused = λ i l h s. elim (cases_eq i x) [
        | inl e ↦ refuses (sym (also_top kept x r) ∙ (ap then (sym e) ∙ h)) (subst (λ y. Placing (board_by counts) (table_of rows) (adding kept y)) e (back i (omega arith) s))
        | inr e ↦ d.refused i (omega arith) (sym (also_low kept x r i (omega arith)) ∙ h) (back i (omega arith) s)
      ];
    }
