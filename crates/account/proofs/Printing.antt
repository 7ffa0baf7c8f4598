-- The printed plan, one row on.
use Rattle.std.proofs.Common.{◌≡◌, ℕ, ◌+◌, ◌<◌, ◌≤◌, List, [], ◌∷◌, ◌++◌, length, get_or, take, Result, sym, refl, ap, ◌∙◌, subst}
use Rattle.std.proofs.lemmas.List.{append-nil, append_assoc, take_more, take_all}
use Rattle.jobs.specs.declared.terms.Row.{Row}
use Rattle.calls.specs.declared.terms.StretchFault.{StretchFault}
use Rattle.calls.specs.Questions.{StretchOf}
use Rattle.account.specs.Texts.{row_line}
use Rattle.account.specs.Answers.{Printed}

module _ (all : List Row) where
  printed_push : (rows : List Row) (row : Row) (s : Result (ℕ × ℕ) StretchFault) (text : List ℕ) → Printed all rows text → StretchOf all row.number s
      → Printed all (rows ++ row ∷ []) (text ++ row_line row s)
  printed_push [] row s text e of = (s, of, [], refl, ap (λ t. t ++ row_line row s) e ∙ sym (append-nil (row_line row s)))
  printed_push (r ∷ rows) row s text p of =
      (p.0, p.1, p.2 ++ row_line row s, printed_push rows row s p.2 p.3 of, ap (λ t. t ++ row_line row s) p.4 ∙ append_assoc (row_line r p.0) p.2 (row_line row s))

  module _ (items : List Row) (i : ℕ) where
    pub printed_more : (d : Row) (s : Result (ℕ × ℕ) StretchFault) (text more last : List ℕ) → i < length items → Printed all (take i items) text → StretchOf all (get_or items i d).number s
        → more ≡ row_line (get_or items i d) s → last ≡ text ++ more → Printed all (take (i + 1) items) last
    printed_more d s text more last h p of is e =
        let P : List Row → Type 0 = λ rows. Printed all rows (text ++ row_line (get_or items i d) s) in
        let Q : List ℕ → Type 0 = λ t. Printed all (take (i + 1) items) t in
        subst Q (sym (e ∙ ap (λ l. text ++ l) is)) (subst P (sym (take_more items i d h)) (printed_push (take i items) (get_or items i d) s text p of))

    pub printed_all : (text : List ℕ) → items ≡ all → length items ≤ i → Printed all (take i items) text → Printed all all text
    printed_all text e h p = let P : List Row → Type 0 = λ rows. Printed all rows text in subst P (take_all i items h ∙ e) p
