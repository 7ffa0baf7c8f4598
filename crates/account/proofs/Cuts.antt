-- Where a text is cut: at the first byte of the kind.
use Rattle.std.proofs.Common.{◌≡◌, ℕ, zero, suc, ◌<◌, Bool, true, false, cond, eqb, List, [], ◌∷◌, length, get_or, take, drop, Some, None, nat_lt, sym, refl, ap, ◌∙◌, arith}
use Rattle.std.specs.List.{position, position_or_len}
use Rattle.std.proofs.lemmas.Bool.{cond-true, cond-false, eq-eqb, ne_eqb, eqb-true, eqb-false, ltb-false}
use Rattle.std.proofs.lemmas.List.Quantifiers.{position-Some}
use Rattle.std.proofs.lemmas.List.Sums.{fails_before_first}
use Rattle.account.specs.Words.{behind, cut_at}

module _ (c : ℕ) where
  pub missing : (text : List ℕ) → ((k : ℕ) → k < length text → get_or text k 0 ≡ c → ⊥) → cut_at c text ≡ None
  missing [] none = refl
  missing (x ∷ xs) none = cond-false _ _ _ (ne_eqb x c (none 0 (omega arith))) ∙ ap (behind x) (missing xs (λ k h. none (suc k) (omega arith)))

  pub cut_at_lem : (text : List ℕ) (i : ℕ) → i < length text → ((k : ℕ) → k < i → get_or text k 0 ≡ c → ⊥) → get_or text i 0 ≡ c → cut_at c text ≡ Some (take i text, drop (suc i) text)
  cut_at_lem [] i h none e = absurd (omega arith)
  cut_at_lem (x ∷ xs) zero h none e = cond-true _ _ _ (eq-eqb x c e)
  cut_at_lem (x ∷ xs) (suc i) h none e =
      cond-false _ _ _ (ne_eqb x c (none 0 (omega arith))) ∙ ap (behind x) (cut_at_lem xs i (omega arith) (λ k l. none (suc k) (omega arith)) e)

  pub cut_none : (text : List ℕ) → None ≡ position (λ x. eqb x c) text → None ≡ cut_at c text
  cut_none text e = at (nat_lt (position_or_len (λ x. eqb x c) text) (length text)) refl e
    where
      at : (b : Bool) → nat_lt (position_or_len (λ x. eqb x c) text) (length text) ≡ b → None ≡ cond b (Some (position_or_len (λ x. eqb x c) text)) None → None ≡ cut_at c text
      at true t f = cc
      at false t f =
          sym (missing text (λ k h. eqb-false (get_or text k 0) c (fails_before_first (λ x. eqb x c) text k 0 (let past = ltb-false _ _ t in omega arith))))

  pub cut_some : (text : List ℕ) (i : ℕ) → Some i ≡ position (λ x. eqb x c) text → Some (take i text, drop (suc i) text) ≡ cut_at c text
  cut_some text i e =
      let first = position-Some (λ x. eqb x c) text i 0 (sym e) in
      sym (cut_at_lem text i first.0 (λ k h. eqb-false (get_or text k 0) c (first.2 k h)) (eqb-true (get_or text i 0) c first.1))
