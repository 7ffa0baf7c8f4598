-- The lines of a text, and the calls ahead, from its first line on.
use Rattle.std.proofs.Common.{◌≡◌, ℕ, ◌<◌, Bool, true, false, cond, eqb, List, [], ◌∷◌, ◌++◌, map, length, Some, None, Option, sym, refl, ap, ◌∙◌, arith}
use Rattle.std.proofs.lemmas.List.{append-nil, append_assoc, map_push}
use Rattle.std.specs.Option.{option_map}
use Rattle.calls.specs.declared.terms.Call.{Call}
use Rattle.account.specs.declared.terms.Command.{Command}
use Rattle.account.specs.declared.terms.Command.TheVariants.{Make, NoWeight, Ask}
use Rattle.account.specs.Words.{behind, cut_at, line_from, rest_from, line_of, rest_of, on_first, lines_of}
use Rattle.account.specs.Commands.{command_figures, call_figures, command_in, call_before, calls_ahead}

-- the lines, from where the text is cut
abbrev lines_from : List ℕ → Option (List ℕ × List ℕ) → List (List ℕ)
lines_from text o = line_from text o ∷ lines_of (rest_from o)

pub lines_cut : (x : ℕ) (xs : List ℕ) → lines_of (x ∷ xs) ≡ lines_from (x ∷ xs) (cut_at 10 (x ∷ xs))
lines_cut x [] = at (eqb x 10)
  where
    at : (b : Bool) → cond b ([] ∷ []) ((x ∷ []) ∷ []) ≡ lines_from (x ∷ []) (cond b (Some ([], [])) None)
    at true = refl
    at false = refl
lines_cut x (y ∷ ys) = at (lines_cut y ys) (eqb x 10)
  where
    first : (o : Option (List ℕ × List ℕ)) → on_first x (lines_from (y ∷ ys) o) ≡ lines_from (x ∷ y ∷ ys) (behind x o)
    first None = refl
    first (Some p) = refl

    at : lines_of (y ∷ ys) ≡ lines_from (y ∷ ys) (cut_at 10 (y ∷ ys)) → (b : Bool) → cond b ([] ∷ lines_of (y ∷ ys)) (on_first x (lines_of (y ∷ ys))) ≡ lines_from (x ∷ y ∷ ys) (cond b (Some ([], y ∷ ys)) (behind x (cut_at 10 (y ∷ ys))))
    at e true = refl
    at e false = ap (on_first x) e ∙ first (cut_at 10 (y ∷ ys))

pub lines_first : (text : List ℕ) → 0 < length text → lines_of text ≡ line_of text ∷ lines_of (rest_of text)
lines_first [] h = absurd (omega arith)
lines_first (x ∷ xs) h = lines_cut x xs

module _ {W : Type 0} (figures : W → List ℕ) (figures_in : List ℕ → Option (Option (List ℕ))) (whole : List (Call (List ℕ))) (calls : List (Call W)) (text : List ℕ)
    (some : 0 < length text) (before : whole ≡ map (call_figures figures) calls ++ calls_ahead figures_in (lines_of text)) where
  opened : whole ≡ map (call_figures figures) calls ++ call_before (command_in figures_in (line_of text)) (calls_ahead figures_in (lines_of (rest_of text)))
  opened = before ∙ ap (λ l. map (call_figures figures) calls ++ calls_ahead figures_in l) (lines_first text some)

  -- one call more
  pub ahead_more : (call : Call W) (more : List (Call W)) (line rest : List ℕ) → line ≡ line_of text → rest ≡ rest_of text → Some (Make (call_figures figures call)) ≡ command_in figures_in line → more ≡ calls ++ call ∷ []
      → whole ≡ map (call_figures figures) more ++ calls_ahead figures_in (lines_of rest)
  ahead_more call more line rest l r e m =
      opened
      ∙ ap (λ o. map (call_figures figures) calls ++ call_before o (calls_ahead figures_in (lines_of (rest_of text)))) (sym (e ∙ ap (command_in figures_in) l))
      ∙ sym (append_assoc (map (call_figures figures) calls) (call_figures figures call ∷ []) (calls_ahead figures_in (lines_of (rest_of text))))
      ∙ ap (λ cs. cs ++ calls_ahead figures_in (lines_of (rest_of text))) (sym (ap (map (call_figures figures)) m ∙ map_push (call_figures figures) calls call))
      ∙ ap (λ t. map (call_figures figures) more ++ calls_ahead figures_in (lines_of t)) (sym r)

  -- a line that is no call ends them
  pub ahead_end : (o : Option (Command W)) (line : List ℕ) → line ≡ line_of text → option_map (command_figures figures) o ≡ command_in figures_in line → ((call : Call W) → o ≡ Some (Make call) → ⊥) → map (call_figures figures) calls ≡ whole
  ahead_end o line l e other =
      sym (opened
      ∙ ap (λ q. map (call_figures figures) calls ++ call_before q (calls_ahead figures_in (lines_of (rest_of text)))) (sym (e ∙ ap (command_in figures_in) l))
      ∙ ap (λ cs. map (call_figures figures) calls ++ cs) (none o other)
      ∙ append-nil (map (call_figures figures) calls))
    where
      none : (o : Option (Command W)) → ((call : Call W) → o ≡ Some (Make call) → ⊥) → call_before (option_map (command_figures figures) o) (calls_ahead figures_in (lines_of (rest_of text))) ≡ []
      none None other = refl
      none (Some (Make call)) other = absurd (other call refl)
      none (Some (NoWeight f)) other = refl
      none (Some (Ask question)) other = refl
