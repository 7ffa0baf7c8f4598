-- Masks read word by word.
use Rattle.std.proofs.Common.{◌≡◌, ℕ, zero, suc, ◌<◌, cond, eqb, List, [], ◌∷◌, ◌++◌, length, get_or, Some, None, Option, sym, refl, ap, ◌∙◌, arith}
use Rattle.std.specs.List.{slice_split}
use Rattle.account.specs.Numbers.{mask_of}
use Rattle.account.specs.Weights.{and_then}
use Rattle.account.specs.Words.{on_first}
use Rattle.account.specs.Settings.{words_of, masks_of}

-- the words are the parts between the spaces
pub split_words : (text : List ℕ) → slice_split (λ x. eqb x 32) text ≡ words_of text
split_words [] = refl
split_words (x ∷ xs) = ap (λ ws. cond (eqb x 32) ([] ∷ ws) (on_first x ws)) (split_words xs)

-- one word more
pub masks_push : (words : List (List ℕ)) (masks : List ℕ) (word : List ℕ) (m : ℕ) → masks_of words ≡ Some masks → Some m ≡ mask_of word → masks_of (words ++ word ∷ []) ≡ Some (masks ++ m ∷ [])
masks_push words masks word m e is = more words ∙ ap (λ o. and_then o (λ ms. Some (ms ++ m ∷ []))) e
  where
    last : masks_of (word ∷ []) ≡ Some (m ∷ [])
    last = ap (λ o. and_then o (λ k. Some (k ∷ []))) (sym is)

    inner : (k : ℕ) (o : Option (List ℕ)) → and_then (and_then o (λ ms. Some (ms ++ m ∷ []))) (λ ms. Some (k ∷ ms)) ≡ and_then (and_then o (λ ms. Some (k ∷ ms))) (λ ms. Some (ms ++ m ∷ []))
    inner k None = refl
    inner k (Some ms) = refl

    outer : (q : Option ℕ) (o : Option (List ℕ)) → and_then q (λ k. and_then (and_then o (λ ms. Some (ms ++ m ∷ []))) (λ ms. Some (k ∷ ms))) ≡ and_then (and_then q (λ k. and_then o (λ ms. Some (k ∷ ms)))) (λ ms. Some (ms ++ m ∷ []))
    outer None o = refl
    outer (Some k) o = inner k o

    more : (ws : List (List ℕ)) → masks_of (ws ++ word ∷ []) ≡ and_then (masks_of ws) (λ ms. Some (ms ++ m ∷ []))
    more [] = last
    more (w ∷ ws) = ap (λ o. and_then (mask_of w) (λ k. and_then o (λ ms. Some (k ∷ ms)))) (more ws) ∙ outer (mask_of w) (masks_of ws)

-- a word that is no mask
pub masks_stop : (words : List (List ℕ)) (i : ℕ) (d : List ℕ) → i < length words → None ≡ mask_of (get_or words i d) → masks_of words ≡ None
masks_stop [] i d h e = absurd (omega arith)
masks_stop (w ∷ ws) zero d h e = ap (λ o. and_then o (λ m. and_then (masks_of ws) (λ ms. Some (m ∷ ms)))) (sym e)
masks_stop (w ∷ ws) (suc i) d h e = at (mask_of w) (masks_stop ws i d (omega arith) e)
  where
    at : (o : Option ℕ) → masks_of ws ≡ None → and_then o (λ m. and_then (masks_of ws) (λ ms. Some (m ∷ ms))) ≡ None
    at None none = refl
    at (Some m) none = ap (λ o. and_then o (λ ms. Some (m ∷ ms))) none
