-- The lines that set a script up. Assumes nothing.
--   kind_in line          the kind of weight
--   words_of text         the text cut at each space
--   masks_of words        the masks that the words write, where each of them is one
--   base_in line          the calendar: links and end, or the masks
--   closed_in line        a closed stretch: first slot, the slot after its last, and the mask
--   base_figures base     what a calendar that was read says
use Rattle.std.specs.Prelude.{ℕ, cond, ◌⊎◌, List, [], ◌∷◌, Some, None, vec_items, codes, Option, ◌==◌}
use Rattle.std.proofs.Common.{inl, inr}
use Rattle.std.specs.Str.{bytes_eq}
use Rattle.sheets.specs.declared.kind.Kind.{Kind}
use Rattle.sheets.specs.declared.kind.Kind.TheVariants.{Points, Classed, Share}
use Rattle.account.specs.declared.terms.Base.{Base}
use Rattle.account.specs.declared.terms.Base.TheVariants.{Even, Listed}
use Rattle.account.specs.declared.terms.Closed.{Closed}
use Rattle.account.specs.Numbers.{number_of, mask_of}
use Rattle.account.specs.Words.{cut_at, on_first}
use Rattle.account.specs.Weights.{and_then}

abbrev pub kind_of : List ℕ → Option Kind
kind_of name = cond (bytes_eq name (codes "points")) (Some Points) (cond (bytes_eq name (codes "classed")) (Some Classed) (cond (bytes_eq name (codes "share")) (Some Share) None))

abbrev pub kind_in : List ℕ → Option Kind
kind_in line = and_then (cut_at 32 line) (λ p. cond (bytes_eq p.0 (codes "kind")) (kind_of p.1) None)

-- 32 is the space
abbrev pub words_of : List ℕ → List (List ℕ)
words_of [] = [] ∷ []
words_of (x ∷ xs) = cond (x == 32) ([] ∷ words_of xs) (on_first x (words_of xs))

abbrev pub masks_of : List (List ℕ) → Option (List ℕ)
masks_of [] = Some []
masks_of (word ∷ words) = and_then (mask_of word) (λ m. and_then (masks_of words) (λ ms. Some (m ∷ ms)))

abbrev pub even_in : List ℕ → Option (ℕ × ℕ)
even_in text = and_then (cut_at 32 text) (λ p. and_then (number_of 65535 p.0) (λ links. and_then (number_of 65535 p.1) (λ end. Some (links, end))))

abbrev pub even_base : Option (ℕ × ℕ) → Option ((ℕ × ℕ) ⊎ List ℕ)
even_base None = None
even_base (Some p) = Some (inl p)

abbrev pub listed_base : Option (List ℕ) → Option ((ℕ × ℕ) ⊎ List ℕ)
listed_base None = None
listed_base (Some masks) = Some (inr masks)

-- what follows `calendar`
abbrev pub form_in : List ℕ → Option ((ℕ × ℕ) ⊎ List ℕ)
form_in text =
    cond (bytes_eq text (codes "listed")) (Some (inr [])) (and_then (cut_at 32 text) (λ p. cond (bytes_eq p.0 (codes "even")) (even_base (even_in p.1)) (cond (bytes_eq p.0 (codes "listed")) (listed_base (masks_of (words_of p.1))) None)))

abbrev pub base_in : List ℕ → Option ((ℕ × ℕ) ⊎ List ℕ)
base_in line = and_then (cut_at 32 line) (λ p. cond (bytes_eq p.0 (codes "calendar")) (form_in p.1) None)

abbrev pub base_figures : Base → (ℕ × ℕ) ⊎ List ℕ
base_figures (Even links end) = inl (links, end)
base_figures (Listed masks) = inr (vec_items masks)

-- what follows `closed`
abbrev pub stretch_in : List ℕ → Option Closed
stretch_in text =
    and_then (cut_at 32 text) (λ a. and_then (cut_at 32 a.1) (λ b. and_then (number_of 65535 a.0) (λ first. and_then (number_of 65535 b.0) (λ past. and_then (mask_of b.1) (λ links. Some (record { first = first; past = past; links = links }))))))

abbrev pub closed_in : List ℕ → Option Closed
closed_in line = and_then (cut_at 32 line) (λ p. cond (bytes_eq p.0 (codes "closed")) (stretch_in p.1) None)
