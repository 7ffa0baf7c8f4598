-- A script cut into lines, and a line into words. Assumes nothing.
--   cut_at c text     what stands before the first byte c and what behind it, if there is one
--   line_of text      the first line, without its end
--   rest_of text      what follows the first line
--   rest_after n text what follows the first n lines
--   lines_of text     the lines
use Rattle.std.specs.Prelude.{ℕ, zero, suc, cond, List, [], ◌∷◌, Some, None, Option, ◌==◌}

abbrev pub behind : ℕ → Option (List ℕ × List ℕ) → Option (List ℕ × List ℕ)
behind x None = None
behind x (Some p) = Some (x ∷ p.0, p.1)

abbrev pub cut_at : ℕ → List ℕ → Option (List ℕ × List ℕ)
cut_at c [] = None
cut_at c (x ∷ xs) = cond (x == c) (Some ([], xs)) (behind x (cut_at c xs))

abbrev pub line_from : List ℕ → Option (List ℕ × List ℕ) → List ℕ
line_from text None = text
line_from text (Some p) = p.0

abbrev pub rest_from : Option (List ℕ × List ℕ) → List ℕ
rest_from None = []
rest_from (Some p) = p.1

-- a line ends at the byte 10
abbrev pub line_of : List ℕ → List ℕ
line_of text = line_from text (cut_at 10 text)

abbrev pub rest_of : List ℕ → List ℕ
rest_of text = rest_from (cut_at 10 text)

abbrev pub rest_after : ℕ → List ℕ → List ℕ
rest_after zero text = text
rest_after (suc n) text = rest_of (rest_after n text)

abbrev pub on_first : ℕ → List (List ℕ) → List (List ℕ)
on_first x [] = (x ∷ []) ∷ []
on_first x (word ∷ words) = (x ∷ word) ∷ words

-- what ends a line is no part of it, and the last line may lack it
abbrev pub lines_of : List ℕ → List (List ℕ)
lines_of [] = []
lines_of (x ∷ xs) = cond (x == 10) ([] ∷ lines_of xs) (on_first x (lines_of xs))
