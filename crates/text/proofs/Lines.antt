-- The lines of rows, one after the other; each row has one line, and so rows have one printed text. Assumes nothing.
use Rattle.std.proofs.Common.{◌≡◌, ℕ, ◌+◌, List, [], ◌∷◌, ◌++◌, length, Some, None, Option, sym, refl, ap, ◌∙◌, arith}
use Rattle.std.specs.List.{flat_map}
use Rattle.std.proofs.lemmas.Grind.{common_steps}
use Rattle.std.proofs.lemmas.List.{ext_get_or}
use Rattle.jobs.specs.declared.terms.Row.{Row}
use Rattle.jobs.specs.declared.terms.Seat.{Seat}
use Rattle.text.specs.Printing.{LineBy, LineOf, Lines, PrintedOnce}

module _ (rows : List Row) where
  pub lines_none : Lines rows 0 []
  lines_none = record { lines = []; each = refl; line = λ i h. absurd (omega arith); bytes = refl }

  pub lines_more : (n : ℕ) (text line : List ℕ) → Lines rows n text → LineOf rows n line → Lines rows (n + 1) (text ++ line)
  lines_more n text line l here =
      record {
        lines = l.lines ++ (line ∷ []);
        each = grind (arith, common_steps);
        line = λ i h. grind (arith, common_steps);
        bytes = grind (arith, common_steps);
      }

  -- a row has one stretch, and so one line
  line_once : (i : ℕ) (seat : Option Seat) (line other : List ℕ) → LineBy rows i seat line → LineBy rows i seat other → line ≡ other
  line_once i (Some p) line other a b = cc
  line_once i None line other a b = grind (arith, a.2.least, b.2.least)

  pub lines_once : (n : ℕ) (text other : List ℕ) → Lines rows n text → Lines rows n other → text ≡ other
  lines_once n text other a b =
      let same = ext_get_or [] a.lines b.lines (a.each ∙ sym b.each) (λ i h. grind (arith, line_once)) in
      a.bytes ∙ ap (flat_map (λ l. l)) same ∙ sym b.bytes

pub printed_once : PrintedOnce
printed_once rows text other = lines_once rows (length rows) text other
