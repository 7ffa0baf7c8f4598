-- The text of a plan, and the line of a refusal. Assumes nothing.
--   line_with number mark a b      a line: a number, a mark, two more numbers with a space between them, and the byte 10
--   kept_line number slot link     the line of a kept job
--   dropped_line number from to    the line of a dropped job: its stretch's first slot, and the slot after its last
--   LineBy rows i seat line        the line of row i, where this is its seat
--   LineOf rows i line             the line of row i
--   Lines rows n text              the lines of the first n rows, one after the other
--   Printed rows text              the lines of all the rows, in rank order
--   PrintedOnce                    rows have one printed text
--   refusal_line number byte       the line of a refusal
use Rattle.std.specs.Prelude.{◌≡◌, ℕ, ◌<◌, List, [], ◌++◌, length, Some, None, codes, decimal, Option, slice_index_or}
use Rattle.std.specs.List.{flat_map}
use Rattle.jobs.specs.declared.terms.Row.{Row}
use Rattle.jobs.specs.declared.terms.Seat.{Seat}
use Rattle.placing.specs.Placing.{row}
use Rattle.placing.specs.Plan.{Stretch}

abbrev pub line_with : (number : ℕ) → List ℕ → (a b : ℕ) → List ℕ
line_with number mark a b = decimal number ++ (mark ++ (decimal a ++ (codes " " ++ (decimal b ++ codes "\n"))))

abbrev pub kept_line : (number slot link : ℕ) → List ℕ
kept_line number slot link = line_with number (codes " ") slot link

abbrev pub dropped_line : (number from to : ℕ) → List ℕ
dropped_line number from to = line_with number (codes " - ") from to

abbrev pub LineBy : List Row → ℕ → Option Seat → List ℕ → Type 0
LineBy rows i (Some p) line = line ≡ kept_line (row rows i).number p.slot p.link
LineBy rows i None line = (lo : ℕ) × (hi : ℕ) × Stretch rows i lo hi × (line ≡ dropped_line (row rows i).number lo hi)

abbrev pub LineOf : List Row → ℕ → List ℕ → Type 0
LineOf rows i line = LineBy rows i (row rows i).seat line

pub record Lines (rows : List Row) (n : ℕ) (text : List ℕ) : Type 0 where
  pub lines : List (List ℕ)
  pub each : length lines ≡ n
  pub line : (i : ℕ) → i < n → LineOf rows i (slice_index_or lines i [])
  pub bytes : text ≡ flat_map (λ l. l) lines

abbrev pub Printed : List Row → List ℕ → Type 0
Printed rows text = Lines rows (length rows) text

abbrev pub PrintedOnce : Type 0
PrintedOnce = (rows : List Row) (text other : List ℕ) → Printed rows text → Printed rows other → text ≡ other

abbrev pub refusal_line : (number byte : ℕ) → List ℕ
refusal_line number byte = codes "refused " ++ (decimal number ++ (codes " at " ++ (decimal byte ++ codes "\n")))
