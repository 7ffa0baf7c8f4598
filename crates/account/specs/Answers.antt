-- What the questions about a plan are answered, as text. Assumes nothing.
--   Printed all rows text       the text is a line for each of the rows, which are of the plan `all`
--   AnswerTo rows q text        the text answers the question about a plan with these rows
use Rattle.std.specs.Prelude.{◌≡◌, ℕ, List, [], ◌∷◌, ◌++◌, Option, Result}
use Rattle.jobs.specs.declared.terms.Row.{Row}
use Rattle.jobs.specs.declared.terms.Seat as seats
use Rattle.jobs.specs.declared.terms.Standing as standings
use Rattle.jobs.specs.Printed.{standing_text}
use Rattle.placing.specs.Plan.{Stands}
use Rattle.calls.specs.declared.terms.StretchFault.{StretchFault}
use Rattle.calls.specs.Questions.{SeatOf, StretchOf}
use Rattle.account.specs.declared.terms.Question.{Question}
use Rattle.account.specs.declared.terms.Question.TheVariants.{Standing, Seat, Stretch, Tally, Print}
use Rattle.account.specs.Texts.{seat_text, stretch_text, row_line}

abbrev pub Printed : (all rows : List Row) → List ℕ → Type 0
Printed all [] text = text ≡ []
Printed all (row ∷ rows) text =
    (stretch : Result (ℕ × ℕ) StretchFault) × StretchOf all row.number stretch × (rest : List ℕ) × Printed all rows rest × (text ≡ row_line row stretch ++ rest)

-- a tally is said by kind
abbrev pub AnswerTo : List Row → Question → List ℕ → Type 0
AnswerTo rows (Standing number) text = (s : standings.Standing) × Stands rows number s × (text ≡ standing_text s)
AnswerTo rows (Seat number) text = (s : Option seats.Seat) × SeatOf rows number s × (text ≡ seat_text s)
AnswerTo rows (Stretch number) text = (s : Result (ℕ × ℕ) StretchFault) × StretchOf rows number s × (text ≡ stretch_text s)
AnswerTo rows Tally text = Unit {0}
AnswerTo rows Print text = Printed rows rows text
