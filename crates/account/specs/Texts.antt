-- The text of each answer. Assumes nothing.
--   refused_text n               a refusal
--   answer_text answer           what a call answers
--   seat_text seat               a slot and a link, or none
--   stretch_text s               a stretch, or why there is none
--   row_line row stretch         a line of the printed plan
--   answered_line line answer    a command as it stands, and its answer
--   run_text text answers        the calls whose lines begin the text, each with its answer
use Rattle.std.specs.Prelude.{ℕ, Bool, true, false, List, [], ◌∷◌, ◌++◌, Some, None, Ok, Err, codes, decimal, Option, Result}
use Rattle.jobs.specs.declared.terms.Row.{Row}
use Rattle.jobs.specs.declared.terms.Seat.{Seat}
use Rattle.jobs.specs.Printed.{place_text}
use Rattle.calls.specs.declared.terms.CallFault.{CallFault}
use Rattle.calls.specs.declared.terms.StretchFault.{StretchFault}
use Rattle.calls.specs.Faults.{call_fault_number, stretch_fault_number}
use Rattle.account.specs.Words.{line_of, rest_of}

abbrev pub refused_text : ℕ → List ℕ
refused_text n = codes "refused " ++ decimal n

abbrev pub kept_text : Bool → List ℕ
kept_text true = codes "yes"
kept_text false = codes "no"

abbrev pub other_text : Option ℕ → List ℕ
other_text None = codes "none"
other_text (Some number) = decimal number

-- is the named job kept now, and the number of the other job whose standing changed
abbrev pub answer_text : Result (Bool × Option ℕ) CallFault → List ℕ
answer_text (Ok p) = kept_text p.0 ++ (codes " " ++ other_text p.1)
answer_text (Err fault) = refused_text (call_fault_number fault)

abbrev pub seat_text : Option Seat → List ℕ
seat_text None = codes "none"
seat_text (Some seat) = place_text seat

-- the first slot and the slot after the last
abbrev pub stretch_text : Result (ℕ × ℕ) StretchFault → List ℕ
stretch_text (Ok p) = decimal p.0 ++ (codes " " ++ decimal p.1)
stretch_text (Err fault) = refused_text (stretch_fault_number fault)

-- a kept row with its seat, a dropped one with its stretch
abbrev pub kept_line : ℕ → Seat → List ℕ
kept_line number seat = decimal number ++ (codes " " ++ (seat_text (Some seat) ++ codes "\n"))

abbrev pub dropped_line : ℕ → Result (ℕ × ℕ) StretchFault → List ℕ
dropped_line number stretch = decimal number ++ (codes " - " ++ (stretch_text stretch ++ codes "\n"))

abbrev pub row_text : ℕ → Option Seat → Result (ℕ × ℕ) StretchFault → List ℕ
row_text number None stretch = dropped_line number stretch
row_text number (Some seat) stretch = kept_line number seat

abbrev pub row_line : Row → Result (ℕ × ℕ) StretchFault → List ℕ
row_line row stretch = row_text row.number row.seat stretch

abbrev pub counts_text : (kept dropped : ℕ) → List ℕ
counts_text kept dropped = codes "kept " ++ (decimal kept ++ (codes " dropped " ++ decimal dropped))

abbrev pub totals_text : (kept dropped : ℕ) (total_of_kept total_of_dropped : List ℕ) → List ℕ
totals_text kept dropped total_of_kept total_of_dropped =
    codes "kept " ++ (decimal kept ++ (codes " dropped " ++ (decimal dropped ++ (codes " total " ++ (total_of_kept ++ (codes " " ++ total_of_dropped))))))

-- a command as it stands, and its answer
abbrev pub answered_line : (line answer : List ℕ) → List ℕ
answered_line line answer = line ++ (codes ": " ++ (answer ++ codes "\n"))

-- a command as it stands, and the lines that answer it
abbrev pub listed_lines : (line lines : List ℕ) → List ℕ
listed_lines line lines = line ++ (codes ":\n" ++ lines)

abbrev pub wrong_line : ℕ → List ℕ
wrong_line n = codes "line " ++ (decimal n ++ codes ": not a command\n")

-- the calls of a run, whose lines begin where the text does, each with its answer
abbrev pub run_text : List ℕ → List (Result (Bool × Option ℕ) CallFault) → List ℕ
run_text text [] = []
run_text text (answer ∷ answers) = answered_line (line_of text) (answer_text answer) ++ run_text (rest_of text) answers
