-- What a line of a script commands. Weights stand as their figures; `figures_in` says which figures a text writes. Assumes nothing.
--   offer_in, reweigh_in    a call with a weight, from what follows its name
--   named_in name text      the command of that name, from what follows the name
--   command_in line         the command of a line
--   command_figures         a command, with the figures of its weight
--   calls_ahead lines       the calls that begin the lines, up to the first line that is none
use Rattle.std.specs.Prelude.{ℕ, cond, List, [], ◌∷◌, Some, None, codes, Option}
use Rattle.std.specs.Str.{bytes_eq}
use Rattle.calls.specs.declared.terms.Call.{Call}
use Rattle.calls.specs.declared.terms.Call.TheVariants.{Offer, Withdraw, Reweigh}
use Rattle.weights.specs.declared.fault.WeightFault.TheVariants as fault
use Rattle.account.specs.declared.terms.Command.{Command}
use Rattle.account.specs.declared.terms.Command.TheVariants.{Make, NoWeight, Ask}
use Rattle.account.specs.declared.terms.Question.{Question}
use Rattle.account.specs.declared.terms.Question.TheVariants.{Standing, Seat, Stretch, Tally, Print}
use Rattle.account.specs.Numbers.{number_of}
use Rattle.account.specs.Words.{cut_at}
use Rattle.account.specs.Weights.{and_then}

-- a call with a weight, or the refusal of what is none
abbrev pub weighed : (List ℕ → Call (List ℕ)) → Option (List ℕ) → Command (List ℕ)
weighed call None = NoWeight fault.NoWeight
weighed call (Some figures) = Make (call figures)

abbrev pub call_figures : {W : Type 0} → (W → List ℕ) → Call W → Call (List ℕ)
call_figures figures (Offer job) = Offer (record { number = job.number; ready = job.ready; deadline = job.deadline; weight = figures job.weight })
call_figures figures (Withdraw number) = Withdraw number
call_figures figures (Reweigh number weight) = Reweigh number (figures weight)

abbrev pub command_figures : {W : Type 0} → (W → List ℕ) → Command W → Command (List ℕ)
command_figures figures (Make call) = Make (call_figures figures call)
command_figures figures (NoWeight f) = NoWeight f
command_figures figures (Ask question) = Ask question

-- the text is one number
abbrev pub numbered : {X : Type 0} → (ℕ → X) → List ℕ → Option X
numbered f text = and_then (number_of 65535 text) (λ n. Some (f n))

module _ (figures_in : List ℕ → Option (Option (List ℕ))) where
  abbrev pub job_in : (number ready deadline weight : List ℕ) → Option (Command (List ℕ))
  job_in number ready deadline weight =
      and_then (number_of 65535 number) (λ n. and_then (number_of 65535 ready) (λ r. and_then (number_of 65535 deadline) (λ d. and_then (figures_in weight) (λ w. Some (weighed (λ figures. Offer (record { number = n; ready = r; deadline = d; weight = figures })) w)))))

  -- number, ready slot, deadline and weight, with a space between
  abbrev pub offer_in : List ℕ → Option (Command (List ℕ))
  offer_in text =
      and_then (cut_at 32 text) (λ a. and_then (cut_at 32 a.1) (λ b. and_then (cut_at 32 b.1) (λ c. job_in a.0 b.0 c.0 c.1)))

  -- number and weight, with a space between
  abbrev pub reweigh_in : List ℕ → Option (Command (List ℕ))
  reweigh_in text =
      and_then (cut_at 32 text) (λ a. and_then (number_of 65535 a.0) (λ n. and_then (figures_in a.1) (λ w. Some (weighed (Reweigh n) w))))

  abbrev pub call_in : (name text : List ℕ) → Option (Command (List ℕ))
  call_in name text =
      cond (bytes_eq name (codes "offer")) (offer_in text) (cond (bytes_eq name (codes "withdraw")) (numbered (λ n. Make (Withdraw n)) text) (cond (bytes_eq name (codes "reweigh")) (reweigh_in text) None))

abbrev pub question_in : (name text : List ℕ) → Option Question
question_in name text =
    cond (bytes_eq name (codes "standing")) (numbered Standing text) (cond (bytes_eq name (codes "seat")) (numbered Seat text) (cond (bytes_eq name (codes "stretch")) (numbered Stretch text) None))

abbrev pub alone : List ℕ → Option Question
alone line = cond (bytes_eq line (codes "tally")) (Some Tally) (cond (bytes_eq line (codes "print")) (Some Print) None)

abbrev pub asked : {W : Type 0} → Option Question → Option (Command W)
asked None = None
asked (Some question) = Some (Ask question)

abbrev pub or_else : {X : Type 0} → Option X → Option X → Option X
or_else None other = other
or_else (Some x) other = Some x

abbrev pub named_in : (List ℕ → Option (Option (List ℕ))) → Option (List ℕ × List ℕ) → List ℕ → Option (Command (List ℕ))
named_in figures_in None line = asked (alone line)
named_in figures_in (Some p) line = or_else (call_in figures_in p.0 p.1) (asked (question_in p.0 p.1))

-- a word alone, or a name, a space and what follows
abbrev pub command_in : (List ℕ → Option (Option (List ℕ))) → List ℕ → Option (Command (List ℕ))
command_in figures_in line = named_in figures_in (cut_at 32 line) line

-- the calls that begin the lines, up to the first line that is none
abbrev pub call_before : Option (Command (List ℕ)) → List (Call (List ℕ)) → List (Call (List ℕ))
call_before None calls = []
call_before (Some (Make call)) calls = call ∷ calls
call_before (Some (NoWeight f)) calls = []
call_before (Some (Ask question)) calls = []

abbrev pub calls_ahead : (List ℕ → Option (Option (List ℕ))) → List (List ℕ) → List (Call (List ℕ))
calls_ahead figures_in [] = []
calls_ahead figures_in (line ∷ lines) = call_before (command_in figures_in line) (calls_ahead figures_in lines)
