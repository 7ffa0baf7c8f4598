-- One job more, one less, or one in another rank: what it does to the standings of the others. Assumes nothing.
--   OneMore fewer p more       the rows of `more` are those of `fewer`, with one more at rank p; seats are their own
--   AtMostOne ..               but for the named one, at most one number changes its standing
--   Answered ..                there is a right answer: who else changed
--   OfferChangesOne            an offer changes the standing of at most one other
--   OfferOnlyDrops             and only drops it, for the job offered
--   WithdrawalChangesOne       so does a withdrawal
--   WithdrawalOnlyRevives      and only keeps a dropped one again, in the place of the job withdrawn
--   RerankingChangesOne        so does a job that changes its rank
--   AnswerAlone                there is one right answer
use Rattle.std.specs.Prelude.{◌≡◌, ℕ, suc, ◌<◌, ◌≤◌, Bool, List, length, Option, ◌≢◌}
use Rattle.jobs.specs.declared.terms.Row.{Row}
use Rattle.jobs.specs.declared.terms.Standing.TheVariants as standings
use Rattle.placing.specs.Placing.{row, SameJob, Apart}
use Rattle.placing.specs.Plan.{KeptRule, Stands}
use Rattle.placing.specs.Promise.{Changed, OneOther}

pub record OneMore (fewer : List Row) (p : ℕ) (more : List Row) : Type 0 where
  pub within : p ≤ length fewer
  pub size : length more ≡ suc (length fewer)
  pub front : (j : ℕ) → j < p → SameJob (row fewer j) (row more j)
  pub back : (j : ℕ) → p ≤ j → j < length fewer → SameJob (row fewer j) (row more (suc j))

abbrev pub AtMostOne : List Row → List Row → ℕ → Type 0
AtMostOne before after named = (a b : ℕ) → (a ≢ named) → (b ≢ named) → Changed before after a → Changed before after b → a ≡ b

abbrev pub Answered : List Row → List Row → ℕ → Type 0
Answered before after named = (answer : Bool × Option ℕ) × OneOther before after named answer

abbrev pub OfferChangesOne : Type 0
OfferChangesOne = (mask : ℕ → ℕ) (before after : List Row) (p : ℕ) → OneMore before p after → Apart after → KeptRule mask before → KeptRule mask after →
    AtMostOne before after (row after p).number × Answered before after (row after p).number

abbrev pub OfferOnlyDrops : Type 0
OfferOnlyDrops = (mask : ℕ → ℕ) (before after : List Row) (p : ℕ) → OneMore before p after → Apart after → KeptRule mask before → KeptRule mask after →
    (n : ℕ) → (n ≢ (row after p).number) → Changed before after n →
    Stands before n standings.Kept × Stands after n standings.Dropped × Stands after (row after p).number standings.Kept

abbrev pub WithdrawalChangesOne : Type 0
WithdrawalChangesOne = (mask : ℕ → ℕ) (before after : List Row) (p : ℕ) → OneMore after p before → Apart before → KeptRule mask before → KeptRule mask after →
    AtMostOne before after (row before p).number × Answered before after (row before p).number

abbrev pub WithdrawalOnlyRevives : Type 0
WithdrawalOnlyRevives = (mask : ℕ → ℕ) (before after : List Row) (p : ℕ) → OneMore after p before → Apart before → KeptRule mask before → KeptRule mask after →
    (n : ℕ) → (n ≢ (row before p).number) → Changed before after n →
    Stands before n standings.Dropped × Stands after n standings.Kept × Stands before (row before p).number standings.Kept

abbrev pub RerankingChangesOne : Type 0
RerankingChangesOne = (mask : ℕ → ℕ) (before rest after : List Row) (p q : ℕ) → OneMore rest p before → OneMore rest q after → SameJob (row before p) (row after q) → Apart before →
    KeptRule mask before → KeptRule mask after →
    AtMostOne before after (row before p).number × Answered before after (row before p).number

abbrev pub AnswerAlone : Type 0
AnswerAlone = (before after : List Row) (named : ℕ) (a b : Bool × Option ℕ) → OneOther before after named a → OneOther before after named b → a ≡ b
