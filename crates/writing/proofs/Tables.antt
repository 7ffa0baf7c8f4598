-- A table takes the jobs of a plan, one after the other. Assumes nothing.
use Rattle.std.proofs.Common.{◌≡◌, ℕ, suc, ◌+◌, ◌<◌, ◌≤◌, Bool, true, false, ◌||◌, eqb, List, [], ◌∷◌, ◌++◌, length, take, refl, arith}
use Rattle.std.proofs.lemmas.List.{length_push}
use Rattle.std.proofs.lemmas.Bool.{ne_eqb}
use Rattle.jobs.specs.Admission.{taken, Admitted}
use Rattle.jobs.specs.declared.terms.Row.{Row}
use Rattle.jobs.specs.declared.terms.Job.{Job}
use Rattle.placing.specs.Placing.{row}
use Rattle.placing.specs.Promise.{job_of, jobs_of}
use Rattle.calls.specs.Moments.{jobs_in}
use Rattle.plan.specs.Rows.{Distinct, Numbered, Windows, Tabled}

or_false : (a b : Bool) → a || b ≡ false → (a ≡ false) × (b ≡ false)
or_false true b e = absurd (let z : ◌≡◌ {A = ℕ} 0 1 = cc in omega arith)
or_false false b e = (refl, e)

module _ {W : Type 0} where
  -- a number that one job more does not have either
  taken_push : (number : ℕ) (jobs : List (Job W)) (job : Job W) → taken number jobs ≡ false → (job.number ≡ number → ⊥) → taken number (jobs ++ (job ∷ [])) ≡ false
  taken_push number [] job free other = (let e : eqb job.number number ≡ false = ne_eqb _ _ other in rw e)
  taken_push number (first ∷ jobs) job free other =
      let parts = or_false (eqb first.number number) (taken number jobs) free in
      let e = parts.0 in
      rw e (taken_push number jobs job parts.1 other)

  rows_admitted : (before : List (Job W)) (rows : List Row) (ws : List W) → length before + length rows ≤ 256 → Distinct rows → Numbered rows → Windows rows
      → ((i : ℕ) → i < length rows → taken (row rows i).number before ≡ false) → Admitted before (jobs_of rows ws)
  rows_admitted before [] ws few distinct numbered windows free = tt
  rows_admitted before (r ∷ rs) [] few distinct numbered windows free = tt
  rows_admitted before (r ∷ rs) (w ∷ ws) few distinct numbered windows free =
      let long = length_push before (job_of r w) in (
        (numbered 0 (omega arith), windows 0 (omega arith), free 0 (omega arith), omega arith),
        rows_admitted (before ++ (job_of r w ∷ [])) rs ws (omega arith)
            (λ i j a b. distinct (suc i) (suc j) (omega arith) (omega arith)) (λ i l. numbered (suc i) (omega arith)) (λ i l. windows (suc i) (omega arith))
            (λ i l. taken_push (row rs i).number before (job_of r w) (free (suc i) (omega arith)) (distinct 0 (suc i) (omega arith) (omega arith))),
      )

  pub table_admitted : (rows : List Row) (store : List W) → Tabled rows → Admitted [] (jobs_in rows store)
  table_admitted rows store t =
      let few = t.few in
      rows_admitted [] rows (take (length rows) store) (omega arith) t.distinct t.numbered t.windows (λ i l. refl)
