-- The records of a plan's jobs, one after the other. Assumes nothing.
use Rattle.std.proofs.Common.{◌≡◌, ℕ, ◌+◌, ◌*◌, ◌<◌, ◌≤◌, List, [], ◌∷◌, ◌++◌, length, sym, refl, subst, inl, inr, ◌⊎◌, ap, ◌∙◌, mul-le-mul_right, suc-mul, zero-mul, arith}
use Rattle.std.proofs.lemmas.List.{append-nil, append_assoc, length-append}
use Rattle.jobs.specs.declared.terms.Row.{Row}
use Rattle.jobs.specs.declared.terms.Job.{Job}
use Rattle.placing.specs.Promise.{job_of}
use Rattle.placing.proofs.Sound.{jobs_taken}
use Rattle.calls.specs.Moments.{jobs_in}
use Rattle.questions.proofs.Ranks.{jobs_length}
use Rattle.sheets.specs.Format.{record_bytes, job_value, job_records}
use Rattle.sheets.proofs.JobRecords.{longer}
use Rattle.writing.specs.declared.front.Front.{Front}
use Rattle.writing.specs.Puts.{Room, Adds}
use Rattle.writing.proofs.Puts.{adds_nothing, room_left, adds_then}
use Rattle.sheets.proofs.Steps.{records_more}

pub jobs_in_length : {W : Type 0} (rows : List Row) (store : List W) → length rows ≤ length store → length (jobs_in rows store) ≡ length rows
jobs_in_length rows store h = ap length (jobs_taken rows store) ∙ jobs_length rows store h

module _ {W : Type 0} (encoding : W → List ℕ) (width : ℕ) (sized : (w : W) → length (encoding w) ≡ width) where
  pub records_long : (jobs : List (Job W)) → length (job_records encoding jobs) ≡ length jobs * (9 + width)
  records_long [] = sym (zero-mul (9 + width))
  records_long (job ∷ jobs) = longer encoding width sized job jobs ∙ (ap (λ n. 9 + width + n) (records_long jobs) ∙ omega (arith, suc-mul (length jobs) (9 + width)))

-- of some rows and a store: the records of the first jobs are put, and these rows and this store are left
pub record SoFar {W : Type 0} (encoding : W → List ℕ) (rows : List Row) (store : List W) (rows_left : List Row) (store_left : List W) (before after : Front) : Type 0 where
  pub done : List (Job W)
  pub put : Adds (job_records encoding done) before after
  pub all : jobs_in rows store ≡ done ++ jobs_in rows_left store_left
  pub stored : length rows_left ≤ length store_left

module _ {W : Type 0} (encoding : W → List ℕ) (width : ℕ) (sized : (w : W) → length (encoding w) ≡ width) (rows : List Row) (store : List W) (before after : Front) where
  pub none_yet : length rows ≤ length store → Room 0 before → SoFar encoding rows store rows store before before
  none_yet stored room = record { done = []; put = adds_nothing before room; all = refl; stored = stored }

  module _ (r : Row) (w : W) (rows_left : List Row) (store_left : List W) where
    abbrev Next : Type 0
    Next = SoFar encoding rows store (r ∷ rows_left) (w ∷ store_left) before after

    pub next : (rs : List Row) (ws : List W) → rs ≡ r ∷ rows_left → ws ≡ w ∷ store_left → SoFar encoding rows store rs ws before after → Next
    next rs ws e f s =
        subst (λ left. SoFar encoding rows store left (w ∷ store_left) before after) e (subst (λ left. SoFar encoding rows store rs left before after) f s)

    -- there is room for the record of the next job
    pub next_room : length rows ≤ length store → Room (length rows * (9 + width)) before → Next → Room (9 + width) after
    next_room stored room s =
        let size = 9 + width in
        let all : length rows ≡ length s.done + length (jobs_in (r ∷ rows_left) (w ∷ store_left)) = sym (jobs_in_length rows store stored) ∙ (ap length s.all ∙ length-append s.done (jobs_in (r ∷ rows_left) (w ∷ store_left))) in
        let more : length s.done < length rows = omega arith in
        let long = records_long encoding width sized s.done in
        room_left (job_records encoding s.done) before after s.put size (omega (arith, suc-mul (length s.done) size, mul-le-mul_right size more))

    -- once that record is put
    pub one_more : (now : Front) → Next → Adds (record_bytes 3 (job_value encoding (job_of r w))) after now → SoFar encoding rows store rows_left store_left before now
    one_more now s one =
        let job = job_of r w in
        record {
          done = s.done ++ (job ∷ []);
          put = subst (λ l. Adds l before now) (sym (records_more 0 width encoding s.done job))
              (adds_then (job_records encoding s.done) before after s.put (record_bytes 3 (job_value encoding job)) now one);
          all = s.all ∙ sym (append_assoc s.done (job ∷ []) (jobs_in rows_left store_left));
          stored = omega (arith, s.stored);
        }

  -- once no row is left
  pub all_put : (rows_left : List Row) (store_left : List W) → (length rows_left ≡ 0) ⊎ (length store_left ≡ 0) → SoFar encoding rows store rows_left store_left before after
      → Adds (job_records encoding (jobs_in rows store)) before after
  all_put [] ws none s = subst (λ l. Adds (job_records encoding l) before after) (sym (s.all ∙ append-nil s.done)) s.put
  all_put (r ∷ rs) ws (inl none) s = absurd (omega arith)
  all_put (r ∷ rs) ws (inr none) s = absurd (omega (arith, s.stored))
