-- The reader's answers at one job record, from what its parts answer.
use Rattle.std.proofs.Common.{◌≡◌, ℕ, ◌+◌, ◌-◌, ◌<◌, Bool, List, [], ◌∷◌, ◌++◌, length, take, drop, sym, refl, ap, ◌∙◌, subst, Ok, Err, Result, MatchResult, arith}
use Rattle.std.proofs.lemmas.List.{append-nil, append_assoc, take_rest, take_at, take-append-drop, drop_at, drop-drop, length-append, length-drop, length_push, length-take-le}
use Rattle.jobs.specs.declared.terms.Job.{Job}
use Rattle.jobs.specs.declared.terms.TableFault.{TableFault}
use Rattle.jobs.specs.Admission.{Admissible, RefusedFor, taken, Admitted}
use Rattle.sheets.specs.declared.fault.LoadFault.{LoadFault}
use Rattle.sheets.specs.declared.fault.LoadFault.TheVariants.{Table}
use Rattle.sheets.specs.Faults.{load_fault_byte}
use Rattle.sheets.specs.Format.{record_bytes, job_value, job_records, Framed, JobCause}
use Rattle.sheets.specs.Steps.{JobRead, JobAnswer, JobsRead, JobsRefused}

-- what the code sees of the sheet from byte `at` on, with a width that a call answered
at_rest : (P : ℕ → List ℕ → Type 0) (sheet : List ℕ) (at n width : ℕ) → n ≡ width → P (6 + n) (take (length sheet - at) (drop at sheet)) → P (6 + width) (drop at sheet)
at_rest P sheet at n width e h = subst (λ k. P (6 + k) (drop at sheet)) e (subst (P (6 + n)) (take_rest sheet at) h)

module _ {W : Type 0} (code width : ℕ) (encoding : W → List ℕ) (before : List (Job W)) (sheet : List ℕ) (at n : ℕ) (known : n ≡ width) where
  abbrev framed_as : List ℕ → Type 0
  framed_as value = Framed 3 (6 + n) (6 + n) (take (length sheet - at) (drop at sheet)) value

  framed_here : (value : List ℕ) → framed_as value → Framed 3 (6 + width) (6 + width) (drop at sheet) value
  framed_here value = at_rest (λ k rest. Framed 3 k k rest value) sheet at n width known

  module _ (value : List ℕ) (f : framed_as value) (job : Job W) (same : job_value encoding job ≡ value) (count : ℕ) (few : length before ≡ count) (b : Bool) (tells : b ≡ taken job.number before) where
    job_framed : Framed 3 (6 + width) (6 + width) (drop at sheet) (job_value encoding job)
    job_framed = subst (λ v. Framed 3 (6 + width) (6 + width) (drop at sheet) v) (sym same) (framed_here value f)

    pub table_refused : (fault : TableFault) → RefusedFor job.number job.ready job.deadline b count fault → (at ≡ at) × JobCause code width encoding before (drop at sheet) (Table fault at)
    table_refused fault h = (
      refl,
      (
        job,
        job_framed,
        subst (λ t. RefusedFor job.number job.ready job.deadline t (length before) fault) tells
            (subst (λ k. RefusedFor job.number job.ready job.deadline b k fault) (sym few) h),
      ),
    )

    pub table_answered : (P : Unit {0} → Type 0) (said : Result (Unit {0}) TableFault) (fault : LoadFault) (answer : Result ℕ LoadFault) → MatchResult said P (RefusedFor job.number job.ready job.deadline b count)
        → MatchResult said (λ _. ⊥) (λ cause. fault ≡ Table cause at) → answer ≡ Err fault → JobAnswer code width encoding before sheet at answer
    table_answered P (Ok done) fault answer h same e = absurd same
    table_answered P (Err cause) fault answer h same e = rw (e, same) (table_refused cause h)

    pub job_read : at < length sheet → Admissible job.number job.ready job.deadline b count → JobRead code width encoding before sheet at (at + 3 + length value)
    job_read inside h =
        let g = framed_here value f in
        let long : length (record_bytes 3 value) ≡ 3 + length value = omega arith in
        let whole : length (drop at sheet) ≡ length (record_bytes 3 value) + length g.after = ap length g.bytes ∙ length-append (record_bytes 3 value) g.after in
        let left : length (drop at sheet) ≡ length sheet - at = length-drop at sheet in
        let behind : drop (at + 3 + length value) sheet ≡ g.after =
        ap (λ k. drop k sheet) (omega arith) ∙ sym (drop-drop (3 + length value) at sheet) ∙ ap (drop (3 + length value)) g.bytes ∙ drop_at (record_bytes 3 value) g.after (3 + length value) long in
        record {
          job = job;
          bytes = g.bytes ∙ ap (λ v. record_bytes 3 v ++ g.after) (sym same) ∙ ap (λ rest. record_bytes 3 (job_value encoding job) ++ rest) (sym behind);
          within = (omega arith, omega arith);
          admissible = subst (λ t. Admissible job.number job.ready job.deadline t (length before)) tells
              (subst (λ k. Admissible job.number job.ready job.deadline b k) (sym few) h);
        }

module _ {W : Type 0} where
  -- a table takes one job more
  pub admitted_more : (before jobs : List (Job W)) (job : Job W) → Admitted before jobs
      → Admissible job.number job.ready job.deadline (taken job.number (before ++ jobs)) (length (before ++ jobs)) → Admitted before (jobs ++ (job ∷ []))
  admitted_more before [] job a h =
      (subst (λ l. Admissible job.number job.ready job.deadline (taken job.number l) (length l)) (append-nil before) h, tt)
  admitted_more before (first ∷ jobs) job a h = (
    a.0,
    admitted_more (before ++ (first ∷ [])) jobs job a.1
        (subst (λ l. Admissible job.number job.ready job.deadline (taken job.number l) (length l)) (sym (append_assoc before (first ∷ []) jobs)) h),
  )

module _ {W : Type 0} (code width : ℕ) (encoding : W → List ℕ) where
  pub records_more : (jobs : List (Job W)) (job : Job W) → job_records encoding (jobs ++ (job ∷ [])) ≡ job_records encoding jobs ++ record_bytes 3 (job_value encoding job)
  records_more [] job = append-nil (record_bytes 3 (job_value encoding job))
  records_more (first ∷ jobs) job =
      ap (λ l. record_bytes 3 (job_value encoding first) ++ l) (records_more jobs job) ∙ sym (append_assoc (record_bytes 3 (job_value encoding first)) (job_records encoding jobs) (record_bytes 3 (job_value encoding job)))

  pub jobs_read_more : (sheet : List ℕ) (first at count next : ℕ) (r : JobsRead code width encoding sheet first at count) → JobRead code width encoding r.jobs sheet at next
      → JobsRead code width encoding sheet first next (count + 1)
  jobs_read_more sheet first at count next r s =
      let front = job_records encoding r.jobs in
      let one = record_bytes 3 (job_value encoding s.job) in
      let left : length (drop first sheet) ≡ length sheet - first = length-drop first sheet in
      let front_long : length front ≡ at - first = ap length (sym r.bytes) ∙ length-take-le (at - first) (drop first sheet) (omega arith) in
      let there : length sheet - at ≡ length one + (length sheet - next) =
      sym (length-drop at sheet) ∙ ap length s.bytes ∙ length-append one (drop next sheet) ∙ ap (λ k. length one + k) (length-drop next sheet) in
      let rest : drop (at - first) (drop first sheet) ≡ drop at sheet = drop-drop (at - first) first sheet ∙ ap (λ k. drop k sheet) (omega arith) in
      let whole : drop first sheet ≡ (front ++ one) ++ drop next sheet =
      sym (take-append-drop (at - first) (drop first sheet)) ∙ ap (λ l. l ++ drop (at - first) (drop first sheet)) r.bytes ∙ ap (λ l. front ++ l) (rest ∙ s.bytes) ∙ sym (append_assoc front one (drop next sheet)) in
      let long : length (front ++ one) ≡ next - first = length-append front one ∙ omega arith in
      record {
        jobs = r.jobs ++ (s.job ∷ []);
        bytes = ap (take (next - first)) whole ∙ take_at (front ++ one) (drop next sheet) (next - first) long ∙ sym (records_more r.jobs s.job);
        number = length_push r.jobs s.job ∙ ap (λ k. k + 1) r.number;
        table = admitted_more [] r.jobs s.job r.table s.admissible;
        within = (omega arith, omega arith);
      }

  -- a refusal at the record behind those that are read
  pub jobs_refused : (sheet : List ℕ) (first at count : ℕ) (fault : LoadFault) (r : JobsRead code width encoding sheet first at count) → at < length sheet → load_fault_byte fault ≡ at
      → JobCause code width encoding r.jobs (drop at sheet) fault → JobsRefused code width encoding sheet first fault
  jobs_refused sheet first at count fault r h e cause =
      let read : JobsRead code width encoding sheet first (load_fault_byte fault) count =
      record { jobs = r.jobs; bytes = ap (λ k. take (k - first) (drop first sheet)) e ∙ r.bytes; number = r.number; table = r.table; within = (omega arith, omega arith) } in
      record { count = count; read = read; more = omega arith; cause = subst (λ k. JobCause code width encoding r.jobs (drop k sheet) fault) (sym e) cause }
