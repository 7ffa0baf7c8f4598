-- The records of some jobs, one after the other: how long they are, what the first says, one more at the end.
use Rattle.std.proofs.Common.{◌≡◌, ℕ, zero, suc, ◌+◌, ◌-◌, ◌*◌, ◌/◌, ◌%◌, ◌<◌, ◌≤◌, eqb, List, [], ◌∷◌, ◌++◌, map, Bool, length, get_or, take, drop, Some, None, Option, Ok, Err, Result, sym, refl, ap, ◌∙◌, subst, suc-mul, zero-mul, arith, inl, inr, ◌⊎◌, MatchOption, MatchResult}
use Rattle.std.specs.List.{slice_range, list_any}
use Rattle.std.specs.Iterator.{AlwaysYields}
use Rattle.std.specs.Slice.Iter.{chunks_exact_rest, chunks_exact_size, chunks_exact_steps}
use Rattle.std.proofs.lemmas.Iterator.{YieldsList}
use Rattle.std.specs.Result.{result_ok}
use Rattle.std.proofs.lemmas.Slice.{between_is, between_from_start, between_to_end}
use Rattle.weights.specs.declared.fault.WeightFault.{WeightFault}
use Rattle.std.proofs.lemmas.List.{take_rest, drop_at, drop-drop, take_at, length-append}
use Rattle.jobs.specs.declared.terms.Job.{Job}
use Rattle.jobs.specs.Admission.{taken}
use Rattle.jobs.specs.Lists.{nth}
use Rattle.sheets.specs.Format.{record_bytes, job_value, job_records, JobAt}

abbrev pub record_of : {W : Type 0} → (W → List ℕ) → Job W → List ℕ
record_of encoding job = record_bytes 3 (job_value encoding job)

module _ {W : Type 0} (encoding : W → List ℕ) (width : ℕ) (sized : (w : W) → length (encoding w) ≡ width) where
  pub value_long : (job : Job W) → length (job_value encoding job) ≡ 6 + width
  value_long job = let s = sized job.weight in omega arith

  pub record_long : (job : Job W) → length (record_bytes 3 (job_value encoding job)) ≡ 9 + width
  record_long job = let s = value_long job in omega arith

  pub longer : (head : Job W) (jobs : List (Job W)) → length (job_records encoding (head ∷ jobs)) ≡ 9 + width + length (job_records encoding jobs)
  longer head jobs = length-append (record_bytes 3 (job_value encoding head)) (job_records encoding jobs) ∙ ap (λ n. n + length (job_records encoding jobs)) (record_long head)

  -- cut into parts of a record's size, some jobs' records give the record of each
  cuts : (jobs : List (Job W)) (s : _) → chunks_exact_rest s ≡ job_records encoding jobs → chunks_exact_size s ≡ 9 + width
      → AlwaysYields chunks_exact_steps (λ part. part.now) s (map (record_of encoding) jobs)
  cuts [] s e size = λ part t step. omega (arith, ap length (sym e ∙ step.1.0), length-append part.now (chunks_exact_rest t))
  cuts (job ∷ jobs) s e size = (
    λ t step. omega (arith, ap length e, longer job jobs),
    λ part t step.
        let same : part.now ++ chunks_exact_rest t ≡ record_of encoding job ++ job_records encoding jobs = sym step.1.0 ∙ e in
        let long : length part.now ≡ 9 + width = step.1.1 ∙ size in
        let one = record_long job in (
          sym (take_at part.now (chunks_exact_rest t) (9 + width) long) ∙ ap (take (9 + width)) same ∙ take_at (record_of encoding job) (job_records encoding jobs) (9 + width) one,
          cuts jobs t (sym (drop_at part.now (chunks_exact_rest t) (9 + width) long) ∙ ap (drop (9 + width)) same ∙ drop_at (record_of encoding job) (job_records encoding jobs) (9 + width) one) (step.0 ∙ size),
        ),
  )

  pub records_cut : (jobs : List (Job W)) (s : _) (records : List ℕ) → chunks_exact_rest s ≡ records → records ≡ job_records encoding jobs → chunks_exact_size s ≡ 9 + width
      → YieldsList chunks_exact_steps (λ part. part.now) s (map (record_of encoding) jobs)
  records_cut jobs s records e f size = record { runs = cuts jobs s (e ∙ f) size }

-- whether the number in a job's record is this one
abbrev pub numbered : ℕ → List ℕ → Bool
numbered number part = eqb (get_or part 3 0 * 256 + get_or part 4 0) number

pub numbered_taken : {W : Type 0} (encoding : W → List ℕ) (number : ℕ) (jobs : List (Job W)) → list_any (numbered number) (map (record_of encoding) jobs) ≡ taken number jobs
numbered_taken encoding number [] = refl
numbered_taken encoding number (job ∷ jobs) =
    let same : job.number / 256 * 256 + job.number % 256 ≡ job.number = omega arith in
    let more = numbered_taken encoding number jobs in
    rw (same, more) refl

-- the value of the record at byte `at`, which is the front of what is left there
pub value_at : (records rest one : List ℕ) (at size : ℕ) → 3 ≤ size → rest ≡ slice_range records at (length records) → one ≡ slice_range rest 0 size
    → take (length one - 3) (drop 3 one) ≡ take (size - 3) (drop (at + 3) records)
value_at records rest one at size h p q =
    let left : rest ≡ drop at records = p ∙ between_to_end records at (length records) (omega arith) in
    let front : one ≡ take size (drop at records) = q ∙ between_from_start rest size ∙ ap (take size) left in
    take_rest one 3 ∙ ap (drop 3) front ∙ sym (between_is (drop at records) 3 size) ∙ ap (take (size - 3)) (drop-drop 3 at records)

-- what was read of the value of the k-th record is the job there; else no job is there
pub job_at_read : {W : Type 0} (encoding : W → List ℕ) (records value : List ℕ) (k width n : ℕ) (read : Result (Job W) WeightFault) → n ≡ width → k * (9 + n) + (9 + n) ≤ length records
    → value ≡ take (9 + n - 3) (drop (k * (9 + n) + 3) records)
    → MatchResult read (λ job. job_value encoding job ≡ value) (λ _. (length value < 6) ⊎ ((w : W) → encoding w ≡ drop 6 value → ⊥))
    → MatchOption (result_ok read) ((job : Job W) → JobAt encoding (9 + width) records k job → ⊥) (λ job. JobAt encoding (9 + width) records k job)
job_at_read encoding records value k width n (Ok job) w fits v r = subst (λ m. JobAt encoding (9 + m) records k job) w (fits, r ∙ v)
job_at_read encoding records value k width n (Err fault) w fits v r = λ job at.
    let same : job_value encoding job ≡ value = at.1 ∙ (ap (λ m. take (9 + m - 3) (drop (k * (9 + m) + 3) records)) (sym w) ∙ sym v) in
    elim r [
      | inl short ↦ omega (arith, ap length same)
      | inr none ↦ none job.weight (ap (drop 6) same)
    ]

-- a number, and so a job, is known by its bytes
two_same : (m n : ℕ) → m / 256 ≡ n / 256 → m % 256 ≡ n % 256 → m ≡ n
two_same m n p q = omega arith

pub job_same : {W : Type 0} (encoding : W → List ℕ) → ((a b : W) → encoding a ≡ encoding b → a ≡ b) → (i j : Job W) → job_value encoding i ≡ job_value encoding j → i ≡ j
job_same encoding injective i j e =
    let n : i.number ≡ j.number = two_same i.number j.number (ap (λ l. get_or l 0 0) e) (ap (λ l. get_or l 1 0) e) in
    let r : i.ready ≡ j.ready = two_same i.ready j.ready (ap (λ l. get_or l 2 0) e) (ap (λ l. get_or l 3 0) e) in
    let d : i.deadline ≡ j.deadline = two_same i.deadline j.deadline (ap (λ l. get_or l 4 0) e) (ap (λ l. get_or l 5 0) e) in
    let w : i.weight ≡ j.weight = injective i.weight j.weight (ap (drop 6) e) in
    λ k. record { number = n k; ready = r k; deadline = d k; weight = w k }

module _ {W : Type 0} (encoding : W → List ℕ) (width : ℕ) (sized : (w : W) → length (encoding w) ≡ width) (injective : (a b : W) → encoding a ≡ encoding b → a ≡ b) where
  abbrev At : List (Job W) → ℕ → Job W → Type 0
  At jobs k job = JobAt encoding (9 + width) (job_records encoding jobs) k job

  -- the first record
  first_here : (head : Job W) (jobs : List (Job W)) → At (head ∷ jobs) 0 head
  first_here head jobs =
      let long = value_long encoding width sized head in
      let whole = length-append (job_value encoding head) (job_records encoding jobs) in
      rw (zero-mul (9 + width)) (omega arith, sym (take_at (job_value encoding head) (job_records encoding jobs) (9 + width - 3) (omega arith)))

  first_only : (head : Job W) (jobs : List (Job W)) (job : Job W) → At (head ∷ jobs) 0 job → job ≡ head
  first_only head jobs job a =
      let long = value_long encoding width sized head in
      let b : (0 + (9 + width) ≤ length (job_records encoding (head ∷ jobs))) × (job_value encoding job ≡ take (9 + width - 3) (drop (0 + 3) (job_records encoding (head ∷ jobs)))) = rw zero-mul at a in
      job_same encoding injective job head (b.1 ∙ take_at (job_value encoding head) (job_records encoding jobs) (9 + width - 3) (omega arith))

  -- the record after the next, seen from either
  shift : (head : Job W) (jobs : List (Job W)) (k : ℕ) → drop (suc k * (9 + width) + 3) (job_records encoding (head ∷ jobs)) ≡ drop (k * (9 + width) + 3) (job_records encoding jobs)
  shift head jobs k =
      let size = 9 + width in
      let one = record_bytes 3 (job_value encoding head) in
      let long = record_long encoding width sized head in
      let same : suc k * size + 3 ≡ size + (k * size + 3) = omega (arith, suc-mul k size) in
      ap (λ n. drop n (job_records encoding (head ∷ jobs))) same ∙ sym (drop-drop (k * size + 3) size (job_records encoding (head ∷ jobs)))
      ∙ ap (drop (k * size + 3)) (drop_at one (job_records encoding jobs) size long)

  later_there : (head : Job W) (jobs : List (Job W)) (k : ℕ) (job : Job W) → At jobs k job → At (head ∷ jobs) (suc k) job
  later_there head jobs k job a =
      (omega (arith, suc-mul k (9 + width), longer encoding width sized head jobs, a.0), a.1 ∙ ap (take (9 + width - 3)) (sym (shift head jobs k)))

  later_back : (head : Job W) (jobs : List (Job W)) (k : ℕ) (job : Job W) → At (head ∷ jobs) (suc k) job → At jobs k job
  later_back head jobs k job a =
      (omega (arith, suc-mul k (9 + width), longer encoding width sized head jobs, a.0), a.1 ∙ ap (take (9 + width - 3)) (shift head jobs k))

  -- the k-th job is found at the k-th record, and none else
  pub nth_at : (jobs : List (Job W)) (k : ℕ) (found : Option (Job W)) → MatchOption found ((job : Job W) → At jobs k job → ⊥) (λ job. At jobs k job) → found ≡ nth jobs k
  nth_at [] k None a = refl
  nth_at [] k (Some job) a = absurd (omega (arith, a.0))
  nth_at (head ∷ jobs) zero None a = absurd (a head (first_here head jobs))
  nth_at (head ∷ jobs) zero (Some job) a = ap Some (first_only head jobs job a)
  nth_at (head ∷ jobs) (suc k) None a = nth_at jobs k None (λ job b. a job (later_there head jobs k job b))
  nth_at (head ∷ jobs) (suc k) (Some job) a = nth_at jobs k (Some job) (later_back head jobs k job a)
