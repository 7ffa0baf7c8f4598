-- A long front of a sheet is refused, and with the sheet's own fault.
use Rattle.std.proofs.Common.{◌≡◌, ℕ, ◌+◌, ◌*◌, ◌<◌, ◌≤◌, ◌⊎◌, List, [], ◌∷◌, ◌++◌, length, get_or, drop, sym, ap, ◌∙◌, inl, inr, mul-le-mul_right, suc-mul, zero-mul, arith, lit<}
use Rattle.std.proofs.lemmas.List.{append_assoc, length-append, length_push, get_or_append_left}
use Rattle.jobs.specs.declared.terms.Job.{Job}
use Rattle.sheets.specs.declared.fault.LoadFault.{LoadFault}
use Rattle.sheets.specs.declared.fault.LoadFault.TheVariants.{Sheet, Table}
use Rattle.sheets.specs.declared.fault.SheetFault.{SheetFault}
use Rattle.sheets.specs.declared.fault.SheetFault.TheVariants.{EndsInside, UnknownTag, OutOfOrder, OtherKind, WrongLength, NoWeight}
use Rattle.jobs.specs.Admission.{Admitted}
use Rattle.sheets.specs.Format.{record_bytes, job_value, job_records, Framed, FrameFault, sheet_bytes, JobCause, Accepted, Refused}
use Rattle.sheets.specs.Fronts.{FrontDecides}
use Rattle.sheets.proofs.JobRecords.{longer}

-- the causes against a record stay when more bytes follow, if there were enough for the longest record that may stand there
module _ (wanted least most : ℕ) (rest more : List ℕ) where
  framed_before : (value : List ℕ) → Framed wanted least most rest value → Framed wanted least most (rest ++ more) value
  framed_before value f =
      record { long = f.long; after = f.after ++ more; bytes = ap (λ l. l ++ more) f.bytes ∙ append_assoc (record_bytes wanted value) f.after more }

  module _ (enough : 3 + most ≤ length rest) where
    header : (k : ℕ) → k < 3 → get_or (rest ++ more) k 0 ≡ get_or rest k 0
    header k h = get_or_append_left rest more 0 k (omega arith)

    complete : 3 ≤ length (rest ++ more)
    complete = omega (arith, length-append rest more)

    fault_before : (fault : SheetFault) → FrameFault wanted least most rest fault → FrameFault wanted least most (rest ++ more) fault
    fault_before EndsInside (inl h) = absurd (omega arith)
    fault_before EndsInside (inr h) = absurd (omega arith)
    fault_before UnknownTag h = rw (header 0 (lit< tt)) (complete, h.1)
    fault_before OutOfOrder (inl h) = absurd (omega arith)
    fault_before OutOfOrder (inr h) = inr (rw (header 0 (lit< tt)) (complete, h.1, h.2))
    fault_before WrongLength h = rw (header 0 (lit< tt), header 1 (lit< tt), header 2 (lit< tt)) (complete, h.1, h.2, h.3)
    fault_before OtherKind h = absurd h
    fault_before NoWeight h = absurd h

    cause_before : {A : Type 0} (value : A → List ℕ) (Wrong : A → Type 0) (other fault : SheetFault)
        → FrameFault wanted least most rest fault ⊎ ((fault ≡ other) × ((a : A) × Framed wanted least most rest (value a) × Wrong a))
        → FrameFault wanted least most (rest ++ more) fault ⊎ ((fault ≡ other) × ((a : A) × Framed wanted least most (rest ++ more) (value a) × Wrong a))
    cause_before value Wrong other fault (inl h) = inl (fault_before fault h)
    cause_before value Wrong other fault (inr h) = inr (h.0, (h.1.0, framed_before (value h.1.0) h.1.1, h.1.2))

-- a table takes at most 256 jobs
admitted_few : {W : Type 0} (before jobs : List (Job W)) → Admitted before jobs → length before ≤ 256 → length before + length jobs ≤ 256
admitted_few before [] a h = omega arith
admitted_few before (job ∷ jobs) a h =
    let one = length_push before job in
    omega (arith, admitted_few (before ++ (job ∷ [])) jobs a.1 (omega (arith, a.0)))

module _ {W : Type 0} (code width : ℕ) (encoding : W → List ℕ) (sized : (w : W) → length (encoding w) ≡ width) where
  records_long : (jobs : List (Job W)) → length (job_records encoding jobs) ≡ length jobs * (9 + width)
  records_long [] = sym (zero-mul (9 + width))
  records_long (job ∷ jobs) =
      let rest = records_long jobs in
      longer encoding width sized job jobs ∙ omega (arith, suc-mul (length jobs) (9 + width))

  -- an accepted sheet is no longer than this, nor is what stands before a refused job
  sheet_long : (masks : List ℕ) (jobs : List (Job W)) → length masks ≤ 1024 → Admitted [] jobs → length (sheet_bytes code encoding masks jobs) ≤ 1031 + 256 * (9 + width)
  sheet_long masks jobs few table =
      let number : length jobs ≤ 256 = omega (arith, admitted_few [] jobs table (omega arith)) in
      omega (arith, length-append masks (job_records encoding jobs), records_long jobs, mul-le-mul_right (9 + width) number)

  job_before_lem : (before : List (Job W)) (rest more : List ℕ) (fault : LoadFault) → 9 + width ≤ length rest → JobCause code width encoding before rest fault → JobCause code width encoding before (rest ++ more) fault
  job_before_lem before rest more (Sheet fault byte) enough h =
      cause_before 3 (6 + width) (6 + width) rest more (omega arith) (λ value. value) (λ value. (w : W) → encoding w ≡ drop 6 value → ⊥) NoWeight fault h
  job_before_lem before rest more (Table fault byte) enough h =
      (h.0, framed_before 3 (6 + width) (6 + width) rest more (job_value encoding h.0) h.1, h.2)

  module _ (front : List ℕ) (enough : 1031 + 257 * (9 + width) ≤ length front) where
    accepted_never : (masks records : List ℕ) (count : ℕ) → Accepted code width encoding front masks records count → ⊥
    accepted_never masks records count a = omega (arith, ap length a.bytes, sheet_long masks a.jobs a.few a.table)

    refused_before : (more : List ℕ) (fault : LoadFault) → Refused code width encoding front fault → Refused code width encoding (front ++ more) fault
    refused_before more (Sheet fault byte) (inl x) =
        inl (record { byte = x.byte; cause = cause_before 1 1 1 front more (omega arith) (λ c. c ∷ []) (λ c. c ≡ code → ⊥) OtherKind fault x.cause })
    refused_before more (Table fault byte) (inl x) = absurd x.cause
    refused_before more (Sheet fault byte) (inr (inl x)) =
        inr (inl (record {
          rest = x.rest ++ more;
          bytes = ap (λ l. l ++ more) x.bytes;
          byte = x.byte;
          cause = fault_before 2 0 1024 x.rest more (omega (arith, ap length x.bytes)) fault x.cause;
        }))
    refused_before more (Table fault byte) (inr (inl x)) = absurd x.cause
    refused_before more fault (inr (inr x)) =
        let read = sheet_bytes code encoding x.masks x.jobs in
        let whole : length front ≡ length read + length x.rest = ap length x.bytes ∙ length-append read x.rest in
        let left : 9 + width ≤ length x.rest = omega (arith, sheet_long x.masks x.jobs x.few x.table) in
        inr (inr (record {
          masks = x.masks;
          jobs = x.jobs;
          rest = x.rest ++ more;
          bytes = ap (λ l. l ++ more) x.bytes ∙ append_assoc read x.rest more;
          few = x.few;
          table = x.table;
          more = omega (arith, length-append x.rest more);
          byte = x.byte;
          cause = job_before_lem x.jobs x.rest more fault left x.cause;
        }))

  pub front_decides : FrontDecides code width encoding (1031 + 257 * (9 + width))
  front_decides front enough = record { accepted = accepted_never front enough; refused = refused_before front enough }
