-- A record has one first cause against it, or none.
use Rattle.std.proofs.Common.{◌≡◌, ℕ, ◌+◌, ◌/◌, ◌%◌, Bool, cond, ◌&&◌, eqb, ltb, leb, ◌⊎◌, List, ◌++◌, length, get_or, take, drop, Some, None, Option, sym, refl, ap, ◌∙◌, subst, inl, inr, arith, lit≤}
use Rattle.std.proofs.lemmas.List.{take_at, drop_at, length-append}
use Rattle.std.proofs.lemmas.Bool.Decides.{nat_tests}
use Rattle.jobs.specs.declared.terms.Job.{Job}
use Rattle.jobs.specs.declared.terms.TableFault.{TableFault}
use Rattle.jobs.specs.declared.terms.TableFault.TheVariants.{NumberZero, NoWindow, NumberTaken, TableFull}
use Rattle.jobs.specs.Admission.{Admissible, RefusedFor, taken}
use Rattle.sheets.specs.declared.fault.LoadFault.{LoadFault}
use Rattle.sheets.specs.declared.fault.LoadFault.TheVariants.{Sheet, Table}
use Rattle.sheets.specs.declared.fault.SheetFault.{SheetFault}
use Rattle.sheets.specs.declared.fault.SheetFault.TheVariants.{EndsInside, UnknownTag, OutOfOrder, OtherKind, WrongLength, NoWeight}
use Rattle.sheets.specs.Faults.{load_fault_byte}
use Rattle.sheets.specs.Format.{record_bytes, job_value, tag_of, length_of, Known, Framed, FrameFault, JobCause}
use Rattle.sheets.proofs.JobRecords.{job_same}

-- a record at the front of some bytes is known by them
pub record_front : (t u : ℕ) (v w r s : List ℕ) → record_bytes t v ++ r ≡ record_bytes u w ++ s → (t ≡ u) × (v ≡ w) × (r ≡ s)
record_front t u v w r s e =
    let high : length v / 256 ≡ length w / 256 = ap (λ l. get_or l 1 0) e in
    let low : length v % 256 ≡ length w % 256 = ap (λ l. get_or l 2 0) e in
    let long : length w ≡ length v = omega arith in
    let body : v ++ r ≡ w ++ s = ap (drop 3) e in (
      ap (λ l. get_or l 0 0) e,
      sym (take_at v r (length v) refl) ∙ ap (take (length v)) body ∙ take_at w s (length v) long,
      sym (drop_at v r (length v) refl) ∙ ap (drop (length v)) body ∙ drop_at w s (length v) long,
    )

module _ (wanted least most : ℕ) (rest : List ℕ) where
  -- the causes against a frame, in the order in which they are checked
  abbrev frame_verdict : Option SheetFault
  frame_verdict =
      cond (eqb (length rest) 0) (Some OutOfOrder)
      (cond (ltb (length rest) 3) (Some EndsInside)
      (cond (leb 1 (tag_of rest) && leb (tag_of rest) 3)
      (cond (eqb (tag_of rest) wanted)
      (cond (leb least (length_of rest) && leb (length_of rest) most)
      (cond (ltb (length rest) (3 + length_of rest)) (Some EndsInside) None)
      (Some WrongLength))
      (Some OutOfOrder))
      (Some UnknownTag)))

  frame_fault : (fault : SheetFault) → FrameFault wanted least most rest fault → frame_verdict ≡ Some fault
  frame_fault EndsInside h = grind (arith, nat_tests)
  frame_fault UnknownTag h = grind (arith, nat_tests)
  frame_fault OutOfOrder h = grind (arith, nat_tests)
  frame_fault WrongLength h = grind (arith, nat_tests)
  frame_fault OtherKind h = absurd h
  frame_fault NoWeight h = absurd h

  frame_none : Known wanted → (value : List ℕ) → Framed wanted least most rest value → frame_verdict ≡ None
  frame_none known value f =
      let tag : tag_of rest ≡ wanted = ap (λ l. get_or l 0 0) f.bytes in
      let high : get_or rest 1 0 ≡ length value / 256 = ap (λ l. get_or l 1 0) f.bytes in
      let low : get_or rest 2 0 ≡ length value % 256 = ap (λ l. get_or l 2 0) f.bytes in
      let says : length_of rest ≡ length value = omega arith in
      let whole : length rest ≡ 3 + length value + length f.after = ap length f.bytes ∙ length-append (record_bytes wanted value) f.after ∙ omega arith in
      grind (arith, nat_tests)

  pub frame_alone : (f g : SheetFault) → FrameFault wanted least most rest f → FrameFault wanted least most rest g → f ≡ g
  frame_alone f g x y = let p = frame_fault f x in let q = frame_fault g y in cc

  pub frame_right : Known wanted → (f : SheetFault) (value : List ℕ) → FrameFault wanted least most rest f → Framed wanted least most rest value → ⊥
  frame_right known f value x y = let p = frame_fault f x in let q = frame_none known value y in grind arith

  framed_same : (v w : List ℕ) → Framed wanted least most rest v → Framed wanted least most rest w → v ≡ w
  framed_same v w x y = (record_front wanted wanted v w x.after y.after (sym x.bytes ∙ y.bytes)).1

  -- a fault of the frame, or one other fault of what stands in it
  pub cause_alone : {A : Type 0} (value : A → List ℕ) (Wrong : A → Type 0) (other : SheetFault) → Known wanted → (f g : SheetFault)
      → FrameFault wanted least most rest f ⊎ ((f ≡ other) × ((a : A) × Framed wanted least most rest (value a) × Wrong a))
      → FrameFault wanted least most rest g ⊎ ((g ≡ other) × ((a : A) × Framed wanted least most rest (value a) × Wrong a)) → f ≡ g
  cause_alone value Wrong other known f g (inl x) (inl y) = frame_alone f g x y
  cause_alone value Wrong other known f g (inl x) (inr y) = absurd (frame_right known f (value y.1.0) x y.1.1)
  cause_alone value Wrong other known f g (inr x) (inl y) = absurd (frame_right known g (value x.1.0) y x.1.1)
  cause_alone value Wrong other known f g (inr x) (inr y) = x.0 ∙ sym y.0

module _ (number ready deadline : ℕ) (number_taken : Bool) (count : ℕ) where
  -- the table's causes, in the order in which they are checked
  abbrev table_verdict : Option TableFault
  table_verdict =
      cond (eqb number 0) (Some (NumberZero number))
      (cond (ltb ready deadline && leb deadline 1024)
      (cond number_taken (Some (NumberTaken number)) (cond (leb 256 count) (Some (TableFull number)) None))
      (Some (NoWindow number)))

  table_fault : (fault : TableFault) → RefusedFor number ready deadline number_taken count fault → table_verdict ≡ Some fault
  table_fault (NumberZero job) h = grind (arith, nat_tests)
  table_fault (NoWindow job) h = grind (arith, nat_tests)
  table_fault (NumberTaken job) h = grind (arith, nat_tests)
  table_fault (TableFull job) h = grind (arith, nat_tests)

  table_alone : (f g : TableFault) → RefusedFor number ready deadline number_taken count f → RefusedFor number ready deadline number_taken count g → f ≡ g
  table_alone f g x y = let p = table_fault f x in let q = table_fault g y in cc

  table_right : (f : TableFault) → RefusedFor number ready deadline number_taken count f → Admissible number ready deadline number_taken count → ⊥
  table_right f x a = let p = table_fault f x in grind (arith, nat_tests)

module _ {W : Type 0} (code width : ℕ) (encoding : W → List ℕ) (injective : (a b : W) → encoding a ≡ encoding b → a ≡ b) (before : List (Job W)) (rest : List ℕ) where
  abbrev HasJob : Job W → Type 0
  HasJob job = Framed 3 (6 + width) (6 + width) rest (job_value encoding job)

  abbrev Cause : LoadFault → Type 0
  Cause fault = JobCause code width encoding before rest fault

  -- where a job stands, neither its frame nor its weight is at fault
  job_right : (job : Job W) (f : SheetFault) (byte : ℕ) → HasJob job → Cause (Sheet f byte) → ⊥
  job_right job f byte h (inl x) = frame_right 3 (6 + width) (6 + width) rest (lit≤ tt, lit≤ tt) f (job_value encoding job) x h
  job_right job f byte h (inr x) =
      x.1.2 job.weight (ap (drop 6) (framed_same 3 (6 + width) (6 + width) rest (job_value encoding job) x.1.0 h x.1.1))

  -- so what the table has against the record is against that job
  against_job : (job : Job W) (f : TableFault) (byte : ℕ) → HasJob job → Cause (Table f byte) → RefusedFor job.number job.ready job.deadline (taken job.number before) (length before) f
  against_job job f byte h x =
      let same = framed_same 3 (6 + width) (6 + width) rest (job_value encoding x.0) (job_value encoding job) x.1 h in
      subst (λ one. RefusedFor one.number one.ready one.deadline (taken one.number before) (length before) f) (job_same encoding injective x.0 job same) x.2

  pub job_cause_alone : (f g : LoadFault) → Cause f → Cause g → load_fault_byte f ≡ load_fault_byte g → f ≡ g
  job_cause_alone (Sheet f a) (Sheet g b) x y e =
      let p = cause_alone 3 (6 + width) (6 + width) rest (λ value. value) (λ value. (w : W) → encoding w ≡ drop 6 value → ⊥) NoWeight (lit≤ tt, lit≤ tt) f g x y in cc
  job_cause_alone (Sheet f a) (Table g b) x y e = absurd (job_right y.0 f a y.1 x)
  job_cause_alone (Table f a) (Sheet g b) x y e = absurd (job_right x.0 g b x.1 y)
  job_cause_alone (Table f a) (Table g b) x y e =
      let job = y.0 in
      let p = table_alone job.number job.ready job.deadline (taken job.number before) (length before) f g (against_job job f a y.1 x) y.2 in cc

  -- there is no cause against a job that the table takes
  pub job_cause_right : (job : Job W) (f : LoadFault) → HasJob job → Admissible job.number job.ready job.deadline (taken job.number before) (length before) → Cause f → ⊥
  job_cause_right job (Sheet f a) h ok x = job_right job f a h x
  job_cause_right job (Table f a) h ok x = table_right job.number job.ready job.deadline (taken job.number before) (length before) f (against_job job f a h x) ok
