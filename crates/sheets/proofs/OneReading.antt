-- A sheet has one reading.
use Rattle.std.proofs.Common.{◌≡◌, ℕ, ◌≤◌, ◌⊎◌, List, [], ◌∷◌, ◌++◌, length, get_or, drop, sym, refl, ap, ◌∙◌, subst, inl, inr, arith, lit≤}
use Rattle.std.proofs.lemmas.List.{append-nil, append_assoc}
use Rattle.jobs.specs.declared.terms.Job.{Job}
use Rattle.jobs.specs.Admission.{Admissible, taken, Admitted}
use Rattle.sheets.specs.declared.fault.LoadFault.{LoadFault}
use Rattle.sheets.specs.declared.fault.LoadFault.TheVariants.{Sheet, Table}
use Rattle.sheets.specs.declared.fault.SheetFault.TheVariants.{OtherKind}
use Rattle.sheets.specs.Format.{record_bytes, kind_record, job_value, job_records, sheet_bytes, JobCause, KindRefused, CalendarRefused, JobRefused, Accepted, Refused}
use Rattle.sheets.specs.Reading.{OneReading}
use Rattle.sheets.proofs.JobRecords.{value_long, job_same}
use Rattle.sheets.proofs.OneCause.{record_front, frame_alone, frame_right, cause_alone, job_cause_alone, job_cause_right}

module _ (code : ℕ) (sheet : List ℕ) where
  abbrev AtKind : LoadFault → Type 0
  AtKind fault = KindRefused (λ other. other ≡ code) sheet fault

  kind_alone : (f g : LoadFault) → AtKind f → AtKind g → f ≡ g
  kind_alone (Sheet f a) (Sheet g b) x y =
      let p = cause_alone 1 1 1 sheet (λ c. c ∷ []) (λ c. c ≡ code → ⊥) OtherKind (lit≤ tt, lit≤ tt) f g x.cause y.cause in
      let q : a ≡ b = x.byte ∙ sym y.byte in cc
  kind_alone (Sheet f a) (Table g b) x y = absurd y.cause
  kind_alone (Table f a) g x y = absurd x.cause

  -- a sheet that begins with the right kind is not refused there
  kind_right : (rest : List ℕ) (f : LoadFault) → sheet ≡ kind_record code ++ rest → AtKind f → ⊥
  kind_right rest (Table f a) e x = x.cause
  kind_right rest (Sheet f a) e x =
      elim x.cause [
        | inl h ↦ frame_right 1 1 1 sheet (lit≤ tt, lit≤ tt) f (code ∷ []) h (record { long = (lit≤ tt, lit≤ tt); after = rest; bytes = e })
        | inr h ↦ h.1.2 (ap (λ l. get_or l 3 0) (sym h.1.1.bytes ∙ e))
      ]

module _ {W : Type 0} (code width : ℕ) (encoding : W → List ℕ) (sheet : List ℕ) where
  abbrev AtCalendar : LoadFault → Type 0
  AtCalendar fault = CalendarRefused code width encoding sheet fault

  calendar_alone : (f g : LoadFault) → AtCalendar f → AtCalendar g → f ≡ g
  calendar_alone (Sheet f a) (Sheet g b) x y =
      let same : y.rest ≡ x.rest = ap (drop 4) (sym y.bytes ∙ x.bytes) in
      let p = frame_alone 2 0 1024 x.rest f g x.cause (rw same at y.cause) in
      let q : a ≡ b = x.byte ∙ sym y.byte in cc
  calendar_alone (Sheet f a) (Table g b) x y = absurd y.cause
  calendar_alone (Table f a) g x y = absurd x.cause

  calendar_right : (masks rest : List ℕ) (f : LoadFault) → sheet ≡ kind_record code ++ (record_bytes 2 masks ++ rest) → length masks ≤ 1024 → AtCalendar f → ⊥
  calendar_right masks rest (Table f a) e few x = x.cause
  calendar_right masks rest (Sheet f a) e few x =
      frame_right 2 0 1024 x.rest (lit≤ tt, lit≤ tt) f masks x.cause (record { long = (omega arith, few); after = rest; bytes = ap (drop 4) (sym x.bytes ∙ e) })

module _ {W : Type 0} (code width : ℕ) (encoding : W → List ℕ) (sized : (w : W) → length (encoding w) ≡ width) (injective : (a b : W) → encoding a ≡ encoding b → a ≡ b) where
  -- behind the jobs that are read: nothing, or a record that is refused
  abbrev Ended : List (Job W) → List ℕ → Type 0
  Ended before rest = (rest ≡ []) ⊎ ((fault : LoadFault) × JobCause code width encoding before rest fault)

  not_ended : (before : List (Job W)) (job : Job W) (rest after : List ℕ) → rest ≡ record_bytes 3 (job_value encoding job) ++ after
      → Admissible job.number job.ready job.deadline (taken job.number before) (length before) → Ended before rest → ⊥
  not_ended before job rest after e ok (inl none) = omega (arith, ap length (sym none ∙ e))
  not_ended before job rest after e ok (inr x) =
      let long = value_long encoding width sized job in
      job_cause_right code width encoding injective before rest job x.0 (record { long = (omega arith, omega arith); after = after; bytes = e }) ok x.1

  jobs_same : (before js ks : List (Job W)) (r s : List ℕ) → Admitted before js → Admitted before ks → Ended (before ++ js) r → Ended (before ++ ks) s
      → job_records encoding js ++ r ≡ job_records encoding ks ++ s → (js ≡ ks) × (r ≡ s)
  jobs_same before [] [] r s a b x y e = (refl, e)
  jobs_same before [] (k ∷ ks) r s a b x y e =
      absurd (not_ended before k r (job_records encoding ks ++ s) (e ∙ append_assoc (record_bytes 3 (job_value encoding k)) (job_records encoding ks) s) b.0 (rw append-nil at x))
  jobs_same before (j ∷ js) [] r s a b x y e =
      absurd (not_ended before j s (job_records encoding js ++ r) (sym e ∙ append_assoc (record_bytes 3 (job_value encoding j)) (job_records encoding js) r) a.0 (rw append-nil at y))
  jobs_same before (j ∷ js) (k ∷ ks) r s a b x y e =
      let apart = record_front 3 3 (job_value encoding j) (job_value encoding k) (job_records encoding js ++ r) (job_records encoding ks ++ s) (simp append_assoc at e) in
      let same : k ≡ j = job_same encoding injective k j (sym apart.1) in
      let later = jobs_same (before ++ (j ∷ [])) js ks r s a.1 (subst (λ job. Admitted (before ++ (job ∷ [])) ks) same b.1)
      (subst (λ l. Ended l r) (sym (append_assoc before (j ∷ []) js)) x)
      (subst (λ l. Ended l s) (ap (λ job. before ++ (job ∷ ks)) same ∙ sym (append_assoc before (j ∷ []) ks)) y) apart.2 in
      let p = later.0 in (cc, later.1)

  -- a sheet whose kind and calendar are right: its masks, the jobs that are read, and what is behind them
  record Listed (sheet masks : List ℕ) (jobs : List (Job W)) (rest : List ℕ) : Type 0 where
    bytes : sheet ≡ kind_record code ++ (record_bytes 2 masks ++ (job_records encoding jobs ++ rest))
    few : length masks ≤ 1024
    table : Admitted [] jobs
    ended : Ended jobs rest

  module _ (sheet : List ℕ) where
    abbrev Reads : List ℕ → List ℕ → ℕ → Type 0
    Reads masks records count = Accepted code width encoding sheet masks records count

    abbrev AtJob : LoadFault → Type 0
    AtJob fault = JobRefused code width encoding sheet fault

    read_listed : (m p : List ℕ) (c : ℕ) (a : Reads m p c) → Listed sheet m a.jobs []
    read_listed m p c a =
        let behind = sym (append-nil (job_records encoding a.jobs)) in
        record { bytes = a.bytes ∙ ap (λ l. kind_record code ++ (record_bytes 2 m ++ l)) behind; few = a.few; table = a.table; ended = inl refl }

    refused_listed : (f : LoadFault) (a : AtJob f) → Listed sheet a.masks a.jobs a.rest
    refused_listed f a =
        let behind = append_assoc (record_bytes 2 a.masks) (job_records encoding a.jobs) a.rest in
        record { bytes = a.bytes ∙ ap (λ l. kind_record code ++ l) behind; few = a.few; table = a.table; ended = inr (f, a.cause) }

    listed_same : (m n : List ℕ) (js ks : List (Job W)) (r s : List ℕ) → Listed sheet m js r → Listed sheet n ks s → (m ≡ n) × (js ≡ ks) × (r ≡ s)
    listed_same m n js ks r s x y =
        let masks = record_front 2 2 m n (job_records encoding js ++ r) (job_records encoding ks ++ s) (ap (drop 4) (sym x.bytes ∙ y.bytes)) in
        let jobs = jobs_same [] js ks r s x.table y.table x.ended y.ended masks.2 in
        (masks.1, jobs.0, jobs.1)

    -- such a sheet is refused only at a job
    listed_right : (m : List ℕ) (js : List (Job W)) (r : List ℕ) (f : LoadFault) → Listed sheet m js r → AtKind code sheet f ⊎ AtCalendar code width encoding sheet f → ⊥
    listed_right m js r f x (inl h) = kind_right code sheet (record_bytes 2 m ++ (job_records encoding js ++ r)) f x.bytes h
    listed_right m js r f x (inr h) = calendar_right code width encoding sheet m (job_records encoding js ++ r) f x.bytes x.few h

    read_alone : (m n p q : List ℕ) (c d : ℕ) (a : Reads m p c) (b : Reads n q d) → (m ≡ n) × (p ≡ q) × (c ≡ d) × (a.jobs ≡ b.jobs)
    read_alone m n p q c d a b =
        let same = listed_same m n a.jobs b.jobs [] [] (read_listed m p c a) (read_listed n q d b) in
        (same.0, a.listed ∙ ap (job_records encoding) same.1 ∙ sym b.listed, sym a.number ∙ ap length same.1 ∙ b.number, same.1)

    not_both : (m p : List ℕ) (c : ℕ) (f : LoadFault) → Reads m p c → Refused code width encoding sheet f → ⊥
    not_both m p c f a (inl x) = listed_right m a.jobs [] f (read_listed m p c a) (inl x)
    not_both m p c f a (inr (inl x)) = listed_right m a.jobs [] f (read_listed m p c a) (inr x)
    not_both m p c f a (inr (inr x)) =
        let same = listed_same m x.masks a.jobs x.jobs [] x.rest (read_listed m p c a) (refused_listed f x) in
        omega (arith, x.more, ap length same.2)

    job_alone : (f g : LoadFault) → AtJob f → AtJob g → f ≡ g
    job_alone f g x y =
        let same = listed_same x.masks y.masks x.jobs y.jobs x.rest y.rest (refused_listed f x) (refused_listed g y) in
        let m = same.0 in let j = same.1 in let r = same.2 in
        let long : sheet_bytes code encoding x.masks x.jobs ≡ sheet_bytes code encoding y.masks y.jobs = cc in
        job_cause_alone code width encoding injective y.jobs y.rest f g (simp (j, r) at x.cause) y.cause (x.byte ∙ ap length long ∙ sym y.byte)

    refused_alone : (f g : LoadFault) → Refused code width encoding sheet f → Refused code width encoding sheet g → f ≡ g
    refused_alone f g (inl x) (inl y) = kind_alone code sheet f g x y
    refused_alone f g (inl x) (inr (inl y)) = absurd (kind_right code sheet y.rest f y.bytes x)
    refused_alone f g (inl x) (inr (inr y)) = absurd (listed_right y.masks y.jobs y.rest f (refused_listed g y) (inl x))
    refused_alone f g (inr (inl x)) (inl y) = absurd (kind_right code sheet x.rest g x.bytes y)
    refused_alone f g (inr (inl x)) (inr (inl y)) = calendar_alone code width encoding sheet f g x y
    refused_alone f g (inr (inl x)) (inr (inr y)) = absurd (listed_right y.masks y.jobs y.rest f (refused_listed g y) (inr x))
    refused_alone f g (inr (inr x)) (inl y) = absurd (listed_right x.masks x.jobs x.rest g (refused_listed f x) (inl y))
    refused_alone f g (inr (inr x)) (inr (inl y)) = absurd (listed_right x.masks x.jobs x.rest g (refused_listed f x) (inr y))
    refused_alone f g (inr (inr x)) (inr (inr y)) = job_alone f g x y

  pub one_reading : OneReading code width encoding
  one_reading sheet = record { accepted = read_alone sheet; either = not_both sheet; refused = refused_alone sheet }
