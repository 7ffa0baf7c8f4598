-- The whole sheet, from its kind record, its calendar record and its job records.
use Rattle.std.proofs.Common.{◌≡◌, ℕ, ◌+◌, ◌-◌, ◌≤◌, List, [], ◌∷◌, ◌++◌, length, take, drop, sym, refl, ap, ◌∙◌, subst, inl, inr, arith}
use Rattle.std.proofs.lemmas.List.{append_assoc, take_rest, take-append-drop, drop_at, drop-drop, length-append, length-drop, length-take-le}
use Rattle.sheets.specs.declared.fault.SheetFault.{SheetFault}
use Rattle.sheets.specs.declared.fault.LoadFault.{LoadFault}
use Rattle.sheets.specs.declared.fault.LoadFault.TheVariants.{Sheet}
use Rattle.sheets.specs.Faults.{load_fault_byte}
use Rattle.sheets.specs.Format.{record_bytes, job_records, kind_record, Framed, FrameFault, Accepted, Refused}
use Rattle.sheets.specs.Steps.{JobsRead, JobsRefused}

-- the kind record has the code, and the calendar's masks follow
pub record Begun (code : ℕ) (sheet masks : List ℕ) : Type 0 where
  pub bytes : sheet ≡ kind_record code ++ (record_bytes 2 masks ++ drop (7 + length masks) sheet)
  pub fits : 7 + length masks ≤ length sheet
  pub few : length masks ≤ 1024

-- the code that was read is the one asked for
pub right_kind : (sheet : List ℕ) (read answered code : ℕ) → Framed 1 1 1 sheet (read ∷ []) → read ≡ answered → answered ≡ code → Framed 1 1 1 sheet (code ∷ [])
right_kind sheet read answered code f e h = subst (λ k. Framed 1 1 1 sheet (k ∷ [])) (e ∙ h) f

module _ (code : ℕ) (sheet : List ℕ) (kind : Framed 1 1 1 sheet (code ∷ [])) where
  behind_kind : take (length sheet - 4) (drop 4 sheet) ≡ kind.after
  behind_kind = take_rest sheet 4 ∙ ap (drop 4) kind.bytes

  begun : (masks : List ℕ) → Framed 2 0 1024 (take (length sheet - 4) (drop 4 sheet)) masks → Begun code sheet masks
  begun masks f =
      let whole : sheet ≡ kind_record code ++ (record_bytes 2 masks ++ f.after) =
      kind.bytes ∙ ap (λ l. kind_record code ++ l) (sym behind_kind ∙ f.bytes) in
      let long : length sheet ≡ 4 + (3 + length masks + length f.after) =
      omega (arith, ap length whole, length-append masks f.after) in
      let behind : drop (7 + length masks) sheet ≡ f.after =
      ap (λ k. drop k sheet) (omega arith) ∙ sym (drop-drop (3 + length masks) 4 sheet) ∙ ap (λ l. drop (3 + length masks) (drop 4 l)) whole
      ∙ drop_at (record_bytes 2 masks) f.after (3 + length masks) (omega arith) in
      record {
        bytes = whole ∙ ap (λ l. kind_record code ++ (record_bytes 2 masks ++ l)) (sym behind);
        fits = omega arith;
        few = f.long.1;
      }

  module _ {W : Type 0} (width : ℕ) (encoding : W → List ℕ) where
    pub calendar_refused : (fault : SheetFault) → FrameFault 2 0 1024 (take (length sheet - 4) (drop 4 sheet)) fault → Refused code width encoding sheet (Sheet fault 4)
    calendar_refused fault h =
        inr (inl (record {
          rest = kind.after;
          bytes = kind.bytes;
          byte = refl;
          cause = subst (λ l. FrameFault 2 0 1024 l fault) behind_kind h;
        }))

-- from what the code read
pub begun_from : (sheet masks : List ℕ) (read answered code : ℕ) → Framed 1 1 1 sheet (read ∷ []) → read ≡ answered → answered ≡ code
    → Framed 2 0 1024 (take (length sheet - 4) (drop 4 sheet)) masks → Begun code sheet masks
begun_from sheet masks read answered code f e h = begun code sheet (right_kind sheet read answered code f e h) masks

module _ {W : Type 0} (code width : ℕ) (encoding : W → List ℕ) (sheet masks : List ℕ) (b : Begun code sheet masks) where
  pub accepted : (count : ℕ) → JobsRead code width encoding sheet (7 + length masks) (length sheet) count
      → Accepted code width encoding sheet masks (take (length sheet - (7 + length masks)) (drop (7 + length masks) sheet)) count
  accepted count r =
      record {
        jobs = r.jobs;
        bytes = b.bytes ∙ ap (λ l. kind_record code ++ (record_bytes 2 masks ++ l)) (sym (take_rest sheet (7 + length masks)) ∙ r.bytes);
        listed = r.bytes;
        number = r.number;
        few = b.few;
        table = r.table;
      }

  pub jobs_refused_whole : (fault : LoadFault) → JobsRefused code width encoding sheet (7 + length masks) fault → Refused code width encoding sheet fault
  jobs_refused_whole fault r =
      let first = 7 + length masks in
      let at = load_fault_byte fault in
      let records = job_records encoding r.read.jobs in
      let rest = drop at sheet in
      let left : length (drop first sheet) ≡ length sheet - first = length-drop first sheet in
      let long : length records ≡ at - first = ap length (sym r.read.bytes) ∙ length-take-le (at - first) (drop first sheet) (omega (arith, r.read.within)) in
      let there : drop (at - first) (drop first sheet) ≡ rest = drop-drop (at - first) first sheet ∙ ap (λ k. drop k sheet) (omega (arith, r.read.within)) in
      let tail : drop first sheet ≡ records ++ rest =
      sym (take-append-drop (at - first) (drop first sheet)) ∙ ap (λ l. l ++ drop (at - first) (drop first sheet)) r.read.bytes ∙ ap (λ l. records ++ l) there in
      inr (inr (record {
        masks = masks;
        jobs = r.read.jobs;
        rest = rest;
        bytes = b.bytes ∙ ap (λ l. kind_record code ++ (record_bytes 2 masks ++ l)) tail ∙ ap (λ l. kind_record code ++ l) (sym (append_assoc (record_bytes 2 masks) records rest));
        few = b.few;
        table = r.read.table;
        more = omega (arith, length-drop at sheet, r.more);
        byte = omega (arith, r.read.within, length-append masks records);
        cause = r.cause;
      }))
