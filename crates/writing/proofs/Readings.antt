-- A written sheet reads back, and a sheet that was read is written back. Assumes nothing.
use Rattle.std.proofs.Common.{◌≡◌, ℕ, zero, suc, ◌%◌, ◌<◌, ◌≤◌, Bool, true, cond, ltb, List, [], ◌∷◌, length, get_or, sym, refl, ap, ◌∙◌, mod-eq_of_lt, arith}
use Rattle.std.proofs.lemmas.List.FromFn.{length-map-range_with_len, fill_by_all}
use Rattle.std.proofs.lemmas.Bool.{lt-ltb}
use Rattle.weights.specs.Kind.{Octets}
use Rattle.calendars.specs.Masks.{listed_end, listed_mask}
use Rattle.jobs.specs.declared.terms.Row.{Row}
use Rattle.placing.specs.Orders.{Weighs, heavier_then_lower}
use Rattle.placing.proofs.Orders.{heavier_then_lower_ranks}
use Rattle.placing.proofs.Ranks.{sorted_same}
use Rattle.calls.specs.Moments.{jobs_in}
use Rattle.plan.specs.Rows.{Tabled}
use Rattle.sheets.specs.Format.{sheet_bytes}
use Rattle.sheets.proofs.OneReading.{one_reading}
use Rattle.writing.specs.Written.{masks_of, written_sheet}
use Rattle.writing.specs.Readings.{ReadsBack, WrittenBack}
use Rattle.writing.proofs.Tables.{table_admitted}

module _ {W : Type 0} (code width : ℕ) (encoding : W → List ℕ) (sized : (w : W) → length (encoding w) ≡ width) (injective : (a b : W) → encoding a ≡ encoding b → a ≡ b) where
  pub reads_back : (end : ℕ) (mask : ℕ → ℕ) (rows : List Row) (store : List W) → end ≤ 1024 → Tabled rows
      → ReadsBack code width encoding (written_sheet code encoding end mask rows store) (masks_of end mask) (jobs_in rows store)
  reads_back end mask rows store within t =
      let long = length-map-range_with_len mask 0 end in
      record {
        accepted = record { jobs = jobs_in rows store; bytes = refl; listed = refl; number = refl; few = omega arith; table = table_admitted rows store t };
        same = refl;
        alone = one_reading code width encoding sized injective (written_sheet code encoding end mask rows store);
      }

octet_at : (bytes : List ℕ) (k : ℕ) → Octets bytes → k < length bytes → get_or bytes k 0 < 256
octet_at [] k o l = absurd (omega arith)
octet_at (b ∷ bytes) zero o l = o.0
octet_at (b ∷ bytes) (suc k) o l = octet_at bytes k o.1 (omega arith)

-- the masks of the calendar that lists some masks are these masks
listed_masks : (masks : List ℕ) → Octets masks → length masks ≤ 1024 → masks ≡ masks_of (listed_end masks) (listed_mask masks)
listed_masks masks octets few =
    fill_by_all (listed_mask masks) masks (listed_end masks) 0 (omega arith)
    (λ k l.
    let below : ltb k (listed_end masks) ≡ true = lt-ltb k (listed_end masks) l in
    let byte = octet_at masks k octets (omega arith) in
    sym (ap (λ b. cond b (get_or masks k 0 % 256) 0) below ∙ mod-eq_of_lt byte))

pub written_back : {W : Type 0} (code width : ℕ) (encoding : W → List ℕ) (no_lighter : W → W → Bool) → Weighs no_lighter → WrittenBack code width encoding no_lighter
written_back code width encoding no_lighter weighs sheet masks records count read octets ranked rows store mask plan =
    let jobs = sorted_same no_lighter (heavier_then_lower no_lighter) (heavier_then_lower_ranks no_lighter weighs) (jobs_in rows store) read.jobs plan.ranked ranked plan.jobs.2 plan.jobs.1 in
    ap (sheet_bytes code encoding (masks_of (listed_end masks) (listed_mask masks))) jobs
    ∙ (ap (λ l. sheet_bytes code encoding l read.jobs) (sym (listed_masks masks octets read.few)) ∙ sym read.bytes)
