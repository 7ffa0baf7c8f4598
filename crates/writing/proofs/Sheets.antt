-- The length of a written sheet, and the sheet at the front of a buffer. Assumes nothing.
use Rattle.std.proofs.Common.{◌≡◌, ℕ, ◌+◌, ◌*◌, ◌≤◌, List, ◌++◌, length, take, drop, sym, ap, ◌∙◌, arith}
use Rattle.std.proofs.lemmas.List.FromFn.{length-map-range_with_len}
use Rattle.std.proofs.lemmas.List.{length-append, take_at}
use Rattle.jobs.specs.declared.terms.Row.{Row}
use Rattle.calls.specs.Moments.{jobs_in}
use Rattle.sheets.specs.Format.{job_records}
use Rattle.writing.specs.Puts.{Put}
use Rattle.writing.specs.Written.{masks_of, written_sheet}
use Rattle.writing.proofs.Jobs.{jobs_in_length, records_long}

pub sheet_long : {W : Type 0} (code width : ℕ) (encoding : W → List ℕ) → ((w : W) → length (encoding w) ≡ width) → (end : ℕ) (mask : ℕ → ℕ) (rows : List Row) (store : List W) → length rows ≤ length store
    → length (written_sheet code encoding end mask rows store) ≡ 7 + end + length rows * (9 + width)
sheet_long code width encoding sized end mask rows store stored =
    let masks = length-map-range_with_len mask 0 end in
    let jobs : length (job_records encoding (jobs_in rows store)) ≡ length (jobs_in rows store) * (9 + width) = records_long encoding width sized (jobs_in rows store) in
    let count : length (jobs_in rows store) * (9 + width) ≡ length rows * (9 + width) = ap (λ n. n * (9 + width)) (jobs_in_length rows store stored) in
    omega (arith, length-append (masks_of end mask) (job_records encoding (jobs_in rows store)))

pub put_front : (sheet before after : List ℕ) (n : ℕ) → Put 0 sheet before after n → (n ≡ length sheet) × (after ≡ sheet ++ drop n before) × (sheet ≡ take n after)
put_front sheet before after n p =
    let long : n ≡ length sheet = (let e = p.place in omega arith) in
    (long, p.buffer, sym (ap (take n) p.buffer ∙ take_at sheet (drop n before) n (sym long)))
