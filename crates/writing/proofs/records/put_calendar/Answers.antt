use Rattle.std.proofs.Common.{◌≡◌, ℕ, ◌∷◌, ◌++◌, length, sym, ◌∙◌, subst}
use Rattle.std.proofs.lemmas.List.FromFn.{length-map-range_with_len}
use Rattle.sheets.specs.Format.{two}
use Rattle.writing.specs.Puts.{Adds}
use Rattle.writing.specs.Written.{masks_of}
use Rattle.writing.proofs.Puts.{adds_then}
use Rattle.writing.proofs.records.put_calendar.Goals as goal

pub returns : goal.returns
returns g c =
    let cal = g.C.Calendar in
    let masks = masks_of (cal.end c.args.calendar.now) (cal.mask c.args.calendar.now) in
    let long : c.end.result ≡ length masks = c.end.ensures.value ∙ sym (length-map-range_with_len (cal.mask c.args.calendar.now) 0 (cal.end c.args.calendar.now)) in
    record {
      value = subst (λ (n : ℕ). Adds (2 ∷ two n ++ masks) c.args.front.now c.put_masks.new.front) long
          (adds_then (2 ∷ two c.end.result) c.args.front.now c.put_header.new.self c.put_header.ensures.value masks c.put_masks.new.front c.put_masks.ensures.value);
    }
