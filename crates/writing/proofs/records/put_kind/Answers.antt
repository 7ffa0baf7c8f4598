use Rattle.std.proofs.Common.{ℕ, [], ◌∷◌, subst}
use Rattle.sheets.specs.Format.{two, kind_record}
use Rattle.writing.specs.Puts.{Adds}
use Rattle.writing.proofs.Puts.{adds_then}
use Rattle.writing.proofs.records.put_kind.Goals as goal

pub returns : goal.returns
returns g c = record {
  value = subst (λ (k : ℕ). Adds (kind_record k) c.args.front.now c.put.new.self) c.CODE.ensures
      (adds_then (1 ∷ two 1) c.args.front.now c.put_header.new.self c.put_header.ensures.value (c.CODE.result ∷ []) c.put.new.self c.put.ensures.value);
}
