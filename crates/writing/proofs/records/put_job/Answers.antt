use Rattle.std.proofs.Common.{◌≡◌, ℕ, ◌+◌, ◌∷◌, ◌++◌, length, subst, arith}
use Rattle.placing.specs.Promise.{job_of}
use Rattle.sheets.specs.Format.{two, job_value}
use Rattle.sheets.proofs.JobRecords.{value_long}
use Rattle.writing.specs.Puts.{Adds}
use Rattle.writing.proofs.Puts.{adds_then}
use Rattle.writing.proofs.records.put_job.Goals as goal

pub returns : goal.returns
returns g c =
    let w = g.W.OrderedWeight in
    let row = c.args.row.now in
    let job = job_of row c.args.weight.now in
    let front = c.args.front.now in
    let a = c.put_header.new.self in
    let b = c.put_two.new.self in
    let d = c.put_two-2.new.self in
    let e = c.put_two-3.new.self in
    let z = c.put_weight.new.self in
    let k = c.WIDTH.result in
    let long : 6 + k ≡ length (job_value w.encoding job) = (let v = value_long w.encoding w.WIDTH g.met.W.OrderedWeight.sized job in let h = c.WIDTH.ensures in omega arith) in
    record {
      value = subst (λ (n : ℕ). Adds (3 ∷ two n ++ job_value w.encoding job) front z) long
          (adds_then (3 ∷ two (6 + k)) front a c.put_header.ensures.value (job_value w.encoding job) z
          (adds_then (two row.number) a b c.put_two.ensures.value _ z
          (adds_then (two row.ready) b d c.put_two-2.ensures.value _ z
          (adds_then (two row.deadline) d e c.put_two-3.ensures.value (w.encoding c.args.weight.now) z c.put_weight.ensures.value))));
    }
