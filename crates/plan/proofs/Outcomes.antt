-- What a call shows of the moment after it makes it accepted. Assumes nothing.
use Rattle.std.proofs.Common.{◌≡◌, ℕ, suc, ◌<◌, ◌≤◌, Bool, true, List, [], ◌∷◌, ◌++◌, length, get_or, take, drop, Some, None, Option, sym, refl, ap, ◌∙◌, subst, arith}
use Rattle.std.specs.List.{insert, remove}
use Rattle.std.proofs.lemmas.List.Edits.{length-remove}
use Rattle.jobs.specs.declared.terms.Row.{Row}
use Rattle.jobs.specs.declared.terms.Job.{Job}
use Rattle.jobs.specs.declared.terms.Standing.TheVariants.{Kept}
use Rattle.placing.specs.Change.{AtMostOne}
use Rattle.placing.specs.Orders.{Weighs}
use Rattle.placing.specs.Placing.{row, SameTable, Apart}
use Rattle.placing.specs.Plan.{Drawn, Stands}
use Rattle.placing.specs.Promise.{job_of, jobs_of, SameJobs, InRankOrder, OneOther}
use Rattle.placing.proofs.Orders.{heavier_then_lower_ranks}
use Rattle.placing.proofs.Sound.{jobs_taken, plan_sound}
use Rattle.calls.specs.declared.terms.Call.{Call}
use Rattle.calls.specs.declared.terms.Call.TheVariants.{Offer, Withdraw, Reweigh}
use Rattle.calls.specs.Calls.{NoCause, FirstOther, Accepted, named, without, with_weight, reweighed, table_after}
use Rattle.calls.specs.Moments.{Rules, in_force, Moment, at, jobs_in, table_at, Ordered}
use Rattle.calls.proofs.Jobs.{jobs_apart, offer_jobs, withdraw_jobs, reweigh_jobs}
use Rattle.questions.proofs.Ranks.{jobs_length, job_at}
use Rattle.plan.proofs.OneMore.{offer_more, withdraw_more, same_itself, offer_one, withdraw_one, reweigh_one}

-- seats do not matter to the jobs
pub jobs_like : {W : Type 0} (rows after : List Row) (ws : List W) → SameTable rows after → jobs_of after ws ≡ jobs_of rows ws
jobs_like [] [] ws s = refl
jobs_like [] (a ∷ after) ws s = absurd (let z = s.size in omega arith)
jobs_like (r ∷ rows) [] ws s = absurd (let z = s.size in omega arith)
jobs_like (r ∷ rows) (a ∷ after) [] s = refl
jobs_like (r ∷ rows) (a ∷ after) (w ∷ ws) s =
    let e = s.jobs 0 (omega arith) in
    let n = sym e.0 in
    let b = sym e.1 in
    let d = sym e.2 in
    let rest = jobs_like rows after ws (record { size = (let z = s.size in omega arith); jobs = λ i l. s.jobs (suc i) (omega arith) }) in
    λ k. record { number = n k; ready = b k; deadline = d k; weight = w } ∷ rest k

pub jobs_in_like : {W : Type 0} (rows after : List Row) (store : List W) → SameTable rows after → jobs_in after store ≡ jobs_in rows store
jobs_in_like rows after store s = ap (λ (n : ℕ). jobs_of after (take n store)) s.size ∙ jobs_like rows after (take (length rows) store) s

pub jobs_in_length : {W : Type 0} (rows : List Row) (store : List W) → length rows ≤ length store → length (jobs_in rows store) ≡ length rows
jobs_in_length rows store h = ap length (jobs_taken rows store) ∙ jobs_length rows store h

-- the job at i is that of row i
pub job_in_lem : {W : Type 0} (rows : List Row) (store : List W) → length rows ≤ length store → (i : ℕ) (d : Job W) → i < length rows → get_or (jobs_in rows store) i d ≡ job_of (row rows i) (get_or store i d.weight)
job_in_lem rows store h i d l = ap (λ xs. get_or xs i d) (jobs_taken rows store) ∙ job_at rows store h i d l

pub one_other : (before after : List Row) (named : ℕ) (a : Bool × Option ℕ) →
    (a.0 ≡ true → Stands after named Kept) × (Stands after named Kept → a.0 ≡ true) → FirstOther before after named a.1 → AtMostOne before after named → OneOther before after named a
one_other before after named (kept, None) flag first one = (flag.0, flag.1, first)
one_other before after named (kept, Some other) flag first one = (flag.0, flag.1, first.0, first.1, λ n ne no' ch. no' (one n other ne first.0 ch first.1))

module _ {W : Type 0} (no_lighter : W → W → Bool) (mask : ℕ → ℕ) (weighs : Weighs no_lighter) where
  abbrev rules : Rules W
  rules = in_force no_lighter mask

  pub accepted : (m : Moment W) (c : Call W) (a : Bool × Option ℕ) (n : Moment W) → NoCause rules.before c m → length n.rows ≤ 256 → Apart n.rows →
      SameJobs (table_after c (table_at m)) (table_at n) → Ordered rules.before n.rows n.store → Drawn rules.first mask n.rows →
      drop (length n.rows) n.store ≡ drop (length n.rows) m.store →
      (a.0 ≡ true → Stands n.rows (named c) Kept) × (Stands n.rows (named c) Kept → a.0 ≡ true) → FirstOther m.rows n.rows (named c) a.1 →
      (Drawn rules.first mask m.rows → AtMostOne m.rows n.rows (named c)) → Accepted rules m c a n
  accepted m c a n allowed few apart jobs ordered drawn rest flag first one = record {
    allowed = allowed;
    sound = plan_sound no_lighter rules.before weighs (heavier_then_lower_ranks no_lighter weighs) rules.first mask (table_after c (table_at m)) n.rows n.store
        (record { few = few; stored = ordered.stored; apart = apart; jobs = jobs; ranked = ordered.ranked; drawn = drawn });
    rest = rest;
    kept = flag;
    other = first;
    one = λ d. one_other m.rows n.rows (named c) a flag first (one d);
  }

  pub ordered_like : (rows after : List Row) (store : List W) → SameTable rows after → Ordered rules.before rows store → Ordered rules.before after store
  ordered_like rows after store s o = record {
    stored = (let z = s.size in let l = o.stored in omega arith);
    ranked = subst (InRankOrder rules.before) (sym (jobs_in_like rows after store s)) o.ranked;
  }

  -- rows and store, changed, and then rows drawn anew, with what the call answered
  pub record Replanned (rows mid after : List Row) (store shelf : List W) (named : ℕ) (a : Bool × Option ℕ) : Type 0 where
    pub few : length after ≤ 256
    pub apart : Apart after
    pub ordered : Ordered rules.before mid shelf
    pub same : SameTable mid after
    pub drawn : Drawn rules.first mask after
    pub rest : drop (length mid) shelf ≡ drop (length mid) store
    pub flag : (a.0 ≡ true → Stands after named Kept) × (Stands after named Kept → a.0 ≡ true)
    pub first : FirstOther rows after named a.1

  module _ (rows mid after : List Row) (store shelf : List W) (a : Bool × Option ℕ) where
    replanned : (c : Call W) → NoCause rules.before c (at rows store) → Replanned rows mid after store shelf (named c) a → SameJobs (table_after c (jobs_in rows store)) (jobs_in mid shelf) →
        (Drawn rules.first mask rows → AtMostOne rows after (named c)) → Accepted rules (at rows store) c a (at after shelf)
    replanned c allowed r jobs one =
        accepted (at rows store) c a (at after shelf) allowed r.few r.apart (subst (SameJobs (table_after c (jobs_in rows store))) (sym (jobs_in_like mid after shelf r.same)) jobs)
        (ordered_like mid after shelf r.same r.ordered) r.drawn (subst (λ (n : ℕ). drop n shelf ≡ drop n store) (sym r.same.size) r.rest) r.flag r.first one

    pub offered : (p : ℕ) (r : Row) (j : Job W) → j ≡ job_of r j.weight → NoCause rules.before (Offer j) (at rows store) → Replanned rows mid after store shelf j.number a →
        length rows ≤ length store → p ≤ length rows → mid ≡ insert rows p r → jobs_in mid shelf ≡ insert (jobs_in rows store) p (job_of r j.weight) → Accepted rules (at rows store) (Offer j) a (at after shelf)
    offered p r j e allowed rp stored within is made =
        let n = jobs_in_length rows store stored in
        let o = offer_more rows mid after p r within is rp.same in
        replanned (Offer j) allowed rp
        (subst (SameJobs (jobs_in rows store ++ (j ∷ []))) (ap (insert (jobs_in rows store) p) e ∙ sym made) (offer_jobs (jobs_in rows store) j p (omega arith)))
        (λ d. offer_one mask rows after j.number d.kept rp.drawn.kept p o.0 rp.apart (sym o.1.0 ∙ sym (ap (λ y. y.number) e)))

    module _ (p n : ℕ) (stored : length rows ≤ length store) (within : p < length rows) (apart : Apart rows) (is : (row rows p).number ≡ n) where
      -- the job at p has the number n
      at_p : (d : Job W) → (get_or (jobs_in rows store) p d).number ≡ n
      at_p d = ap (λ y. y.number) (job_in_lem rows store stored p d within) ∙ is

      pub withdrawn : NoCause rules.before (Withdraw n) (at rows store) → Replanned rows mid after store shelf n a → mid ≡ remove rows p → jobs_in mid shelf ≡ remove (jobs_in rows store) p →
          Accepted rules (at rows store) (Withdraw n) a (at after shelf)
      withdrawn allowed rp cut made =
          let l = jobs_in_length rows store stored in
          replanned (Withdraw n) allowed rp
          (subst (SameJobs (without n (jobs_in rows store))) (sym made) (withdraw_jobs (jobs_in rows store) n p (omega arith) (jobs_apart rows store apart) at_p))
          (λ d. withdraw_one mask rows after n d.kept rp.drawn.kept p (withdraw_more rows mid after p within cut rp.same) apart is)

      pub reweighed_at : (q : ℕ) (w : W) (less : List Row) (rack : List W) → NoCause rules.before (Reweigh n w) (at rows store) → Replanned rows mid after store shelf n a → q ≤ length less →
          less ≡ remove rows p → jobs_in less rack ≡ remove (jobs_in rows store) p → mid ≡ insert less q (row rows p) → jobs_in mid shelf ≡ insert (jobs_in less rack) q (job_of (row rows p) w) →
          Accepted rules (at rows store) (Reweigh n w) a (at after shelf)
      reweighed_at q w less rack allowed rp most cut taken put made =
          let l = jobs_in_length rows store stored in
          let d : Job W = job_of (row rows p) w in
          let e : with_weight (get_or (jobs_in rows store) p d) w ≡ d = ap (λ y. with_weight y w) (job_in_lem rows store stored p d within) in
          let size = length-remove rows p within in
          let size' = length-remove (jobs_in rows store) p (omega arith) in
          let cut' = ap length cut in
          let whole : insert (remove (jobs_in rows store) p) q (with_weight (get_or (jobs_in rows store) p d) w) ≡ jobs_in mid shelf =
          ap (insert (remove (jobs_in rows store) p) q) e ∙ (sym (ap (λ xs. insert xs q d) taken) ∙ sym made) in
          let o = offer_more less mid after q (row rows p) most put rp.same in
          replanned (Reweigh n w) allowed rp
          (subst (SameJobs (reweighed n w (jobs_in rows store))) whole (reweigh_jobs (jobs_in rows store) n p (omega arith) (jobs_apart rows store apart) at_p d w q (omega arith)))
          (λ k. reweigh_one mask rows after n k.kept rp.drawn.kept less p q (withdraw_more rows less less p within cut (same_itself less)) o.0 o.1 apart is)
