-- The promise over a run of calls, from what each call leaves. Assumes nothing.
--   table_then c a t      the table after the call c that was answered with a
--   moments_from m ms     the moment m, and after it those of ms
use Rattle.std.proofs.Common.{◌≡◌, ℕ, zero, suc, ◌<◌, ◌≤◌, Bool, List, [], ◌∷◌, ◌++◌, length, get_or, take, Ok, Err, Option, sym, refl, ap, subst, arith}
use Rattle.jobs.specs.declared.terms.Job.{Job}
use Rattle.placing.specs.Orders.{Weighs, RankOrder, Totals}
use Rattle.placing.specs.Promise.{OneOther}
use Rattle.placing.proofs.Sound.{plan_sound}
use Rattle.placing.proofs.Totals.{plan_heaviest}
use Rattle.calls.specs.declared.terms.Call.{Call}
use Rattle.calls.specs.Moments.{Rules, Moment, table_at, PlanAt, SoundAt}
use Rattle.calls.specs.Calls.{Answer, named, table_after, Outcome, Run, table_run, Promised, Starts, RunPromised, PromisedTotals}
use Rattle.calls.proofs.Jobs.{same_refl, same_trans, jobs_apart, after_same}

pub starts : {W : Type 0} → Starts W
starts rules store = record {
  few = omega arith;
  stored = omega arith;
  apart = λ i j l. absurd (omega arith);
  jobs = same_refl [];
  ranked = λ i d l. absurd (omega arith);
  drawn = record {
    kept = record { kept = λ i l. absurd (omega arith); dropped = λ i l. absurd (omega arith) };
    placing = record { sits = λ i p l. absurd (omega arith); alone = λ i j p l. absurd (omega arith) };
    dealt = λ p q i o l. absurd (omega arith);
  };
}

module _ {W : Type 0} where
  abbrev table_then : Call W → Answer → List (Job W) → List (Job W)
  table_then c (Ok a) table = table_after c table
  table_then c (Err f) table = table

  run_then : (c : Call W) (a : Answer) (cs : List (Call W)) (rs : List Answer) (table : List (Job W)) → table_run cs rs (table_then c a table) ≡ table_run (c ∷ cs) (a ∷ rs) table
  run_then c (Ok a) cs rs table = refl
  run_then c (Err f) cs rs table = refl

  abbrev moments_from : Moment W → (ℕ → Moment W) → ℕ → Moment W
  moments_from m ms zero = m
  moments_from m ms (suc i) = ms i

module _ {W : Type 0} (rules : Rules W) where
  -- one call more
  pub run_more : (m : Moment W) (cs : List (Call W)) (rs : List Answer) (k n : Moment W) (c : Call W) (a : Answer) → Run rules m cs rs k → Outcome rules k c a n → Run rules m (cs ++ c ∷ []) (rs ++ a ∷ []) n
  run_more m [] [] k n c a run o = (n, subst (λ x. Outcome rules x c a n) run o, refl)
  run_more m [] (b ∷ rs) k n c a run o = absurd run
  run_more m (d ∷ cs) [] k n c a run o = absurd run
  run_more m (d ∷ cs) (b ∷ rs) k n c a (l, x, run) o = (l, x, run_more l cs rs k n c a run o)

  -- any table of the jobs that a moment shows goes along with the call
  pub plan_then : (table : List (Job W)) (m n : Moment W) (c : Call W) (a : Answer) → PlanAt rules table m → Outcome rules m c a n → PlanAt rules (table_then c a table) n
  plan_then table m n c (Ok a) p o =
      let q = o.sound.plan in
      record {
        few = q.few;
        stored = q.stored;
        apart = q.apart;
        jobs = same_trans (table_after c table) (table_after c (table_at m)) (table_at n) (after_same c table (table_at m) (jobs_apart m.rows m.store p.apart) p.jobs) q.jobs;
        ranked = q.ranked;
        drawn = q.drawn;
      }
  plan_then table m n c (Err f) p o = subst (PlanAt rules table) (sym o.1) p

  module _ (weighs : Weighs rules.no_lighter) (ranks : RankOrder rules.no_lighter rules.before) where
    sound_at : (table : List (Job W)) (m : Moment W) → PlanAt rules table m → SoundAt rules table m
    sound_at table m = plan_sound rules.no_lighter rules.before weighs ranks rules.first rules.mask table m.rows m.store

    run_keeps : (table : List (Job W)) (m n : Moment W) (cs : List (Call W)) (rs : List Answer) → PlanAt rules table m → Run rules m cs rs n → Promised rules table m cs rs n
    run_keeps table m n [] [] p run = record {
      moment = λ _. m;
      answered = refl;
      begins = refl;
      ends = sym run;
      calls = λ i c a l. absurd (omega arith);
      sound = still;
      one = λ i c a l. absurd (omega arith);
    }
      where
        still : (i : ℕ) → i ≤ 0 → SoundAt rules (table_run (take i []) (take i []) table) m
        still zero l = sound_at table m p
        still (suc i) l = absurd (omega arith)
    run_keeps table m n [] (a ∷ rs) p run = absurd run
    run_keeps table m n (c ∷ cs) [] p run = absurd run
    run_keeps table m n (c ∷ cs) (a ∷ rs) p (k, o, run) =
        step (run_keeps (table_then c a table) k n cs rs (plan_then table m k c a p o) run)
      where
        step : Promised rules (table_then c a table) k cs rs n → Promised rules table m (c ∷ cs) (a ∷ rs) n
        step later = record {
          moment = moments_from m later.moment;
          answered = ap suc later.answered;
          begins = refl;
          ends = later.ends;
          calls = calls;
          sound = sound;
          one = one;
        }
          where
            begun : Outcome rules m c a (later.moment 0)
            begun = subst (Outcome rules m c a) (sym later.begins) o

            calls : (i : ℕ) (d : Call W) (b : Answer) → i < suc (length cs) →
                Outcome rules (moments_from m later.moment i) (get_or (c ∷ cs) i d) (get_or (a ∷ rs) i b) (moments_from m later.moment (suc i))
            calls zero d b l = begun
            calls (suc i) d b l = later.calls i d b (omega arith)

            sound : (i : ℕ) → i ≤ suc (length cs) → SoundAt rules (table_run (take i (c ∷ cs)) (take i (a ∷ rs)) table) (moments_from m later.moment i)
            sound zero l = sound_at table m p
            sound (suc i) l = subst (λ t. SoundAt rules t (later.moment i)) (run_then c a (take i cs) (take i rs) table) (later.sound i (omega arith))

            one : (i : ℕ) (d : Call W) (b : Bool × Option ℕ) → i < suc (length cs) → get_or (a ∷ rs) i (Ok b) ≡ Ok b →
                OneOther (moments_from m later.moment i).rows (later.moment i).rows (named (get_or (c ∷ cs) i d)) b
            one zero d b l e = (subst (λ x. Outcome rules m c x (later.moment 0)) e begun).one p.drawn
            one (suc i) d b l e = later.one i d b (omega arith) e

pub run_promised : {W : Type 0} → RunPromised W
run_promised rules weighs ranks = run_keeps rules weighs ranks

module _ {W X : Type 0} (nothing : X) (plus : X → W → X) (over : X → X → Bool) (rules : Rules W) where
  pub promised_totals : Weighs rules.no_lighter → RankOrder rules.no_lighter rules.before → Totals rules.no_lighter plus over →
      (table : List (Job W)) (m n : Moment W) (cs : List (Call W)) (rs : List Answer) → Promised rules table m cs rs n → PromisedTotals nothing plus over rules table m cs rs n
  promised_totals weighs ranks totals table m n cs rs promised = record {
    whole = promised;
    heaviest = λ i l.
        plan_heaviest rules.no_lighter rules.before weighs ranks nothing plus over totals rules.first rules.mask (table_run (take i cs) (take i rs) table)
        (promised.moment i).rows (promised.moment i).store (promised.sound i l).plan;
  }
