use Rattle.std.proofs.Common.{◌≡◌, ℕ, length, get_or, replicate, is_ok, Option, None, inl, inr, arith}
use lib.ListN.{length-replicate}
use Rattle.std.proofs.lemmas.Bool.{cases_lt}
use Rattle.std.proofs.lemmas.List.{get_or-replicate, get_or_past}
use Rattle.drawing.specs.Draw.{Drawable}
use Rattle.drawing.proofs.Places.{counted, numbered_from}
use Rattle.drawing.proofs.Links.{few, drawn}
use Rattle.drawing.proofs.draw.Goals as goal

pub invariant_of-trials : goal.invariant_of-trials
invariant_of-trials g c =
    let mask = g.C.Calendar.mask c.args.calendar.now in
    let counts = c.place_counts.new.counts in
    let w = counted mask counts (is_ok c.place_counts.result) c.place_counts.ensures.answers in
    record {
      drawable = c.drawable.ensures.answers.0 c.if-not-drawable.false;
      numbered = numbered_from mask counts w.0 w.1;
      room = few mask (g.met.C.Calendar.mask_bound c.args.calendar.now) counts w.0 w.1;
    }

-- a table of nothing has nothing at any place
none_there : (n p : ℕ) → get_or {A = Option ℕ} (replicate n None) p None ≡ None
none_there n p = elim (cases_lt p n) [
  | inl within ↦ get_or-replicate n p None None within
  | inr past ↦ get_or_past (replicate n None) p None (omega (arith, length-replicate {A = Option ℕ} n None))
]

pub deal-requires : goal.deal-requires
deal-requires g c = record { empty = none_there 8192 }

pub returns : goal.returns
returns g c =
    let mask = g.C.Calendar.mask c.args.calendar.now in
    let counts = c.place_counts.new.counts in
    let w = counted mask counts (is_ok c.place_counts.result) c.place_counts.ensures.answers in
    let chosen = c.deal.ensures.leaves in
    let drawable : Drawable c.args.rows.now = c.drawable.ensures.answers.0 c.if-not-drawable.false in
    let same = c.if-seats-rows.false in
    let after : length c.read_seats.new.seats ≡ length c.args.rows.now = omega arith in
    record {
      answers = (
        (drawable, same),
        after,
        drawn mask (g.met.C.Calendar.mask_bound c.args.calendar.now) counts w.0 w.1 c.args.rows.now c.deal.new.places c.read_seats.new.seats
            drawable after chosen.0 chosen.1 chosen.2 c.read_seats.ensures.leaves,
      );
    }
