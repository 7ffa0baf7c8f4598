-- The tests of room and load, taken apart and put together, and the load of a set that has a placing. Assumes nothing.
use Rattle.std.proofs.Common.{◌≡◌, ℕ, ◌<◌, ◌≤◌, Bool, true, sym, refl, ◌∙◌, arith}
use Rattle.std.proofs.lemmas.Bool.Decides.{nat_tests}
use Rattle.dealing.specs.Boards.{Table, Board, within, bound, LoadFitsRoom}
use Rattle.dealing.proofs.Counting.{inject}

pub within_from : (b : Board) (a e p : ℕ) → b.free p ≡ true → a ≤ b.slot p → b.slot p < e → within b a e p ≡ true
within_from b a e p f l h = grind (arith, nat_tests)

pub within_parts : (b : Board) (a e p : ℕ) → within b a e p ≡ true → (b.free p ≡ true) × (a ≤ b.slot p) × (b.slot p < e)
within_parts b a e p h = (grind (arith, nat_tests), grind (arith, nat_tests), grind (arith, nat_tests))

pub bound_from : (t : Table) (K : ℕ → Bool) (a e j : ℕ) → K j ≡ true → a ≤ t.ready j → t.deadline j ≤ e → bound t K a e j ≡ true
bound_from t K a e j k l h = grind (arith, nat_tests)

pub bound_parts : (t : Table) (K : ℕ → Bool) (a e j : ℕ) → bound t K a e j ≡ true → (K j ≡ true) × (a ≤ t.ready j) × (t.deadline j ≤ e)
bound_parts t K a e j h = (grind (arith, nat_tests), grind (arith, nat_tests), grind (arith, nat_tests))

pub load_fits_room : LoadFitsRoom
load_fits_room b t K s a e =
    inject t.size (bound t K a e) b.places (within b a e) (λ j p. (j < t.size) × (K j ≡ true) × (s.seat j ≡ p))
    (λ j lt h.
    let h' = bound_parts t K a e j h in
    let z = s.sits j lt h'.0 in
    (s.seat j, z.0, within_from b a e (s.seat j) z.1 (omega arith) (omega arith), (lt, h'.0, refl)))
    (λ j k p x y. s.apart j k x.0 y.0 x.1 y.1 (x.2 ∙ sym y.2))
