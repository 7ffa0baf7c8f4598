-- A numeral read from its front: what is left of it decides the rest.
use Rattle.std.proofs.Common.{◌≡◌, ℕ, ◌+◌, ◌-◌, ◌*◌, ◌<◌, ◌≤◌, true, false, List, [], ◌∷◌, length, get_or, drop, Some, None, sym, refl, ap, ◌∙◌, arith}
use Rattle.std.proofs.lemmas.List.{drop_more}
use Rattle.std.proofs.lemmas.Bool.{cond-true, cond-false, and_from, and_left, and_right, le-leb, lt-leb}
use Rattle.account.specs.Numbers.{digits, read_on, number_of}

pub read_on_grows : (v : ℕ) (ds : List ℕ) → v ≤ read_on v ds
read_on_grows v [] = omega arith
read_on_grows v (c ∷ cs) = omega (arith, read_on_grows (10 * v + (c - 48)) cs)

-- a text that is no digits is no number
pub no_digits : (most : ℕ) (ds : List ℕ) → digits ds ≡ false → None ≡ number_of most ds
no_digits most [] e = refl
no_digits most (c ∷ cs) e = sym (cond-false _ _ _ (and_left _ _ e))

pub too_large : (most : ℕ) (ds : List ℕ) → most < read_on 0 ds → None ≡ number_of most ds
too_large most ds h = sym (cond-false _ _ _ (and_right _ _ (lt-leb _ _ h)))

pub is_number : (most v : ℕ) (ds : List ℕ) → 0 < length ds → digits ds ≡ true → read_on 0 ds ≡ v → v ≤ most → Some v ≡ number_of most ds
is_number most v [] h d e l = absurd (omega arith)
is_number most v (c ∷ cs) h d e l =
    let m : read_on 0 (c ∷ cs) ≤ most = omega (arith, e) in
    ap Some (sym e) ∙ sym (cond-true _ _ _ (and_from _ _ d (le-leb _ _ m)))

pub read_on_more : (text : List ℕ) (i v : ℕ) → i < length text → read_on 0 text ≡ read_on v (drop i text) → read_on 0 text ≡ read_on (10 * v + (get_or text i 0 - 48)) (drop (i + 1) text)
read_on_more text i v h e = e ∙ ap (read_on v) (drop_more text i 0 h)
