-- The picked ones of a row, seen from those that are still to come and from those that are done.
use Rattle.std.proofs.Common.{◌≡◌, ℕ, zero, suc, ◌+◌, ◌<◌, ◌≤◌, Bool, true, false, cond, ◌⊎◌, List, [], ◌∷◌, ◌++◌, length, get_or, take, fold, sym, refl, ap, ◌∙◌, ⊎_elim, add-one, arith}
use Rattle.std.proofs.lemmas.List.{append-nil, length-take}
use Rattle.std.proofs.lemmas.List.Sums.{fold_push}
use Rattle.weights.specs.Picking.{picked_of}

module _ {X : Type 0} where
  -- nothing is picked where no picks or no ones are left
  pub none_left : (bs : List Bool) (xs : List X) → (length xs ≡ 0) ⊎ (length bs ≡ 0) → picked_of bs xs ≡ []
  none_left [] xs e = refl
  none_left (b ∷ bs) [] e = refl
  none_left (b ∷ bs) (x ∷ xs) e = absurd (⊎_elim (λ a. omega arith) (λ a. omega arith) e)

  -- picks beyond the ones do not count
  pub picked_front : (n : ℕ) (bs : List Bool) (xs : List X) → picked_of (take n bs) (take n xs) ≡ picked_of bs (take n xs)
  picked_front zero [] xs = refl
  picked_front zero (b ∷ bs) xs = refl
  picked_front (suc n) [] xs = refl
  picked_front (suc n) (b ∷ bs) [] = refl
  picked_front (suc n) (b ∷ bs) (x ∷ xs) = ap (λ ys. cond b (x ∷ ys) ys) (picked_front n bs xs)

  cond_append : (b : Bool) (x : X) (xs ys : List X) → cond b (x ∷ (xs ++ ys)) (xs ++ ys) ≡ cond b (x ∷ xs) xs ++ ys
  cond_append true x xs ys = refl
  cond_append false x xs ys = refl

  picked_suc : (bs : List Bool) (xs : List X) (i : ℕ) (d : X) → i < length bs → i < length xs → picked_of (take (suc i) bs) (take (suc i) xs) ≡ picked_of (take i bs) (take i xs) ++ cond (get_or bs i false) (get_or xs i d ∷ []) []
  picked_suc [] xs i d h k = absurd (omega arith)
  picked_suc (b ∷ bs) [] i d h k = absurd (omega arith)
  picked_suc (b ∷ bs) (x ∷ xs) zero d h k = refl
  picked_suc (b ∷ bs) (x ∷ xs) (suc i) d h k =
      ap (λ ys. cond b (x ∷ ys) ys) (picked_suc bs xs i d (omega arith) (omega arith))
      ∙ cond_append b x (picked_of (take i bs) (take i xs)) (cond (get_or bs i false) (get_or xs i d ∷ []) [])

  picked_more : (bs : List Bool) (xs : List X) (i : ℕ) (d : X) (v : Bool) → i < length bs → i < length xs → get_or bs i false ≡ v → picked_of (take (i + 1) bs) (take (i + 1) xs) ≡ picked_of (take i bs) (take i xs) ++ cond v (get_or xs i d ∷ []) []
  picked_more bs xs i d v h k e = rw (add-one i, ← e) (picked_suc bs xs i d h k)

  -- the fold over the picked ones takes one more, or leaves it
  pub total_more : {T : Type 0} (f : T → X → T) (z : T) (bs : List Bool) (xs : List X) (i : ℕ) (x : X) → i < length bs → i < length xs → get_or bs i false ≡ true → x ≡ get_or xs i x → fold f z (picked_of (take (i + 1) bs) (take (i + 1) xs)) ≡ f (fold f z (picked_of (take i bs) (take i xs))) x
  total_more f z bs xs i x h k e r =
      ap (fold f z) (picked_more bs xs i x true h k e ∙ ap (λ y. picked_of (take i bs) (take i xs) ++ (y ∷ [])) (sym r))
      ∙ fold_push f z (picked_of (take i bs) (take i xs)) x

  pub total_same : {T : Type 0} (f : T → X → T) (z : T) (bs : List Bool) (xs : List X) (i : ℕ) → i < length bs → i < length xs → get_or bs i false ≡ false → fold f z (picked_of (take (i + 1) bs) (take (i + 1) xs)) ≡ fold f z (picked_of (take i bs) (take i xs))
  total_same f z bs [] i h k e = absurd (omega arith)
  total_same f z bs (x ∷ xs) i h k e = ap (fold f z) (picked_more bs (x ∷ xs) i x false h k e ∙ append-nil (picked_of (take i bs) (take i (x ∷ xs))))

  length_picked : (bs : List Bool) (xs : List X) → length (picked_of bs xs) ≤ length xs
  length_picked [] xs = omega arith
  length_picked (b ∷ bs) [] = omega arith
  length_picked (b ∷ bs) (x ∷ xs) = let h = length_picked bs xs in elim b as (λ v. length (cond v (x ∷ picked_of bs xs) (picked_of bs xs)) ≤ suc (length xs)) [ true ↦ omega arith | false ↦ omega arith ]

  pub few_picked : (bs : List Bool) (xs : List X) (i m : ℕ) → i ≤ m → length (picked_of (take i bs) (take i xs)) ≤ m
  few_picked bs xs i m h = let a = length_picked (take i bs) (take i xs) in let b = length-take i xs in omega arith
