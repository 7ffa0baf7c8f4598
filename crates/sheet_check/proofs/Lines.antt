-- Lines one after the other.
use Rattle.std.proofs.Common.{◌≡◌, ℕ, ◌+◌, ◌<◌, ◌≤◌, List, [], ◌∷◌, ◌++◌, length, get_or, take, sym, ap, ◌∙◌}
use Rattle.std.specs.List.{flat_map}
use Rattle.std.proofs.lemmas.List.{append-nil, flat_map_more, take_more, take_all}

module _ {X : Type 0} (line : X → List ℕ) (head : List ℕ) (items : List X) where
  pub lines_none : head ≡ head ++ flat_map line (take 0 items)
  lines_none = sym (append-nil head)

  pub lines_more : (text more last : List ℕ) (i : ℕ) (x : X) → text ≡ head ++ flat_map line (take i items) → last ≡ text ++ more → more ≡ line x → x ≡ get_or items i x → i < length items
      → last ≡ head ++ flat_map line (take (i + 1) items)
  lines_more text more last i x before e is read h =
      let longer : take (i + 1) items ≡ take i items ++ (x ∷ []) = take_more items i x h ∙ ap (λ y. take i items ++ (y ∷ [])) (sym read) in
      e ∙ ap (λ l. l ++ more) before ∙ ap (λ l. (head ++ flat_map line (take i items)) ++ l) is ∙ flat_map_more line head (take i items) x ∙ ap (λ l. head ++ flat_map line l) (sym longer)

  pub lines_all : (text : List ℕ) (i : ℕ) → text ≡ head ++ flat_map line (take i items) → length items ≤ i → text ≡ head ++ flat_map line items
  lines_all text i e h = e ∙ ap (λ l. head ++ flat_map line l) (take_all i items h)
