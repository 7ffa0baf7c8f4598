use Rattle.std.proofs.Common.{◌≡◌, map, Some, vec_items}
use Rattle.account.specs.Settings.{masks_of}
use Rattle.account.proofs.settings.masks.Given as goal

-- the masks of the words so far
abbrev pub invariant-loop-word : goal.invariant-loop-word
invariant-loop-word l = masks_of (map (λ w. w.now) l.yielded) ≡ Some (vec_items l.masks)
