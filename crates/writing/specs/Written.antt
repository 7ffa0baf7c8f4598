-- The sheet of a plan's table and a calendar. Assumes nothing.
--   no_lighter v w       the weight v is at least as heavy as w
--   masks_of end mask    the masks of the slots 0 .. end - 1
--   written_sheet ..     the sheet: the kind's code, the calendar's masks to its end, the jobs in rank order with the store's weights
--   Written .. n         the store serves the rows, and the sheet's n bytes stand at the front of the buffer, whose rest is as before
use Rattle.std.specs.Prelude.{◌≡◌, ℕ, Bool, List, ◌++◌, map, length, drop}
use Rattle.std.specs.List.{range_with_len}
use Rattle.jobs.specs.declared.terms.Row.{Row}
use Rattle.placing.specs.Orders.{heavier_then_lower}
use Rattle.calls.specs.Moments.{jobs_in}
use Rattle.questions.specs.Stores.{StoreGood}
use Rattle.sheets.specs.Format.{sheet_bytes}

abbrev pub masks_of : (end : ℕ) (mask : ℕ → ℕ) → List ℕ
masks_of end mask = map mask (range_with_len 0 end)

-- a kind of weight stands here by its relation, its code and the bytes of its weights, a calendar by its end and its masks
abbrev pub written_sheet : {W : Type 0} → (code : ℕ) (encoding : W → List ℕ) (end : ℕ) (mask : ℕ → ℕ) → List Row → List W → List ℕ
written_sheet code encoding end mask rows store = sheet_bytes code encoding (masks_of end mask) (jobs_in rows store)

pub record Written {W : Type 0} (no_lighter : W → W → Bool) (code : ℕ) (encoding : W → List ℕ) (end : ℕ) (mask : ℕ → ℕ) (rows : List Row) (store : List W) (before after : List ℕ) (n : ℕ) : Type 0 where
  pub good : StoreGood (heavier_then_lower no_lighter) rows store
  pub long : n ≡ length (written_sheet code encoding end mask rows store)
  pub buffer : after ≡ written_sheet code encoding end mask rows store ++ drop n before
