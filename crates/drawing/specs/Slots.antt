-- The open places of a calendar alone, numbered slot after slot. Assumes nothing.
--   counts s              how many open places lie in the slots below s
--   slot_by counts n p    the slot of place p: how many of the first n slots end at or before it
--   slot_rising           later places lie in no earlier slot
--   board_by counts       the open places of 1,024 slots as a board, all of them free
--   Numbered counts       the counts begin with 0 and never fall
use Rattle.std.specs.Prelude.{◌≡◌, ℕ, suc, ◌+◌, ◌<◌, ◌≤◌, true, List, length, nat_le, slice_index, slice_index_or}
use Rattle.std.proofs.Common.{arith}
use Rattle.std.proofs.lemmas.Bool.{leb-true, le-leb}
use Rattle.dealing.specs.Counting.{count}
use Rattle.dealing.specs.Boards.{Board}
use Rattle.dealing.proofs.Counting.{count_mono}

unfoldable pub slot_by : (ℕ → ℕ) → ℕ → ℕ → ℕ
slot_by counts n p = count (λ s. nat_le (counts (suc s)) p) n

pub slot_rising : (counts : ℕ → ℕ) (n p q : ℕ) → p ≤ q → slot_by counts n p ≤ slot_by counts n q
unfolding slot_by
slot_rising counts n p q h =
    count_mono (λ s. nat_le (counts (suc s)) p) (λ s. nat_le (counts (suc s)) q) n
    (λ i l e. le-leb (counts (suc i)) q (omega (arith, leb-true (counts (suc i)) p e)))

abbrev pub board_by : List ℕ → Board
board_by counts = record {
  places = slice_index counts 1024;
  free = λ _. true;
  slot = slot_by (λ s. slice_index counts s) 1024;
  rising = slot_rising (λ s. slice_index counts s) 1024;
}

pub record Numbered (counts : List ℕ) : Type 0 where
  pub long : length counts ≡ 1025
  pub none : slice_index_or counts 0 0 ≡ 0
  pub rises : (s : ℕ) → s < 1024 → slice_index counts s ≤ slice_index counts (s + 1)
