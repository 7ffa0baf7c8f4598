-- Bytes put into a lent buffer. Assumes nothing.
--   Put at bytes before after next      the bytes stand from place `at` on, and all else in the buffer is as before
--   buffer                              what the buffer holds after
--   place                               `next` is the place behind the bytes
--   Room n front                        the buffer has room for n bytes more
--   Adds bytes before after             the bytes are put behind those so far, in the same buffer, which has room for them
use Rattle.std.specs.Prelude.{◌≡◌, ℕ, ◌+◌, ◌≤◌, List, ◌++◌, length, take, drop}
use Rattle.writing.specs.declared.front.Front.{Front}

pub record Put (at : ℕ) (bytes before after : List ℕ) (next : ℕ) : Type 0 where
  pub buffer : after ≡ take at before ++ (bytes ++ drop next before)
  pub place : next ≡ at + length bytes

abbrev pub Room : ℕ → Front → Type 0
Room n front = front.len + n ≤ length front.out.now

pub record Adds (bytes : List ℕ) (before after : Front) : Type 0 where
  pub room : Room (length bytes) before
  pub same : after.out.ghost_name ≡ before.out.ghost_name
  pub put : Put before.len bytes before.out.now after.out.now after.len
