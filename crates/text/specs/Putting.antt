-- What the hand-over of a text to a lent buffer leaves. Assumes nothing.
--   Delivered text before after r     the text stands at the buffer's front, r is its length, and the rest of the buffer is as before;
--                                     or the text is longer than the buffer, and the buffer is as it was
use Rattle.std.specs.Prelude.{◌≡◌, ℕ, ◌<◌, List, ◌++◌, length, drop, Ok, Err, Result}
use Rattle.text.specs.declared.fault.BufferFault.{BufferFault}
use Rattle.text.specs.declared.fault.BufferFault.TheVariants.{TooShort}

abbrev pub Delivered : (text before after : List ℕ) → Result ℕ BufferFault → Type 0
Delivered text before after (Ok n) = (n ≡ length text) × (after ≡ text ++ drop n before)
Delivered text before after (Err TooShort) = (length before < length text) × (after ≡ before)
