-- The texts that a planner prints. Assumes nothing.
--   Faults      the number of the refusal
--   Printing    the text of a plan, and the line of a refusal
--   Putting     what the hand-over of a text to a lent buffer leaves
pub mod Faults
pub mod Printing
pub mod Putting
