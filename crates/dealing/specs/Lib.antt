-- The machinery of the argument: jobs and places by index, sets as tests on indices. Assumes nothing.
--   Counting     how many indices pass a test
--   Boards       jobs, places, placings; room and load of a run of slots
--   Dealing      places dealt to jobs one after the other, the earliest deadline first
--   Choice       who is kept: job after job, if it has a place beside those kept before it
--   Stretches    the runs of slots that the kept jobs fill
--   Insertion    one job more in the ranks, and what changes
pub mod Counting
pub mod Boards
pub mod Dealing
pub mod Choice
pub mod Stretches
pub mod Insertion
