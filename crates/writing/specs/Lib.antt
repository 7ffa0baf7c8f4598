-- What the writer of sheets answers. Assumes nothing.
--   Faults      why a sheet is not written
--   Puts        bytes put into a lent buffer
--   Readings    a written sheet reads back, and a sheet that was read is written back
--   Written     the sheet of a plan
pub mod Faults
pub mod Puts
pub mod Readings
pub mod Written
