-- What fields taken one behind the other make.
pub mod Taken
-- What holds of a header and of a record whatever the bytes are.
pub mod Bounds
-- Worked examples.
pub mod Worked
