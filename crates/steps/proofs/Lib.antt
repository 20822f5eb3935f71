-- What questions 1 to 8 say.
mod Admitted
-- Cells that join a map.
pub mod Joined
-- A fill in steps leaves and says what one fill does.
pub mod Whole
-- Worked examples.
pub mod Worked
