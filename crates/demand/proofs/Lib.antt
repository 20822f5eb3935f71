-- The first leg with a cell.
pub mod First
-- The points of a route.
pub mod Points
-- The answer, from the answers to the questions.
pub mod Answers
-- What a leg reaches, and what it reaches first.
pub mod Reached
-- Demand 3, whole.
pub mod Demand
pub mod Words
pub mod Worked
