-- The lowest record that has a property, and the lowest triangle that reaches a box.
pub mod Lowest
-- How large the numbers are.
pub mod Sizes
-- What the call answers.
pub mod Answers
-- What the words about a bar say.
pub mod Words
