-- Laws of figures, one by one.
mod Laws
-- Words and what they say.
pub mod Worked
