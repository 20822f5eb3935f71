-- What is enough; and places and indices, worked.
pub mod Enough
pub mod Worked
pub mod Places
pub mod Taken
pub mod Faces
pub mod Asking
