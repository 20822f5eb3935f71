-- inner
pub mod Numbering
pub mod Box
pub mod Placed
