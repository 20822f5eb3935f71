-- inner
pub mod Form
pub mod Slab
