-- inner
pub mod Draw
pub mod Column
