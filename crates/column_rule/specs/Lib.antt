-- inner
pub mod Column
pub mod Turn
