-- inner
pub mod Add
pub mod View
