-- inner
pub mod Form
pub mod Forms
pub mod Triangle
