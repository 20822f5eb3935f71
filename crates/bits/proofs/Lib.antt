pub mod Fields
pub mod Signs
pub mod Pens
pub mod Worked
