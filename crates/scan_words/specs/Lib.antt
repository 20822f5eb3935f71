pub mod ScanWords
pub mod Mesh
