-- The rounding is the only one there is.
pub mod Rounded
-- No number is lost on the way to it.
pub mod Widened
-- Each number of a triangle is at most half from its exact value.
pub mod Half
-- The outcome is the writer's, and reads back.
pub mod Written
-- What a mesh is written to is read as that mesh.
pub mod MeshBytes
pub mod Mesh
-- Floats and a file, worked.
pub mod WorkedRounding
pub mod WorkedFile
