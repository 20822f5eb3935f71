-- The overlap rule is exactly "reaches": the theorem (`Theorem`) and its proof, in the order in which a reader needs it.
-- Triples of integers and of expressions.
pub mod Vectors
-- Weights, the sides that they satisfy, and sums of weights.
pub mod Weights
-- Six sides from three, two sides from edges, three sides from two and the plane.
pub mod Slab
pub mod Quadrant
pub mod Octant
-- The sides of a box, and the rule's tests as statements about corners.
pub mod Sides
pub mod Tests
-- The two halves, and the theorem.
pub mod RuleToReach
pub mod ReachToRule
pub mod Theorem
-- A row of cells that a triangle stays within.
pub mod Row
-- Legs, cells of a grid.
pub mod Legs
pub mod Grid
-- Points in common.
pub mod Common
