-- The theory of integers, in the order in which a reader needs it.
-- Truths.
pub mod Truth
-- An integer as two naturals, which `omega` reads; computed tests of order.
pub mod Omega
-- Ring laws and order laws.
pub mod Laws
-- Integer expressions as data.
pub mod Expr
-- Equations of expressions: the ring solver.
pub mod Ring
-- Inequalities of expressions, by certificate.
pub mod Certificates
-- Bounds on the size of a number, which compose.
pub mod Bounds
-- What signed code asks of a proof: operations, quotients.
pub mod Machine
pub mod Quotients
-- The lesser and the greater of two numbers.
pub mod MinMax
-- The greater and the lesser of 0 and a multiple.
pub mod Scales
-- A number's sign.
pub mod Orientation
