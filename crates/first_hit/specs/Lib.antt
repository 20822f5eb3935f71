pub mod FirstHit
-- inner
pub mod Inner
