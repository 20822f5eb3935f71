-- The axis of a row of cells that a triangle stays within names the two axes on which it stays within one cell.
--     along-x, along-y, along-z    a row along that axis
-- Assumes nothing.
use Rattle.std.proofs.Common.{◌≡◌, Bool, true, false, Some, refl}
use Rattle.placed.specs.declared.Along.TheVariants.{X, Y, Z}
use Rattle.placed.specs.Box.{axis_of}

pub along-x : (x y z : Bool) → Some X ≡ axis_of x y z → (y ≡ true) × (z ≡ true)
along-x true true z e = cc
along-x true false true e = cc
along-x true false false e = cc
along-x false true true e = (refl, refl)
along-x false true false e = cc
along-x false false z e = cc

pub along-y : (x y z : Bool) → Some Y ≡ axis_of x y z → (z ≡ true) × (x ≡ true)
along-y true true z e = cc
along-y true false true e = (refl, refl)
along-y true false false e = cc
along-y false true true e = cc
along-y false true false e = cc
along-y false false z e = cc

pub along-z : (x y z : Bool) → Some Z ≡ axis_of x y z → (x ≡ true) × (y ≡ true)
along-z true true z e = (refl, refl)
along-z true false true e = cc
along-z true false false e = cc
along-z false true true e = cc
along-z false true false e = cc
along-z false false z e = cc
