-- Worked examples, by computation on the definitions: answers as a C program sees them, in base sixteen. Assumes nothing.
use mathlib.Core.List.{[], ◌∷◌}
use mathlib.Core.Path.{◌≡◌, refl}
use Rattle.refusal.specs.Limit.{gives, refused}
use Rattle.demand.specs.declared.Finding.TheVariants.{Free, Blocked}
use Rattle.stall.specs.Calls.{packed_route, short, packed_reading}

-- free; the last leg at the last cell; point 63 outside
pub routes : (packed_route (gives Free) ∷ packed_route (gives (Blocked 62 262143)) ∷ packed_route (refused 10 63) ∷ [])
    ≡ (0x0200000000000000 ∷ 0x0300003e0003ffff ∷ 0x010a00000000003f ∷ [])
routes = refl

-- a reading that wants room for 19 numbers; a file that is too short
pub readings : (packed_reading (gives (short 19)) ∷ packed_reading (refused 1 0) ∷ []) ≡ (0x0400000000000013 ∷ 0x0101000000000000 ∷ [])
readings = refl
