-- Worked examples, by computation on the definitions: headers and triangles with numbers at the ends of their fields, and one beyond. Assumes nothing.
use mathlib.Core.Bool.{Bool, true, false}
use mathlib.Core.List.{List, [], ◌∷◌, ◌++◌}
use mathlib.Core.Path.{◌≡◌, refl}
use lib.IntN.{ℤ, pos, neg_ℤ}
use lib.ListN.{replicate}
use Rattle.layout.specs.Layout.{version1}
use Rattle.writable.specs.Fits.{header_fits, triangle_fits, triangle_numbers}

-- A header of version 1 with so many cells along each axis, and zero for its last bits.
abbrev header : (cells edge origin count : ℤ) → List ℤ
header n s o count = pos 1 ∷ n ∷ n ∷ n ∷ s ∷ o ∷ o ∷ o ∷ count ∷ pos 0 ∷ []

abbrev fits : (cells edge origin count : ℤ) → Bool
fits n s o count = header_fits version1 (header n s o count)

-- cells 1 to 64, an edge of 1 to 255, an origin from −8,192 on, a far corner up to 8,191, a count of 0 to 4,095
pub header-in : (fits (pos 1) (pos 1) (neg_ℤ (pos 8192)) (pos 0) ∷ fits (pos 64) (pos 255) (neg_ℤ (pos 8192)) (pos 4095) ∷ fits (pos 1) (pos 255) (pos 7936) (pos 0) ∷ [])
    ≡ (true ∷ true ∷ true ∷ [])
header-in = refl

pub header-out :
    (fits (pos 0) (pos 1) (pos 0) (pos 0)
    ∷ fits (pos 65) (pos 1) (pos 0) (pos 0)
    ∷ fits (pos 1) (pos 0) (pos 0) (pos 0)
    ∷ fits (pos 1) (pos 256) (pos 0) (pos 0)
    ∷ fits (pos 1) (pos 1) (neg_ℤ (pos 8193)) (pos 0)
    ∷ fits (pos 1) (pos 255) (pos 7937) (pos 0)
    ∷ fits (pos 1) (pos 1) (pos 0) (pos 4096)
    ∷ [])
    ≡ replicate 7 false
header-out = refl

-- kinds 0 to 2, numbers from −8,192 to 8,191, ten of them
pub triangle-in : (triangle_fits version1 (pos 2 ∷ replicate 9 (pos 8191)) ∷ triangle_fits version1 (pos 0 ∷ replicate 9 (neg_ℤ (pos 8192))) ∷ []) ≡ (true ∷ true ∷ [])
triangle-in = refl

pub triangle-out :
    (triangle_fits version1 (pos 3 ∷ replicate 9 (pos 5))
    ∷ triangle_fits version1 (neg_ℤ (pos 1) ∷ replicate 9 (pos 5))
    ∷ triangle_fits version1 (pos 0 ∷ replicate 8 (pos 5) ++ (pos 8192 ∷ []))
    ∷ triangle_fits version1 (pos 0 ∷ neg_ℤ (pos 8193) ∷ replicate 8 (pos 5))
    ∷ triangle_fits version1 (replicate 9 (pos 0))
    ∷ triangle_fits version1 (replicate 11 (pos 0))
    ∷ [])
    ≡ replicate 6 false
triangle-out = refl

-- triangle 1 has the second ten numbers
pub second : triangle_numbers (replicate 10 (pos 1) ++ replicate 10 (pos 2) ++ replicate 10 (pos 3)) 1 ≡ replicate 10 (pos 2)
second = refl
