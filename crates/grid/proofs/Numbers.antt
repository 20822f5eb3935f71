-- Laws of cell numbers, in a grid with nx × ny × nz cells.
--     number_lt             a cell's number is below the number of cells
--     x-of, y_of, z-of      the place of a cell, from its number
--     number-of             the number of a cell, from its place
--     x_lt, y-lt, z-lt      a number below the number of cells has its place in the grid
-- Assumes nothing.
use mathlib.Core.Path.{◌≡◌, ap, ◌∙◌}
use Prim.Native.Nat.{ℕ, ◌+◌, ◌*◌, ◌/◌, ◌%◌, ◌<◌}
use native.Mathlib.Nat.{mul-le-mul_left, mul-suc, mul_assoc, add-mul-mod_self_left, add-mul-div_left, mod-eq_of_lt, mod-lt, div-eq_of_lt, zero-add, mod-add-div, div-lt_iff_lt-mul, mul_comm}
use native.Mathlib.Omega.{arith}
use Rattle.grid.specs.Cells.{cell_number, x_of_cell, y_of_cell, z_of_cell}

-- ---- rows of a items each
row_lt : (a b i j : ℕ) → i < a → j < b → i + a * j < a * b
row_lt a b i j hi hj = omega (arith, mul-le-mul_left a hj, mul-suc a j)

row-mod : (a i t : ℕ) → i < a → (i + a * t) % a ≡ i
row-mod a i t h = add-mul-mod_self_left i a t ∙ mod-eq_of_lt h

row-div : (a i t : ℕ) → i < a → (i + a * t) / a ≡ t
row-div a i t h = add-mul-div_left i t (omega arith) ∙ ap (λ (q : ℕ). q + t) (div-eq_of_lt h) ∙ zero-add t

module _ (nx ny nz : ℕ) where
  pub number_lt : (i j k : ℕ) → i < nx → j < ny → k < nz → cell_number nx ny i j k < nx * ny * nz
  number_lt i j k hi hj hk = rw (mul_assoc nx ny nz) (row_lt nx (ny * nz) i (j + ny * k) hi (row_lt ny nz j k hj hk))

module _ (nx ny : ℕ) where
  pub x-of : (i j k : ℕ) → i < nx → x_of_cell nx (cell_number nx ny i j k) ≡ i
  x-of i j k hi = row-mod nx i (j + ny * k) hi

  pub y_of : (i j k : ℕ) → i < nx → j < ny → y_of_cell nx ny (cell_number nx ny i j k) ≡ j
  y_of i j k hi hj = ap (λ (q : ℕ). q % ny) (row-div nx i (j + ny * k) hi) ∙ row-mod ny j k hj

  pub z-of : (i j k : ℕ) → i < nx → j < ny → z_of_cell nx ny (cell_number nx ny i j k) ≡ k
  z-of i j k hi hj = ap (λ (q : ℕ). q / ny) (row-div nx i (j + ny * k) hi) ∙ row-div ny j k hj

  pub number-of : (n : ℕ) → cell_number nx ny (x_of_cell nx n) (y_of_cell nx ny n) (z_of_cell nx ny n) ≡ n
  number-of n = ap (λ (q : ℕ). n % nx + nx * q) (mod-add-div (n / nx) ny) ∙ mod-add-div n nx

  pub x_lt : (n : ℕ) → 0 < nx → x_of_cell nx n < nx
  x_lt n h = mod-lt n h

  pub y-lt : (n : ℕ) → 0 < ny → y_of_cell nx ny n < ny
  y-lt n h = mod-lt (n / nx) h

  pub z-lt : (nz n : ℕ) → 0 < nx → 0 < ny → n < nx * ny * nz → z_of_cell nx ny n < nz
  z-lt nz n hx hy h =
      let turn : nx * ny * nz ≡ nz * ny * nx = mul_assoc nx ny nz ∙ mul_comm nx (ny * nz) ∙ ap (λ (m : ℕ). m * nx) (mul_comm ny nz) in
      (div-lt_iff_lt-mul hy).1 ((div-lt_iff_lt-mul hx).1 (rw turn at h))
