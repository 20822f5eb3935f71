-- The numbers of a grid's cells fit together.
--     x-is, z-is     the places of a cell
--     along-z        the columns run along z
-- Assumes nothing.
use mathlib.Core.Path.{◌≡◌, sym, ap, ◌∙◌, subst}
use Prim.Native.Nat.{ℕ, ◌+◌, ◌*◌, ◌/◌, ◌%◌, ◌<◌, ◌≤◌}
use native.Mathlib.Nat.{mul-add, mul_assoc, mul-le-mul, div-one, mod-eq_of_lt, div-div-eq-div-mul}
use native.Mathlib.Omega.{arith}
use Rattle.grid.specs.Cells.{cell_number, x_of_cell, y_of_cell, z_of_cell}
use Rattle.grid.proofs.Numbers.{number_lt, x-of, y_of, z-of, number-of, z-lt}
use Rattle.columns.specs.Draw.{Numbers}
use Rattle.columns.proofs.Drawing.{strides}

module _ (nx ny nz : ℕ) (px : 0 < nx) (py : 0 < ny) (mx : nx ≤ 64) (my : ny ≤ 64) (mz : nz ≤ 64) where
  number_is : (x y z : ℕ) → 1 * x + nx * y + nx * ny * z ≡ cell_number nx ny x y z
  number_is x y z = let p = mul-add nx y (ny * z) in let q = mul_assoc nx ny z in omega arith

  pub x-is : (n : ℕ) → n / 1 % nx ≡ x_of_cell nx n
  x-is n = ap (λ (m : ℕ). m % nx) (div-one n)

  pub z-is : (n : ℕ) → n < nx * ny * nz → n / (nx * ny) % nz ≡ z_of_cell nx ny n
  z-is n h = ap (λ (m : ℕ). m % nz) (sym (div-div-eq-div-mul n nx ny)) ∙ mod-eq_of_lt (z-lt nx ny nz n px py h)

  layer-most : nx * ny ≤ 4096
  layer-most = mul-le-mul mx my

  -- of the cell (x, y, z), its number m
  module _ (x y z m : ℕ) (is : m ≡ cell_number nx ny x y z) (hx : x < nx) (hy : y < ny) (hz : z < nz) where
    in-grid : m < nx * ny * nz
    in-grid = subst (λ n. n < nx * ny * nz) (sym is) (number_lt nx ny nz x y z hx hy hz)

    at_x : m / 1 % nx ≡ x
    at_x = x-is m ∙ ap (x_of_cell nx) is ∙ x-of nx ny x y z hx

    at_y : m / nx % ny ≡ y
    at_y = ap (y_of_cell nx ny) is ∙ y_of nx ny x y z hx hy

    at-z : m / (nx * ny) % nz ≡ z
    at-z = z-is m in-grid ∙ ap (z_of_cell nx ny) is ∙ z-of nx ny x y z hx hy

  back : (n : ℕ) → n < nx * ny * nz → 1 * (n / 1 % nx) + nx * (n / nx % ny) + nx * ny * (n / (nx * ny) % nz) ≡ n
  back n h = number_is (n / 1 % nx) (n / nx % ny) (n / (nx * ny) % nz) ∙ (λ i. cell_number nx ny (x-is n i) (y_of_cell nx ny n) (z-is n h i)) ∙ number-of nx ny n

  pub along-z : Numbers (strides 1 nx nx ny (nx * ny) nz)
  along-z = record {
    back = back;
    within = λ i j k a b c. in-grid i j k _ (number_is i j k) a b c;
    u = λ i j k a b c. at_x i j k _ (number_is i j k) a b c;
    v = λ i j k a b c. at_y i j k _ (number_is i j k) a b c;
    w = λ i j k a b c. at-z i j k _ (number_is i j k) a b c;
    su-most = omega arith;
    sv-most = omega arith;
    sw-most = layer-most;
    nu-most = mx;
    nv-most = my;
    nw-most = mz;
  }
