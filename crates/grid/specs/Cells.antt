-- The numbers of a grid's cells. Definitions only.
use Rattle.std.specs.Prelude.{ℕ, ◌+◌, ◌*◌, ◌/◌, ◌%◌}

-- Of nx × ny × nz cells, cell (i, j, k) has the number i + nx × (j + ny × k).
abbrev pub cell_number : (nx ny i j k : ℕ) → ℕ
cell_number nx ny i j k = i + nx * (j + ny * k)

-- Back: the place of cell n along x, y and z.
abbrev pub x_of_cell : (nx n : ℕ) → ℕ
x_of_cell nx n = n % nx

abbrev pub y_of_cell : (nx ny n : ℕ) → ℕ
y_of_cell nx ny n = n / nx % ny

abbrev pub z_of_cell : (nx ny n : ℕ) → ℕ
z_of_cell nx ny n = n / nx / ny
