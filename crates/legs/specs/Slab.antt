-- The slabs of a leg: in the plane of two axes, the cells at which a × i + b × j + c is from 0 to `reach`, both included, where i and j are the cell's
-- numbers on the two axes. Definitions only.
use Rattle.std.specs.Prelude.{Bool, cond, ◌&&◌, List, [], ◌∷◌, ℕ, ◌≤◌, ℤ, pos, neg_ℤ, nat_abs, ◌+ℤ◌, ◌-ℤ◌, ◌*ℤ◌}
use Rattle.std.specs.Int.Signed.{le_z, lt_z}
use Rattle.std.specs.Int.{int_max}
use Rattle.geometry.specs.Bounds.{offset_max, step_max, extent_max, index_max}
use Rattle.geometry.specs.declared.Point.{Point}
use Rattle.geometry.specs.Geometry.{Axis, x_of, y_of, z_of}
use Rattle.grid.specs.declared.Lattice.{Lattice}
use Rattle.grid.specs.declared.CellRange.{CellRange}
use Rattle.legs.specs.Form.{Form}
use Rattle.legs.specs.declared.Slabs.{Slabs}

-- ---- the slab of a leg in the plane of two axes
-- The leg goes by (ea, eb) from the point (va, vb), which is measured from the first box's corner. The boxes are `step` apart, and `extent` long.
abbrev pub rising_slab : (ea eb va vb step extent : ℤ) → Form
rising_slab ea eb va vb step extent = record {
  a = neg_ℤ (step *ℤ eb);
  b = step *ℤ ea;
  c = extent *ℤ (int_max (pos 0) ea -ℤ eb) -ℤ (ea *ℤ vb -ℤ eb *ℤ va);
  reach = extent *ℤ (pos (nat_abs ea) -ℤ eb);
}

-- The leg is taken in the direction in which eb is not positive, so that the form does not fall with i.
unfoldable pub slab_of : (ea eb va vb step extent : ℤ) → Form
slab_of ea eb va vb step extent =
    cond (lt_z (pos 0) eb) (rising_slab (neg_ℤ ea) (neg_ℤ eb) va vb step extent) (rising_slab ea eb va vb step extent)

-- The slabs of the leg from p to q, for the boxes of a lattice: in the plane of the axes a and b, and in each plane.
abbrev pub slab_in : Lattice → (p q : Point) → (a b : Axis) → Form
slab_in l p q a b = slab_of (a q -ℤ a p) (b q -ℤ b p) (a p -ℤ a l.first) (b p -ℤ b l.first) l.step l.extent

abbrev pub slabs_of : Lattice → (p q : Point) → Slabs
slabs_of l p q = record { xy = slab_in l p q x_of y_of; yz = slab_in l p q y_of z_of; zx = slab_in l p q z_of x_of }

-- ---- the cells that lie in a slab
-- The form at the cell with the numbers i and j, and its test.
abbrev pub form_of : Form → (i j : ℤ) → ℤ
form_of s i j = s.a *ℤ i +ℤ s.b *ℤ j +ℤ s.c

abbrev pub slab_holds : Form → (i j : ℤ) → Bool
slab_holds s i j = le_z (pos 0) (form_of s i j) && le_z (form_of s i j) s.reach

-- The same along a run of cells, where the number on the other axis is k.
abbrev pub slab_along : Form → (k i : ℕ) → Bool
slab_along s k i = slab_holds s (pos i) (pos k)

-- Row j of layer k, by the slab in YZ, which does not see where along the row a cell is; cell i of row j, by the slab in XY, which does not see the layer; and
-- cell i of row j of layer k, by the two that see it.
abbrev pub row_holds : Slabs → (k j : ℕ) → Bool
row_holds s = slab_along s.yz

abbrev pub column_holds : Slabs → (j i : ℕ) → Bool
column_holds s = slab_along s.xy

unfoldable pub cell_holds : Slabs → (i j k : ℕ) → Bool
cell_holds s i j k = slab_holds s.xy (pos i) (pos j) && slab_holds s.zx (pos k) (pos i)

-- ---- what the functions ask
-- A leg's direction and starting point in a plane, the step and the extent.
abbrev pub slab_bounds : List ℕ
slab_bounds = offset_max ∷ offset_max ∷ offset_max ∷ offset_max ∷ step_max ∷ extent_max ∷ []

-- A run to choose from, a cell of it to begin at, and the number on the other axis.
pub record ReadyRun (run : CellRange) (near at : ℕ) : Type 0 where
  pub low : run.first ≤ near
  pub high : near ≤ run.end
  pub most : run.end ≤ index_max
  pub across : at ≤ index_max
