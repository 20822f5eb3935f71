-- Blocks of columns: cutting one, ruling one out, and what a fill asks. Definitions only.
use Rattle.std.specs.Prelude.{Bool, cond, ◌||◌, ◌≡◌, ℕ, ◌+◌, ◌-◌, ◌*◌, ◌<◌, ◌≤◌, leb, ℤ, pos, ◌-ℤ◌}
use Rattle.std.specs.Int.Signed.{lt_z}
use Rattle.grid.specs.declared.BoxRange.{BoxRange}
use Rattle.grid.specs.declared.CellRange.{CellRange}
use Rattle.forms.specs.declared.EdgeForm.{EdgeForm}
use Rattle.forms.specs.declared.bounded.Forms.{Forms}
use Rattle.forms.specs.Form.{value_of}
use Rattle.forms.specs.Forms.{edge_at}
use Rattle.column_rule.specs.Column.{square_passes}
use Rattle.pending.specs.Pending.{halvings}
use Rattle.columns.specs.declared.Strides.{Strides}
use Rattle.columns.specs.Draw.{Numbers, cells_of, range, rectangle}
use Rattle.blocks.specs.declared.shape.Block.{Block}

-- ---- a block: its ranges on the two axes, and its columns
abbrev pub u_range : Block → CellRange
u_range b = range b.u0 b.u1

abbrev pub v_range : Block → CellRange
v_range b = range b.v0 b.v1

abbrev pub columns_of : Block → ℕ → ℕ → Bool
columns_of b = rectangle (u_range b) (v_range b)

-- How many columns a range has; the block has at most 64; how many halvings lead from it to single columns, at most.
abbrev pub width_of : CellRange → ℕ
width_of r = r.end - r.first

abbrev pub is_small : Block → Bool
is_small b = leb (width_of (u_range b) * width_of (v_range b)) 64

abbrev pub depth_of : Block → ℕ
depth_of b = halvings (width_of (u_range b)) + halvings (width_of (v_range b))

-- A range that is not empty, of an axis with n cells. A block of such ranges.
pub record SomeCells (n : ℕ) (r : CellRange) : Type 0 where
  pub some : r.first < r.end
  pub most : r.end ≤ n

pub record BlockIn (nu nv : ℕ) (b : Block) : Type 0 where
  pub u : SomeCells nu (u_range b)
  pub v : SomeCells nv (v_range b)

-- ---- a block cut in two
-- p is a part of the block b that fewer halvings cut into columns.
pub record SmallerPart (b p : Block) : Type 0 where
  pub inside : BlockIn b.u1 b.v1 p
  pub less : depth_of p < depth_of b

-- The halves have the block's columns.
pub record Halved (b low high : Block) : Type 0 where
  pub low_part : SmallerPart b low
  pub high_part : SmallerPart b high
  pub both : (i j : ℕ) → columns_of b i j ≡ (columns_of low i j || columns_of high i j)

-- ---- a block that an edge rules out
-- The cell of a range from `first` on and below `end` at which a × i is greatest; the greatest value of an edge's form in the block; no edge's form of uv is
-- negative there.
abbrev pub far_end : ℤ → (first end : ℕ) → ℤ
far_end a first end = cond (lt_z a (pos 0)) (pos first) (pos end -ℤ pos 1)

abbrev pub far_value : EdgeForm → Block → ℤ
far_value f b = value_of f (far_end f.a b.u0 b.u1) (far_end f.b b.v0 b.v1)

unfoldable pub kept_by : Forms → Block → Bool
kept_by f b = square_passes (far_value (edge_at f 0).uv b) (far_value (edge_at f 1).uv b) (far_value (edge_at f 2).uv b)

-- ---- what a fill asks: the grid's numbers, room in the map, and a box of cells in the grid, which is not empty
pub record BoxReady (g : Strides) (bytes : ℕ) (b : BoxRange) : Type 0 where
  pub numbers : Numbers g
  pub room : cells_of g ≤ 8 * bytes
  pub x : SomeCells g.nu b.x
  pub y : SomeCells g.nv b.y
  pub z : SomeCells g.nw b.z
