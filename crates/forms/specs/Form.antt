-- The forms of a triangle, and how large their numbers are. Definitions only.
use Rattle.std.specs.Prelude.{List, ℕ, ◌^◌, ◌<◌, ℤ, pos, ◌+ℤ◌, ◌*ℤ◌, slice_index_or, ◌≤ℤ◌}
use Rattle.integers.specs.Within.{Within}
use Rattle.runs.specs.Run.{slope_max, reach_max}
use Rattle.forms.specs.declared.EdgeForm.{EdgeForm}
use Rattle.forms.specs.declared.Edge.{Edge}
use Rattle.forms.specs.declared.PlaneForm.{PlaneForm}

-- The form of an edge at the cells with the numbers i and j.
abbrev pub value_of : EdgeForm → (i j : ℤ) → ℤ
value_of f i j = f.a *ℤ i +ℤ f.b *ℤ j +ℤ f.c

-- Edge m of three, for m = 0, 1, 2.
abbrev pub no_form : EdgeForm
no_form = record { a = pos 0; b = pos 0; c = pos 0 }

abbrev pub no_edge : Edge
no_edge = record { uv = no_form; vw = no_form; wu = no_form; inside = pos 0 }

abbrev pub edge_of : List Edge → ℕ → Edge
edge_of es m = slice_index_or es m no_edge

-- ---- how large the numbers may be, so that what is computed with them fits 64 bits
-- A plane's coefficients and its reach are bounded as those of a slab in `runs`. Here its constant; a coefficient and the constant of an edge; the value from
-- which on a square is inside.
abbrev pub plane_max : ℕ
plane_max = 2 ^ 62

abbrev pub edge_slope_max : ℕ
edge_slope_max = 2 ^ 33

abbrev pub edge_max : ℕ
edge_max = 2 ^ 41

abbrev pub inside_max : ℕ
inside_max = 2 ^ 62

pub record BoundedForm (f : EdgeForm) : Type 0 where
  pub a : Within edge_slope_max f.a
  pub b : Within edge_slope_max f.b
  pub c : Within edge_max f.c

pub record BoundedEdge (e : Edge) : Type 0 where
  pub uv : BoundedForm e.uv
  pub vw : BoundedForm e.vw
  pub wu : BoundedForm e.wu
  pub inside : Within inside_max e.inside

pub record BoundedPlane (f : PlaneForm) : Type 0 where
  pub u : Within slope_max f.u
  pub v : Within slope_max f.v
  pub w : Within slope_max f.w
  pub rises : pos 0 ≤ℤ f.w
  pub at : Within plane_max f.at
  pub reach : Within reach_max f.reach

-- A value of an edge's form, where the cells' numbers are those of a grid.
abbrev pub value_max : ℕ
value_max = 2 ^ 42

-- What a caller may compute with.
pub record BoundedForms (es : List Edge) (p : PlaneForm) : Type 0 where
  pub plane : BoundedPlane p
  pub edge : (m : ℕ) → m < 3 → BoundedEdge (edge_of es m)
