-- A triangle's forms, together. Definitions only.
use Rattle.std.specs.Prelude.{ℕ}
use Rattle.forms.specs.declared.Edge.{Edge}
use Rattle.forms.specs.declared.PlaneForm.{PlaneForm}
use Rattle.forms.specs.declared.bounded.Forms.{Forms}
use Rattle.forms.specs.Form.{edge_of}

-- Edge m, for m = 0, 1, 2.
abbrev pub edge_at : Forms → ℕ → Edge
edge_at f m = edge_of f.edges m

-- The plane.
abbrev pub plane_at : Forms → PlaneForm
plane_at f = f.plane
