-- What the functions compute with, how large their numbers may be, and what the least fraction means. Definitions only; no public promise cites them.
use Rattle.std.specs.Prelude.{cond, List, [], ◌∷◌, ◌≡◌, ℕ, ◌+◌, ℤ, pos, neg_ℤ, ◌+ℤ◌, ◌-ℤ◌, ◌*ℤ◌, ◌≤ℤ◌, ◌<ℤ◌}
use Rattle.std.specs.Int.Signed.{lt_z}
use Rattle.geometry.specs.Bounds.{coordinate_max, step_max, extent_max}
use Rattle.geometry.specs.declared.Point.{Point}
use Rattle.geometry.specs.Geometry.{Axis, x_of, y_of, z_of}
use Rattle.grid.specs.declared.Lattice.{Lattice}
use Rattle.reach.specs.Reaches.{LegReachesBox}
use Rattle.entry.specs.declared.Fraction.{Fraction}
use Rattle.entry.specs.declared.AxisEntry.{AxisEntry}
use Rattle.entry.specs.declared.Entries.{Entries}
use Rattle.entry.specs.Parts.{BoundedApproach}
use Rattle.entry.specs.Entry.{over, later}

-- ---- the entry fractions of a lattice's boxes
-- On an axis, the leg from a to b comes to the boxes from `first` + i × `step` on at fractions whose numerators are linear in i.
abbrev pub axis_entry : (num slope den : ℤ) → AxisEntry
axis_entry n s d = record { num = n; slope = s; den = d }

unfoldable pub axis_entry_of : (a b first step extent : ℤ) → AxisEntry
axis_entry_of a b first step extent =
    cond (lt_z a b) (axis_entry (first -ℤ a) step (b -ℤ a))
    (cond (lt_z b a) (axis_entry (a -ℤ (first +ℤ extent)) (neg_ℤ step) (a -ℤ b)) (axis_entry (pos 0) (pos 0) (pos 1)))

abbrev pub axis_entry_in : Lattice → (p q : Point) → Axis → AxisEntry
axis_entry_in l p q a = axis_entry_of (a p) (a q) (a l.first) l.step l.extent

abbrev pub entries_of : Lattice → (p q : Point) → Entries
entries_of l p q = record { x = axis_entry_in l p q x_of; y = axis_entry_in l p q y_of; z = axis_entry_in l p q z_of }

-- The fraction at which it comes to box i on an axis.
abbrev pub entry_by : AxisEntry → ℕ → Fraction
entry_by c i = over (c.num +ℤ c.slope *ℤ pos i) c.den

-- The fraction at which it has started and has come to layer k; to row j of it; and to cell i of that, whose box it then enters.
abbrev pub layer_entry : Entries → (k : ℕ) → Fraction
layer_entry c k = later (over (pos 0) (pos 1)) (entry_by c.z k)

abbrev pub row_entry : Entries → (j k : ℕ) → Fraction
row_entry c j k = later (layer_entry c k) (entry_by c.y j)

abbrev pub entry_at : Entries → (i j k : ℕ) → Fraction
entry_at c i j k = later (row_entry c j k) (entry_by c.x i)

-- ---- sizes
-- Two ends of a leg, the first box's corner, the step and the extent, on an axis.
abbrev pub entry_bounds : List ℕ
entry_bounds = coordinate_max ∷ coordinate_max ∷ coordinate_max ∷ step_max ∷ extent_max ∷ []

pub record BoundedEntries (c : Entries) : Type 0 where
  pub x : BoundedApproach c.x
  pub y : BoundedApproach c.y
  pub z : BoundedApproach c.z

-- ---- the order of fractions, as a statement
abbrev pub AtMost : (f g : Fraction) → Type 0
AtMost f g = (f.num *ℤ g.den) ≤ℤ (g.num *ℤ f.den)

-- The fractions that it orders.
abbrev pub Positive : Fraction → Type 0
Positive f = pos 0 <ℤ f.den

-- ---- what the entry fraction means
-- The point that the weights w0 and w1 give lies at the fraction w1 / (w0 + w1) of the leg.
abbrev pub share : {a b p d : Point} → LegReachesBox a b p d → Fraction
share r = over (pos r.w1) (pos (r.w0 + r.w1))

-- f is the least fraction of the leg whose point lies in the closed box: the weights den − num and num put the leg in the box, and no weights that do have a
-- lesser fraction.
pub record LeastFraction (a b p d : Point) (f : Fraction) : Type 0 where
  pub at : LegReachesBox a b p d
  pub is : share at ≡ f
  pub least : (r : LegReachesBox a b p d) → AtMost f (share r)
