-- Weights to try, by which a triangle may reach a box. Definitions only; no public promise cites them.
-- Weights are a triple w, one number for each corner (barycentric coordinates, up to a factor). A row gives each corner a number too, and its value on w is
-- the dot product. Nine rows say all that weights are asked: that none of them is negative, and that the weighted sum is on the inner side of each side of the box.
use Rattle.std.specs.Prelude.{List, [], ◌∷◌, ℕ, ◌/◌, ◌%◌, ◌<◌, ℤ, pos, ◌+ℤ◌, ◌-ℤ◌, get_or, ◌≤ℤ◌, ◌<ℤ◌}
use Rattle.geometry.specs.declared.Point.{Point}
use Rattle.geometry.specs.declared.Triangle.{Triangle}
use Rattle.geometry.specs.Geometry.{point, dot, cross, Axis, x_of, y_of, z_of}

-- How far corners at a, b and c on an axis are above the box's low side there, at p.
abbrev pub low_side : (a b c p : ℤ) → Point
low_side a b c p = point (a -ℤ p) (b -ℤ p) (c -ℤ p)

-- How far they are below its high side, where they are x above the low one and the box has the extent d.
abbrev pub high_side : Point → (d : ℤ) → Point
high_side x d = point (d -ℤ x.x) (d -ℤ x.y) (d -ℤ x.z)

-- The rows of the two sides on an axis.
abbrev pub low_on : Triangle → Point → Axis → Point
low_on t p a = low_side (a t.v0) (a t.v1) (a t.v2) (a p)

abbrev pub high_on : Triangle → (p d : Point) → Axis → Point
high_on t p d a = high_side (low_on t p a) (a d)

-- The rows: the three weights themselves, the low sides and the high sides.
abbrev pub rows : Triangle → (p d : Point) → List Point
rows t p d =
    point (pos 1) (pos 0) (pos 0) ∷ point (pos 0) (pos 1) (pos 0) ∷ point (pos 0) (pos 0) (pos 1)
    ∷ low_on t p x_of ∷ low_on t p y_of ∷ low_on t p z_of ∷ high_on t p d x_of ∷ high_on t p d y_of ∷ high_on t p d z_of ∷ []

-- Row k of a list. Past its end the rows are 0.
abbrev pub row : List Point → ℕ → Point
row rs k = get_or rs k (point (pos 0) (pos 0) (pos 0))

-- The weights w fit the rows: none of the nine is negative on them, and their total is positive.
pub record Fits (rs : List Point) (w : Point) : Type 0 where
  pub rows : (k : ℕ) → k < 9 → pos 0 ≤ℤ dot (row rs k) w
  pub some : pos 0 <ℤ (w.x +ℤ w.y +ℤ w.z)

-- Candidate m: the weights on which two of the rows are 0.
abbrev pub candidate : List Point → ℕ → Point
candidate rs m = cross (row rs (m % 9)) (row rs (m / 9))
