-- Where along a leg a box is entered: a fraction of the leg, 0 at its start and 1 at its end. In the field's terms, the entry parameter that the slab method
-- gives for a segment and a box. Definitions only.
use Rattle.std.specs.Prelude.{Bool, cond, ℤ, pos, ◌+ℤ◌, ◌-ℤ◌, ◌*ℤ◌}
use Rattle.std.specs.Int.Signed.{lt_z}
use Rattle.geometry.specs.declared.Point.{Point}
use Rattle.geometry.specs.Geometry.{Axis, x_of, y_of, z_of}
use Rattle.entry.specs.declared.Fraction.{Fraction}

-- num / den, where den is positive. It need not be in lowest terms.
abbrev pub over : (num den : ℤ) → Fraction
over n d = record { num = n; den = d }

-- Is f less than g? Two fractions are compared exactly, by cross-multiplication.
abbrev pub earlier : (f g : Fraction) → Bool
earlier f g = lt_z (f.num *ℤ g.den) (g.num *ℤ f.den)

-- The greater of two fractions.
unfoldable pub later : (f g : Fraction) → Fraction
later f g = cond (earlier f g) g f

-- On an axis, the leg from a to b comes to the box from p to p + d: going up, at its low side; going down, at its high side; else it is there from the start.
unfoldable pub entry_on : (a b p d : ℤ) → Fraction
entry_on a b p d = cond (lt_z a b) (over (p -ℤ a) (b -ℤ a)) (cond (lt_z b a) (over (a -ℤ (p +ℤ d)) (a -ℤ b)) (over (pos 0) (pos 1)))

-- The box is entered when the leg has started and has come to it on every axis: at the greatest of 0 and of the axes' fractions.
unfoldable pub entry : (a b p d : Point) → Fraction
entry a b p d =
    let on : Axis → Fraction = λ c. entry_on (c a) (c b) (c p) (c d) in
    later (later (later (over (pos 0) (pos 1)) (on z_of)) (on y_of)) (on x_of)
