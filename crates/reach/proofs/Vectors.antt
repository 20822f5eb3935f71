-- Triples of integers, and the same triples for the ring solver and the certificates of inequalities.
-- A `Point` holds the coordinates of a point or, as well, three numbers of one kind, one for each corner of a triangle. A `Vector` holds three expressions.
-- Each operation on points has its twin on vectors, marked ᴱ; the value (`eval`) of the twin's result is the operation's, by computation.
use mathlib.Core.List.{List, ◌∷◌}
use Prim.Native.Nat.{ℕ, ◌+◌, ◌*◌}
use lib.IntN.{ℤ, pos, ◌+ℤ◌, ◌*ℤ◌}
use lib.Signed.{◌<ℤ◌}
use Rattle.integers.proofs.Laws.{<→≤}
use Rattle.integers.proofs.Expr.{Expr, eval, var, num, ◌⊕◌, ◌⊖◌, ◌⊗◌}
use Rattle.integers.proofs.Certificates.{Fact, le}
use Rattle.geometry.specs.declared.Point.{Point}
use Rattle.geometry.specs.Geometry.{point, dot, cross}

-- ---- points
-- the sum of the three numbers
abbrev pub total : Point → ℤ
total w = w.x +ℤ w.y +ℤ w.z

-- the determinant with the rows a, b, c
abbrev pub det : Point → Point → Point → ℤ
det a b c = dot a (cross b c)

abbrev pub ones : Point
ones = point (pos 1) (pos 1) (pos 1)

-- a u + b v + c w
abbrev pub combination : (a b c : ℤ) → (u v w : Point) → Point
combination a b c u v w =
    point (a *ℤ u.x +ℤ b *ℤ v.x +ℤ c *ℤ w.x) (a *ℤ u.y +ℤ b *ℤ v.y +ℤ c *ℤ w.y) (a *ℤ u.z +ℤ b *ℤ v.z +ℤ c *ℤ w.z)

-- the corners named in turn: what was of corner 1 is of corner 0
abbrev pub turn : Point → Point
turn f = point f.y f.z f.x

-- ---- vectors
pub record Vector : Type 0 where
  pub x : Expr
  pub y : Expr
  pub z : Expr

abbrev pub vector : Expr → Expr → Expr → Vector
vector x y z = record { x = x; y = y; z = z }

abbrev pub minusᴱ : Vector → Vector → Vector
minusᴱ a b = vector (a.x ⊖ b.x) (a.y ⊖ b.y) (a.z ⊖ b.z)

abbrev pub dotᴱ : Vector → Vector → Expr
dotᴱ a b = a.x ⊗ b.x ⊕ a.y ⊗ b.y ⊕ a.z ⊗ b.z

abbrev pub crossᴱ : Vector → Vector → Vector
crossᴱ a b = vector (a.y ⊗ b.z ⊖ a.z ⊗ b.y) (a.z ⊗ b.x ⊖ a.x ⊗ b.z) (a.x ⊗ b.y ⊖ a.y ⊗ b.x)

abbrev pub totalᴱ : Vector → Expr
totalᴱ w = w.x ⊕ w.y ⊕ w.z

abbrev pub detᴱ : Vector → Vector → Vector → Expr
detᴱ a b c = dotᴱ a (crossᴱ b c)

abbrev pub onesᴱ : Vector
onesᴱ = vector (num 1) (num 1) (num 1)

abbrev pub combinationᴱ : (a b c : Expr) → (u v w : Vector) → Vector
combinationᴱ a b c u v w =
    vector (a ⊗ u.x ⊕ b ⊗ v.x ⊕ c ⊗ w.x) (a ⊗ u.y ⊕ b ⊗ v.y ⊕ c ⊗ w.y) (a ⊗ u.z ⊕ b ⊗ v.z ⊕ c ⊗ w.z)

abbrev pub turnᴱ : Vector → Vector
turnᴱ f = vector f.y f.z f.x

-- ---- a list of values that starts with points, p at q at .. ∷ [], and its point number i
infixr 5 ◌at◌
abbrev pub ◌at◌ : Point → List ℤ → List ℤ
p at ρ = p.x ∷ p.y ∷ p.z ∷ ρ

abbrev pub vec : ℕ → Vector
vec i = vector (var (3 * i)) (var (3 * i + 1)) (var (3 * i + 2))

-- the fact that −e is not negative, from e < 0
abbrev pub negative : {ρ : List ℤ} (e : Expr) → eval ρ e <ℤ pos 0 → Fact ρ
negative e h = le e (num 0) (<→≤ h)
