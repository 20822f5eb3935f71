-- How large a candidate's total is: it is made of differences of two numbers of one row, and such a difference is one of two corners, or 1.
--     few   with corners within M, no total is more than 8 M M
-- Assumes nothing.
use mathlib.Core.List.{[], ◌∷◌}
use mathlib.Core.Path.{subst}
use Prim.Native.Nat.{ℕ, ◌+◌, ◌*◌, ◌/◌, ◌%◌, ◌≤◌, ◌<◌}
use native.Mathlib.Omega.{arith}
use lib.Dec.{lit≤}
use lib.IntN.{ℤ, pos, nat_abs, ◌-ℤ◌}
use lib.Signed.{◌≤ℤ◌}
use Rattle.integers.specs.Within.{Within}
use Rattle.integers.proofs.Expr.{var, num, neg, ◌⊕◌, ◌⊖◌, ◌⊗◌}
use Rattle.integers.proofs.Ring.{ring, ring1}
use Rattle.integers.proofs.Bounds.{within-high, within-sub, within-mul, within-neg}
use Rattle.geometry.specs.declared.Point.{Point}
use Rattle.geometry.specs.declared.Triangle.{Triangle}
use Rattle.geometry.specs.Bounds.{TriangleWithin}
use Rattle.geometry.specs.Geometry.{cross, x_of, y_of, z_of}
use Rattle.reach.proofs.Vectors.{total, totalᴱ, crossᴱ, vec, ◌at◌}
use Rattle.candidates.specs.Candidates.{low_side, high_side, low_on, rows, row, candidate}
use Rattle.candidates.proofs.Rows.{at_row}

-- the numbers of a row are no more than B apart
record Spread (B : ℕ) (r : Point) : Type 0 where
  y : Within B (r.y -ℤ r.x)
  z : Within B (r.z -ℤ r.x)

module _ {B : ℕ} where
  cross-total : (c d : Point) → Spread B c → Spread B d → total (cross d c) ≤ℤ pos (B * B + B * B)
  cross-total c d hc hd =
      let C = vec 0 in let D = vec 1 in
      subst (λ x. x ≤ℤ pos (B * B + B * B)) (ring (c at d at []) ((D.y ⊖ D.x) ⊗ (C.z ⊖ C.x) ⊖ (D.z ⊖ D.x) ⊗ (C.y ⊖ C.x)) (totalᴱ (crossᴱ D C)) tt)
      (within-high (within-sub (within-mul hd.y hc.z) (within-mul hd.z hc.y)))

  high-spread : {x : Point} (d : ℤ) → Spread B x → Spread B (high_side x d)
  high-spread {x} d h = record { y = apart x.x x.y h.y; z = apart x.x x.z h.z }
    where
      apart : (a b : ℤ) → Within B (b -ℤ a) → Within B ((d -ℤ b) -ℤ (d -ℤ a))
      apart a b h = subst (Within B) (ring (a ∷ b ∷ d ∷ []) (neg (var 1 ⊖ var 0)) ((var 2 ⊖ var 1) ⊖ (var 2 ⊖ var 0)) tt) (within-neg h)

low-spread : {M : ℕ} {a b c : ℤ} (p : ℤ) → Within M a → Within M b → Within M c → Spread (M + M) (low_side a b c p)
low-spread {M} {a} p ha hb hc = record { y = apart hb; z = apart hc }
  where
    apart : {b : ℤ} → Within M b → Within (M + M) ((b -ℤ p) -ℤ (a -ℤ p))
    apart {b} hb = subst (Within (M + M)) (ring (a ∷ b ∷ p ∷ []) (var 1 ⊖ var 0) ((var 1 ⊖ var 2) ⊖ (var 0 ⊖ var 2)) tt) (within-sub hb ha)

module _ {M : ℕ} {t : Triangle} (p d : Point) (l : 0 < M) (h : TriangleWithin M t) where
  low_x : Spread (M + M) (low_on t p x_of)
  low_x = low-spread p.x h.v0.x h.v1.x h.v2.x

  low-y : Spread (M + M) (low_on t p y_of)
  low-y = low-spread p.y h.v0.y h.v1.y h.v2.y

  low-z : Spread (M + M) (low_on t p z_of)
  low-z = low-spread p.z h.v0.z h.v1.z h.v2.z

  unit-spread : {r : Point} → nat_abs (r.y -ℤ r.x) + nat_abs (r.z -ℤ r.x) ≤ 2 → Spread (M + M) r
  unit-spread u = record { y = record { within = omega (arith, l) }; z = record { within = omega (arith, l) } }

  row-spread : (k : ℕ) → Spread (M + M) (row (rows t p d) k)
  row-spread =
      at_row (Spread (M + M)) (rows t p d) (unit-spread (lit≤ tt)) (
        unit-spread (lit≤ tt),
        (
          unit-spread (lit≤ tt),
          (unit-spread (lit≤ tt), (low_x, (low-y, (low-z, (high-spread d.x low_x, (high-spread d.y low-y, (high-spread d.z low-z, tt))))))),
        ),
      )

  pub few : (m : ℕ) → total (candidate (rows t p d) m) ≤ℤ pos (8 * M * M)
  few m =
      subst (λ x. total (candidate (rows t p d) m) ≤ℤ x) (ring1 (λ n. (n ⊕ n) ⊗ (n ⊕ n) ⊕ (n ⊕ n) ⊗ (n ⊕ n)) (λ n. num 8 ⊗ n ⊗ n) tt (pos M))
      (cross-total (row (rows t p d) (m / 9)) (row (rows t p d) (m % 9)) (row-spread (m / 9)) (row-spread (m % 9)))
