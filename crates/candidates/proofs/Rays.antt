-- Weights that fit rows, moved to where two rows are 0. Two steps, each along a direction whose total is 0 and up to the first row that comes to 0, lead
-- there; and there the weights are a multiple of the two rows' cross product, which therefore fits too. No triangle and no box in this file: what is asked of
-- the rows is that rows 0 and 2 are the weights of corners 0 and 2.
--     two-rows   the cross product of some two rows fits
-- Assumes nothing.
use mathlib.Core.List.{List, [], ◌∷◌}
use mathlib.Core.Path.{◌≡◌, refl, sym, subst}
use Prim.Native.Nat.{ℕ, ◌<◌}
use native.Mathlib.Omega.{arith}
use lib.IntN.{pos, negsuc, neg_ℤ, ◌-ℤ◌, ◌*ℤ◌}
use lib.Signed.{◌<ℤ◌}
use Rattle.integers.proofs.Laws.{NN}
use Rattle.integers.proofs.Expr.{lit, num, neg, ◌⊖◌, ◌⊗◌}
use Rattle.integers.proofs.Ring.{ring}
use Rattle.integers.proofs.Certificates.{nn, lt, eq, ps, weak, ze, ◌⊹◌, ◌⊞◌, ◌⊠◌, by-nn/, by-lt, by-eq}
use Rattle.geometry.specs.declared.Point.{Point}
use Rattle.geometry.specs.Geometry.{point, dot, cross}
use Rattle.reach.proofs.Vectors.{total, ones, combination, Vector, vector, dotᴱ, crossᴱ, totalᴱ, onesᴱ, combinationᴱ, vec, ◌at◌, negative}
use Rattle.candidates.specs.Candidates.{row, Fits}
use Rattle.candidates.proofs.First.{first}

-- ---- a step from w along u, up to where the row f, which falls along u, is 0
abbrev moved : (f w u : Point) → Point
moved f w u = combination (neg_ℤ (dot f u)) (dot f w) (pos 0) w u u

abbrev movedᴱ : (f w u : Vector) → Vector
movedᴱ f w u = combinationᴱ (neg (dotᴱ f u)) (dotᴱ f w) (num 0) w u u

moved-dot : (f w u g : Point) → dot g (moved f w u) ≡ dot f w *ℤ dot g u -ℤ dot f u *ℤ dot g w
moved-dot f w u g =
    let F = vec 0 in let W = vec 1 in let U = vec 2 in let G = vec 3 in
    ring (f at w at u at g at []) (dotᴱ G (movedᴱ F W U)) (dotᴱ F W ⊗ dotᴱ G U ⊖ dotᴱ F U ⊗ dotᴱ G W) tt

moved-zero : (f w u : Point) → dot f (moved f w u) ≡ pos 0
moved-zero f w u = let F = vec 0 in ring (f at w at u at []) (dotᴱ F (movedᴱ F (vec 1) (vec 2))) (num 0) tt

-- a row that is 0 on w and on u is 0 there
moved_on : (f w u g : Point) → dot g w ≡ pos 0 → dot g u ≡ pos 0 → dot g (moved f w u) ≡ pos 0
moved_on f w u g p q =
    let F = vec 0 in let W = vec 1 in let U = vec 2 in let G = vec 3 in
    by-eq (f at w at u at g at []) (dotᴱ G (movedᴱ F W U)) (num 0) (ze (dotᴱ F U) (num 0) (dotᴱ G W) (sym p) ⊹ ze (dotᴱ F W) (dotᴱ G U) (num 0) q) tt

moved-total : (f w u : Point) → total u ≡ pos 0 → dot f u <ℤ pos 0 → pos 0 <ℤ total w → pos 0 <ℤ total (moved f w u)
moved-total f w u e h l =
    let F = vec 0 in let W = vec 1 in let U = vec 2 in
    by-lt (f at w at u at []) (num 0) (totalᴱ (movedᴱ F W U))
    (negative (dotᴱ F U) h ⊠ lt (num 0) (totalᴱ W) l ⊞ lt (dotᴱ F U) (num 0) h ⊞ eq (neg (dotᴱ F W)) (totalᴱ U) (num 0) e) tt

-- c and d are 0 on w: so w is a multiple of their cross product, and what is not negative on w is not negative on that
multiple : (c d w g : Point) → dot c w ≡ pos 0 → dot d w ≡ pos 0 → pos 0 <ℤ total w → pos 0 <ℤ total (cross d c) → NN (dot g w) → NN (dot g (cross d c))
multiple c d w g on-c on-d hw h k =
    let C = vec 0 in let D = vec 1 in let W = vec 2 in let G = vec 3 in
    by-nn/ (c at d at w at g at []) (totalᴱ W) (dotᴱ G (crossᴱ D C)) hw
    (weak (ps (totalᴱ (crossᴱ D C)) h) ⊠ nn (dotᴱ G W) k ⊞ eq (dotᴱ G (crossᴱ onesᴱ D)) (dotᴱ C W) (num 0) on-c
    ⊞ eq (neg (dotᴱ G (crossᴱ onesᴱ C))) (dotᴱ D W) (num 0) on-d) tt

-- ---- rows of which the first three are the weights themselves
module _ (sides : List Point) where
  abbrev rs : List Point
  rs = point (pos 1) (pos 0) (pos 0) ∷ point (pos 0) (pos 1) (pos 0) ∷ point (pos 0) (pos 0) (pos 1) ∷ sides

  record Step (w u : Point) : Type 0 where
    k : ℕ
    below : k < 9
    falls : dot (row rs k) u <ℤ pos 0
    fits : Fits rs (moved (row rs k) w u)

  step : (w u : Point) → Fits rs w → total u ≡ pos 0 → (k : ℕ) → k < 9 → dot (row rs k) u <ℤ pos 0 → Step w u
  step w u h e k l d =
      let f = first (λ k. dot (row rs k) w) (λ k. dot (row rs k) u) 9 h.rows k l d in
      let r = row rs f.k in
      record {
        k = f.k;
        below = f.below;
        falls = f.falls;
        fits = record { rows = λ j m. subst NN (sym (moved-dot r w u (row rs j))) (f.others j m); some = moved-total r w u e f.falls h.some };
      }

  pub record TwoRows : Type 0 where
    pub i : ℕ
    pub j : ℕ
    pub i< : i < 9
    pub j< : j < 9
    pub fits : Fits rs (cross (row rs j) (row rs i))

  -- away from the first corner and towards the second
  abbrev away : Point
  away = point (negsuc 0) (pos 1) (pos 0)

  pub two-rows : (w : Point) → Fits rs w → TwoRows
  two-rows w h = record { i = p.k; j = q.k; i< = p.below; j< = q.below; fits = record { rows = values; some = some } }
    where
      p : Step w away
      p = step w away h refl 0 (omega arith) (record { lt = tt })

      c : Point
      c = row rs p.k

      w1 : Point
      w1 = moved c w away

      -- along the row c
      u : Point
      u = cross ones c

      down : dot (row rs 2) u <ℤ pos 0
      down =
          let C = vec 0 in
          by-lt (c at []) (dotᴱ (vector (num 0) (num 0) (num 1)) (crossᴱ onesᴱ C)) (num 0) (lt (dotᴱ C (vector (lit (negsuc 0)) (num 1) (num 0))) (num 0) p.falls) tt

      q : Step w1 u
      q = step w1 u p.fits (ring (c at []) (totalᴱ (crossᴱ onesᴱ (vec 0))) (num 0) tt) 2 (omega arith) down

      d : Point
      d = row rs q.k

      on-c : dot c (moved d w1 u) ≡ pos 0
      on-c = moved_on d w1 u c (moved-zero c w away) (ring (c at []) (dotᴱ (vec 0) (crossᴱ onesᴱ (vec 0))) (num 0) tt)

      some : pos 0 <ℤ total (cross d c)
      some = let C = vec 0 in let D = vec 1 in by-lt (c at d at []) (num 0) (totalᴱ (crossᴱ D C)) (lt (dotᴱ D (crossᴱ onesᴱ C)) (num 0) q.falls) tt

      values : (k : ℕ) → k < 9 → NN (dot (row rs k) (cross d c))
      values k m = multiple c d (moved d w1 u) (row rs k) on-c (moved-zero d w1 u) q.fits.some some (q.fits.rows k m)
