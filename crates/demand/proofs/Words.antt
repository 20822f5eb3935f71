-- What the words of demand 3 hold of: its premise and its "point in common" leave nothing out that they are meant for. And "reached first" is said of one cell
-- alone.
--     fill-leaves    every accepted fill leaves a map that meets the premise
--     after-fill     so after an accepted fill demand 3 holds of every route test that is not refused, with no other premise
--     meets-corner   a route whose leg ends on a corner of a triangle has a point in common with the triangles, whichever leg it is
--     meets-by       so has one with a leg that has a point in common with one of them
--     free-none, none_free, free-apart, blocked-shares, blocked-first
--                    what a caller has of a contract that says `DemandOf` or `FirstOf`, in the words of `reach` alone
--     reached-one    a leg reaches one filled cell first: the claim about the cell that is named holds of no other
-- Assumes nothing.
use mathlib.Core.Bool.{Bool}
use mathlib.Core.List.{List, [], ◌∷◌}
use mathlib.Core.Logic.{◌⊎◌, inl, inr}
use mathlib.Core.Path.{◌≡◌, refl}
use Prim.Native.Nat.{ℕ, ◌+◌, ◌<◌}
use native.Mathlib.Decide.{dec_lt}
use native.Mathlib.Omega.{arith}
use lib.IntN.{ℤ}
use Rattle.refusal.specs.Limit.{Answer, gives}
use Rattle.geometry.specs.declared.Point.{Point}
use Rattle.geometry.specs.declared.Triangle.{Triangle}
use Rattle.grid.specs.declared.Grid.{Grid}
use Rattle.grid.specs.Grid.{cell_count, corner_of}
use Rattle.map.specs.Map.{is_filled}
use Rattle.reach.specs.Reaches.{Reaches, LegReaches, CommonPoint}
use Rattle.reach.proofs.Common.{corner-common}
use Rattle.fill.specs.Fill.{grid_of, obstacles, filling, filled_bytes}
use Rattle.demand.specs.Route.{points_of, point_at, leg_count, route_answer}
use Rattle.demand.specs.declared.Finding.{Finding}
use Rattle.demand.specs.declared.Finding.TheVariants.{Free, Blocked}
use Rattle.demand.specs.Demand.{SomeOf, Meets, Demand3, LeftByFill, DemandOf, ReachedFirst, FirstOf}
use Rattle.demand.proofs.Demand.{demand-3}

pub fill-leaves : (s old : List ℕ) (count : ℕ) → filling s old ≡ gives count → LeftByFill s (filled_bytes s old)
fill-leaves s old count e = record { old = old; count = count; accepted = e; bytes = refl }

pub after-fill : (s old : List ℕ) (count : ℕ) (ns : List ℤ) (f : Finding) → filling s old ≡ gives count → route_answer s (filled_bytes s old) ns ≡ gives f
    → Demand3 (grid_of s) (obstacles s) (points_of ns) f
after-fill s old count ns f e r = demand-3 s (filled_bytes s old) ns f r (fill-leaves s old count e)

some_more : {A : Type 0} {P Q : A → Type 0} → ((x : A) → P x → Q x) → (xs : List A) → SomeOf P xs → SomeOf Q xs
some_more f [] h = elim h [ ]
some_more f (x ∷ xs) (inl p) = inl (f x p)
some_more f (x ∷ xs) (inr r) = inr (some_more f xs r)

pub meets-corner : (g : Grid) (ts : List Triangle) (ps : List Point) (m : ℕ) → m < leg_count ps
    → (p : Point) → (p ≡ point_at ps m) ⊎ (p ≡ point_at ps (m + 1)) → SomeOf (λ t. (p ≡ t.v0) ⊎ ((p ≡ t.v1) ⊎ (p ≡ t.v2))) ts → Meets g ts ps
meets-corner g ts ps m l p end corner = record {
  m = m;
  on-route = omega arith;
  common = some_more (λ t. corner-common (point_at ps m) (point_at ps (m + 1)) p t end) ts corner;
}

pub meets-by : (g : Grid) (ts : List Triangle) (ps : List Point) (m : ℕ) → m < leg_count ps
    → SomeOf (λ t. CommonPoint (point_at ps m) (point_at ps (m + 1)) t) ts → Meets g ts ps
meets-by g ts ps m l c = record { m = m; on-route = l; common = c }

-- ---- what a caller has of a contract, spelt out: r is what a route test said, on a map that an accepted fill left
module _ (s old : List ℕ) (count : ℕ) (ns : List ℤ) (r : Answer Finding) (e : filling s old ≡ gives count) (d : DemandOf s (filled_bytes s old) ns r) where
  claim : (f : Finding) → r ≡ gives f → Demand3 (grid_of s) (obstacles s) (points_of ns) f
  claim f is = d f is (fill-leaves s old count e)

  -- Leg m, and some triangle, reach the cell at p.
  abbrev LegAt : (m : ℕ) (p : Point) → Type 0
  LegAt m p = LegReaches (point_at (points_of ns) m) (point_at (points_of ns) (m + 1)) p (grid_of s).edge

  abbrev SteelAt : (p : Point) → Type 0
  SteelAt p = SomeOf (λ t. Reaches t p (grid_of s).edge) (obstacles s)

  pub free-none : r ≡ gives Free → (m n : ℕ) → m < leg_count (points_of ns) → n < cell_count (grid_of s) → LegAt m (corner_of (grid_of s) n) → SteelAt (corner_of (grid_of s) n) → ⊥
  free-none is m n l c leg steel = (claim Free is).exactly.0 refl m n (record { leg-in = l; cell_in = c; leg = leg; triangle = steel })

  -- and back: where no leg and no triangle reach one cell, it is "free"
  pub none_free : (f : Finding) → r ≡ gives f
      → ((m n : ℕ) → m < leg_count (points_of ns) → n < cell_count (grid_of s) → LegAt m (corner_of (grid_of s) n) → SteelAt (corner_of (grid_of s) n) → ⊥) → f ≡ Free
  none_free f is none = (claim f is).exactly.1 (λ m n b. none m n b.leg-in b.cell_in b.leg b.triangle)

  pub free-apart : r ≡ gives Free → (m : ℕ) → m < leg_count (points_of ns)
      → SomeOf (λ t. CommonPoint (point_at (points_of ns) m) (point_at (points_of ns) (m + 1)) t) (obstacles s) → ⊥
  free-apart is m l c = (claim Free is).apart refl (meets-by (grid_of s) (obstacles s) (points_of ns) m l c)

  pub blocked-shares : (m n : ℕ) → r ≡ gives (Blocked m n)
      → (m < leg_count (points_of ns)) × (n < cell_count (grid_of s)) × LegAt m (corner_of (grid_of s) n) × SteelAt (corner_of (grid_of s) n)
  blocked-shares m n is = let b = (claim (Blocked m n) is).named m n refl in (b.leg-in, b.cell_in, b.leg, b.triangle)

pub blocked-first : (s m : List ℕ) (ns : List ℤ) (r : Answer Finding) → FirstOf s m ns r → (i n : ℕ) → r ≡ gives (Blocked i n)
    → ReachedFirst (is_filled m) (grid_of s) (point_at (points_of ns) i) (point_at (points_of ns) (i + 1)) n
blocked-first s m ns r f = f

reached-twice : {filled : ℕ → Bool} {g : Grid} {a b : Point} {n m : ℕ} → ReachedFirst filled g a b n → ReachedFirst filled g a b m → n < m → ⊥
reached-twice {n = n} {m = m} h k l = omega (arith, k.lowest n l h.full h.at, h.least m k.cell_in k.full k.at)

pub reached-one : {filled : ℕ → Bool} {g : Grid} {a b : Point} {n m : ℕ} → ReachedFirst filled g a b n → ReachedFirst filled g a b m → n ≡ m
reached-one {n = n} {m = m} h k = go (dec_lt n m) (dec_lt m n)
  where
    go : Dec (n < m) → Dec (m < n) → n ≡ m
    go (yes l) d = absurd (reached-twice h k l)
    go (no l) (yes u) = absurd (reached-twice k h u)
    go (no l) (no u) = omega arith
