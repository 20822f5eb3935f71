-- Demand 3, one claim over every file, map and route: what the answer of a route test says about legs and triangles. And beside it what it says about the cell
-- that is named. Definitions only.
use Rattle.std.specs.Prelude.{Bool, true, List, [], ◌∷◌, ◌↔◌, ◌⊎◌, ◌≡◌, ℕ, ◌+◌, ◌*◌, ◌<◌, ◌≤◌, ℤ}
use Rattle.refusal.specs.Limit.{Answer, gives}
use Rattle.geometry.specs.declared.Point.{Point}
use Rattle.geometry.specs.declared.Triangle.{Triangle}
use Rattle.grid.specs.declared.Grid.{Grid}
use Rattle.grid.specs.Grid.{cell_count, corner_of}
use Rattle.map.specs.Map.{is_filled}
use Rattle.reach.specs.Reaches.{Reaches, LegReaches, CommonPoint}
use Rattle.fill.specs.Fill.{grid_of, obstacles, filling, filled_bytes}
use Rattle.demand.specs.Route.{points_of, point_at, leg_count}
use Rattle.demand.specs.declared.Finding.{Finding}
use Rattle.demand.specs.declared.Finding.TheVariants.{Free, Blocked}

-- Some item of the list has the property.
abbrev pub SomeOf : {A : Type 0} → (A → Type 0) → List A → Type 0
SomeOf P [] = ⊥
SomeOf P (x ∷ xs) = P x ⊎ SomeOf P xs

-- The finding is "blocked", with some leg and some cell.
pub record IsBlocked (r : Finding) : Type 0 where
  pub leg : ℕ
  pub cell : ℕ
  pub is : r ≡ Blocked leg cell

-- ---- a grid, its triangles and the points of a route
module _ (g : Grid) (ts : List Triangle) (ps : List Point) where
  -- Leg m and some triangle both reach cell n, where m is a leg of the route and n a cell of the grid.
  pub record BothReach (m n : ℕ) : Type 0 where
    pub leg-in : m < leg_count ps
    pub cell_in : n < cell_count g
    pub leg : LegReaches (point_at ps m) (point_at ps (m + 1)) (corner_of g n) g.edge
    pub triangle : SomeOf (λ t. Reaches t (corner_of g n) g.edge) ts

  -- A route has a point in common with a triangle when one of its legs has.
  pub record Meets : Type 0 where
    pub m : ℕ
    pub on-route : m < leg_count ps
    pub common : SomeOf (λ t. CommonPoint (point_at ps m) (point_at ps (m + 1)) t) ts

  -- The claim, of a finding r:
  --   (a) it is "free" exactly when no cell is reached both by a leg and by a triangle;
  --   (b) where it is "free", the route has no point in common with a triangle;
  --   (c) otherwise it is "blocked", with some leg and some cell;
  --   (d) the leg named and some triangle both reach the cell named.
  pub record Demand3 (r : Finding) : Type 0 where
    pub exactly : (r ≡ Free) ↔ ((m n : ℕ) → BothReach m n → ⊥)
    pub apart : r ≡ Free → Meets → ⊥
    pub otherwise : (r ≡ Free) ⊎ IsBlocked r
    pub named : (m n : ℕ) → r ≡ Blocked m n → BothReach m n

-- ---- a file, a map and the numbers of a route
-- The premise: the map's bytes are those that an accepted fill with this file leaves there, whatever bytes it found.
pub record LeftByFill (s m : List ℕ) : Type 0 where
  pub old : List ℕ
  pub count : ℕ
  pub accepted : filling s old ≡ gives count
  pub bytes : m ≡ filled_bytes s old

-- The claim, of what a route test says: where it is not refused, demand 3 holds of its finding on the file's grid, its
-- triangles and the route's points.
abbrev pub DemandOf : (file map : List ℕ) (numbers : List ℤ) → Answer Finding → Type 0
DemandOf s m ns r =
    (f : Finding) → r ≡ gives f → LeftByFill s m → Demand3 (grid_of s) (obstacles s) (points_of ns) f

-- ---- the cell that is named
-- Of the filled cells, cell n is the one that the leg from a to b reaches first. The weights w0 and w1 give the point at w1 / (w0 + w1) of the leg. `at` is a
-- point of the leg in cell n. No point of the leg in a filled cell lies earlier; and in a filled cell with a lower number, all lie later. So no filled cell is
-- reached earlier, and of the cells reached at once the one with the lowest number is named.
pub record ReachedFirst (filled : ℕ → Bool) (g : Grid) (a b : Point) (n : ℕ) : Type 0 where
  pub cell_in : n < cell_count g
  pub full : filled n ≡ true
  pub at : LegReaches a b (corner_of g n) g.edge
  pub least : (m : ℕ) → m < cell_count g → filled m ≡ true → (r : LegReaches a b (corner_of g m) g.edge)
      → at.w1 * (r.w0 + r.w1) ≤ r.w1 * (at.w0 + at.w1)
  pub lowest : (m : ℕ) → m < n → filled m ≡ true → (r : LegReaches a b (corner_of g m) g.edge)
      → at.w1 * (r.w0 + r.w1) < r.w1 * (at.w0 + at.w1)

-- The claim, of what a route test says: where it is "blocked", by leg i at cell n, that leg reaches cell n first, of the cells that are filled in the map. The
-- map may hold any bytes, whatever left them there.
abbrev pub FirstOf : (file map : List ℕ) (numbers : List ℤ) → Answer Finding → Type 0
FirstOf s m ns r =
    (i n : ℕ) → r ≡ gives (Blocked i n) → ReachedFirst (is_filled m) (grid_of s) (point_at (points_of ns) i) (point_at (points_of ns) (i + 1)) n
