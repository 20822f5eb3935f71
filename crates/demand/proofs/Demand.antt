-- Demand 3: what the answer of a route test says about legs and triangles. And what it says about the leg and the cell that are named.
--     blocked-in    a finding of "blocked" names a leg of the route and a filled cell of the grid that the leg touches
--     leg-first     no leg before the one named touches a filled cell
--     demand-grid   over a grid, its triangles and the points of a route, for a map that holds the rule's cells
--     demand-3      over a file, a map that an accepted fill with it left, and the numbers of a route
--     first_of      over a file, any map and the numbers of a route: the cell named is the filled one that the leg named reaches first
--     demand-of     the answer and the two claims, as contracts state them
-- Assumes nothing.
use mathlib.Core.Bool.{Bool, true, false, ◌||◌, and-eq-true_iff}
use mathlib.Core.List.{List, [], ◌∷◌}
use mathlib.Core.Logic.{◌⊎◌, inl, inr}
use mathlib.Core.Path.{◌≡◌, refl, sym, ap, ◌∙◌, subst}
use Rattle.std.specs.Prelude.{Option}
use Prim.Native.Nat.{ℕ, ◌+◌, ◌<◌}
use native.Mathlib.Omega.{arith}
use lib.IntN.{ℤ}
use lib.ListN.{length}
use Rattle.integers.proofs.Laws.{<→≤}
use Rattle.integers.proofs.Truth.{apart}
use Rattle.geometry.specs.declared.Point.{Point}
use Rattle.geometry.specs.declared.Triangle.{Triangle}
use Rattle.geometry.specs.Geometry.{leg}
use Rattle.refusal.specs.Limit.{Answer}
use Rattle.grid.specs.declared.Grid.{Grid}
use Rattle.grid.specs.Cells.{cell_number}
use Rattle.grid.specs.Grid.{cell_count, lattice_of, cell_corner, corner_of}
use Rattle.grid.proofs.Numbers.{number_lt, x-of, y_of, z-of}
use Rattle.map.specs.Map.{is_filled}
use Rattle.overlap.specs.Cells.{overlaps_cell}
use Rattle.reach.specs.Reaches.{Reaches, LegReaches, CommonPoint}
use Rattle.reach.specs.Inner.{InsideGrid}
use Rattle.reach.proofs.Grid.{Proper, common-cell}
use Rattle.frame.specs.File.{header_of}
use Rattle.frame.proofs.Accepted.{accepted}
use Rattle.fill.specs.Fill.{grid_of, obstacles, any_of, filled_by, filled_in}
use Rattle.fill.proofs.Words.{rule-filled}
use Rattle.first_hit.specs.FirstHit.{filled_and_touched, first_hit}
use Rattle.demand.specs.Route.{points_of, point_at, leg_count, tested, route_answer}
use Rattle.demand.specs.declared.Finding.{Finding}
use Rattle.demand.specs.declared.Finding.TheVariants.{Free, Blocked}
use Rattle.demand.specs.Demand.{SomeOf, IsBlocked, BothReach, Demand3, LeftByFill, DemandOf, FirstOf}
use Rattle.demand.proofs.Answers.{last-passed, answer-given}
use Rattle.demand.proofs.First.{legs-free, free-legs, blocked-leg}
use Rattle.demand.proofs.Points.{points-length, inside-grid}
use Rattle.demand.proofs.Reached.{reaches, reached, leg-reaches, leg-reached, hit-has, none-hit, hit-none, reached-first}

-- ---- tests of a list as statements
module _ {A : Type 0} (p : A → Bool) (P : A → Type 0) where
  any_some : ((x : A) → p x ≡ true → P x) → (xs : List A) → any_of p xs ≡ true → SomeOf P xs
  unfolding any_of
  any_some f [] e = absurd (apart e refl)
  any_some f (x ∷ xs) e = go (p x) refl e (any_some f xs)
    where
      go : (b : Bool) → p x ≡ b → (b || any_of p xs) ≡ true → (any_of p xs ≡ true → SomeOf P xs) → SomeOf P (x ∷ xs)
      go true q h again = inl (f x q)
      go false q h again = inr (again h)

  some-any : ((x : A) → P x → p x ≡ true) → (xs : List A) → SomeOf P xs → any_of p xs ≡ true
  unfolding any_of
  some-any f [] h = elim h [ ]
  some-any f (x ∷ xs) (inl h) = rw (f x h)
  some-any f (x ∷ xs) (inr h) = rw (some-any f xs h) (or-true (p x))
    where
      or-true : (b : Bool) → (b || true) ≡ true
      or-true true = refl
      or-true false = refl

-- Cell n is filled, and leg m touches it; the cell that is found on leg m.
abbrev pub hit : (filled : ℕ → Bool) → Grid → List Point → (m n : ℕ) → Bool
hit filled g ps m n = filled_and_touched filled g (point_at ps m) (point_at ps (m + 1)) n

abbrev on_leg : (filled : ℕ → Bool) → Grid → List Point → ℕ → Option ℕ
on_leg filled g ps m = first_hit filled g (point_at ps m) (point_at ps (m + 1))

-- The leg and the cell that a finding names, and the legs before that one.
module _ (filled : ℕ → Bool) (g : Grid) (ps : List Point) (m n : ℕ) (e : tested filled g ps ≡ Blocked m n) where
  pub blocked-in : (m < leg_count ps) × (n < cell_count g) × (hit filled g ps m n ≡ true)
  unfolding tested
  blocked-in =
      let (lm, found, before) = blocked-leg (on_leg filled g ps) (leg_count ps) m n e in
      let (ln, full) = hit-has filled g (point_at ps m) (point_at ps (m + 1)) n found in
      (lm, ln, full)

  pub leg-first : (i k : ℕ) → i < m → k < cell_count g → hit filled g ps i k ≡ false
  unfolding tested
  leg-first i k li lk = none-hit filled g (point_at ps i) (point_at ps (i + 1)) ((blocked-leg (on_leg filled g ps) (leg_count ps) m n e).2 i li) k lk

-- (c)
free-or-blocked : (r : Finding) → (r ≡ Free) ⊎ IsBlocked r
free-or-blocked Free = inl refl
free-or-blocked (Blocked m n) = inr (record { leg = m; cell = n; is = refl })

-- ---- a grid, its triangles and the points of a route
module _ (g : Grid) (ts : List Triangle) (ps : List Point) (filled : ℕ → Bool) (proper : Proper g)
    (points : (m : ℕ) → m < length ps → InsideGrid g (point_at ps m))
    (map : (n : ℕ) → n < cell_count g → filled n ≡ filled_by g (lattice_of g) ts n) where
  -- a cell is filled and touched by a leg exactly when the leg and some triangle both reach it
  both-reach : (m n : ℕ) → m < leg_count ps → n < cell_count g → hit filled g ps m n ≡ true → BothReach g ts ps m n
  both-reach m n lm ln e =
      let (full, touched) = (and-eq-true_iff (filled n) (overlaps_cell g (lattice_of g) (leg (point_at ps m) (point_at ps (m + 1))) n)).0 e in
      record {
        leg-in = lm;
        cell_in = ln;
        leg = leg-reaches (corner_of g n) g.edge proper.edge (point_at ps m) (point_at ps (m + 1)) touched;
        triangle = any_some (λ t. overlaps_cell g (lattice_of g) t n) (λ t. Reaches t (corner_of g n) g.edge) (reaches (corner_of g n) g.edge proper.edge) ts (sym (map n ln) ∙ full);
      }

  both-reached : {m n : ℕ} → BothReach g ts ps m n → hit filled g ps m n ≡ true
  both-reached {m} {n} b =
      (and-eq-true_iff (filled n) (overlaps_cell g (lattice_of g) (leg (point_at ps m) (point_at ps (m + 1))) n)).1 (
        map n b.cell_in ∙ some-any (λ t. overlaps_cell g (lattice_of g) t n) (λ t. Reaches t (corner_of g n) g.edge) (reached (corner_of g n) g.edge proper.edge) ts b.triangle,
        leg-reached (corner_of g n) g.edge proper.edge (point_at ps m) (point_at ps (m + 1)) b.leg,
      )

  -- (a)
  free-none : tested filled g ps ≡ Free → (m n : ℕ) → BothReach g ts ps m n → ⊥
  unfolding tested
  free-none e m n b =
      apart (both-reached b)
      (none-hit filled g (point_at ps m) (point_at ps (m + 1)) (free-legs (on_leg filled g ps) (leg_count ps) e m b.leg-in) n b.cell_in)

  none_free : ((m n : ℕ) → BothReach g ts ps m n → ⊥) → tested filled g ps ≡ Free
  unfolding tested
  none_free never =
      legs-free (on_leg filled g ps) (leg_count ps)
      (λ m lm. hit-none filled g (point_at ps m) (point_at ps (m + 1)) (λ n ln. go m n lm ln (hit filled g ps m n) refl))
    where
      go : (m n : ℕ) → m < leg_count ps → n < cell_count g → (b : Bool) → hit filled g ps m n ≡ b → b ≡ false
      go m n lm ln true e = absurd (never m n (both-reach m n lm ln e))
      go m n lm ln false e = refl

  -- (b): a point in common lies in a cell that both reach
  common-reach : {m : ℕ} → m < leg_count ps → ((n : ℕ) → BothReach g ts ps m n → ⊥) → (us : List Triangle)
      → ((n : ℕ) → SomeOf (λ t. Reaches t (corner_of g n) g.edge) us → SomeOf (λ t. Reaches t (corner_of g n) g.edge) ts)
      → SomeOf (λ t. CommonPoint (point_at ps m) (point_at ps (m + 1)) t) us → ⊥
  common-reach {m = m} lm never [] among h = elim h [ ]
  common-reach {m} lm never (u ∷ us) among (inl p) =
      let c = common-cell g (point_at ps m) (point_at ps (m + 1)) u proper (points m (omega arith)) (points (m + 1) (omega arith)) p in
      let n = cell_number g.nx g.ny c.i c.j c.k in
      let at : corner_of g n ≡ cell_corner g c.i c.j c.k =
      λ d. cell_corner g (x-of g.nx g.ny c.i c.j c.k c.i-in d) (y_of g.nx g.ny c.i c.j c.k c.i-in c.j-in d) (z-of g.nx g.ny c.i c.j c.k c.i-in c.j-in d) in
      never n (record {
        leg-in = lm;
        cell_in = number_lt g.nx g.ny g.nz c.i c.j c.k c.i-in c.j-in c.k-in;
        leg = subst (λ (q : Point). LegReaches (point_at ps m) (point_at ps (m + 1)) q g.edge) (sym at) c.holds.0;
        triangle = among n (inl (subst (λ (q : Point). Reaches u q g.edge) (sym at) c.holds.1));
      })
  common-reach lm never (u ∷ us) among (inr rest) = common-reach lm never us (λ n r. among n (inr r)) rest

  -- (d)
  blocked-both : (m n : ℕ) → tested filled g ps ≡ Blocked m n → BothReach g ts ps m n
  blocked-both m n e = let (lm, ln, full) = blocked-in filled g ps m n e in both-reach m n lm ln full

  pub demand-grid : Demand3 g ts ps (tested filled g ps)
  demand-grid = record {
    exactly = (free-none, none_free);
    apart = λ e p. common-reach {m = p.m} (omega (arith, p.on-route)) (free-none e p.m) ts (λ n r. r) p.common;
    otherwise = free-or-blocked (tested filled g ps);
    named = blocked-both;
  }

-- ---- a file, a map and the numbers of a route
module _ (s m : List ℕ) where
  -- a map that an accepted fill left holds the rule's cells
  filled-rule : LeftByFill s m → (n : ℕ) → n < cell_count (grid_of s) → is_filled m n ≡ filled_in s n
  filled-rule left n l = ap (λ (x : List ℕ). is_filled x n) left.bytes ∙ rule-filled s left.old left.count left.accepted n l

  module _ (ns : List ℤ) where
    pub demand-3 : DemandOf s m ns (route_answer s m ns)
    demand-3 f given left =
        let p = answer-given s m ns given in
        let a = accepted s (header_of s) p.file in
        let g = a.grid.within in
        let route = (last-passed (grid_of s) (length m) ns p.last).1 in
        let proper : Proper (grid_of s) = record { x = g.x.some; y = g.y.some; z = g.z.some; edge = <→≤ a.grid.positive } in
        rw (← p.answer)
        (demand-grid (grid_of s) (obstacles s) (points_of ns) (is_filled m) proper
        (λ i l. inside-grid (route.inside i (omega (arith, points-length ns)))) (filled-rule left))

    pub first_of : FirstOf s m ns (route_answer s m ns)
    first_of i n given =
        let p = answer-given s m ns given in
        reached-first (is_filled m) (grid_of s) (points_of ns) (<→≤ (accepted s (header_of s) p.file).grid.positive) i n p.answer

    -- an answer that is the definition's, with what demand 3 says of it, and with what is said of the cell named
    pub demand-of : {r : Answer Finding} → r ≡ route_answer s m ns → (r ≡ route_answer s m ns) × DemandOf s m ns r × FirstOf s m ns r
    demand-of e = (e, subst (DemandOf s m ns) (sym e) demand-3, subst (FirstOf s m ns) (sym e) first_of)
