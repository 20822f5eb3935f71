-- The search of a block by layers, rows and cells.
--     Layers, Rows, Cells    no cell that is looked for is before layer k; before row j of layer k; before cell i of row j
--     row_in, no_row         a row that is left lies in the slab in YZ; a row that is not has no cell that is looked for
--     found_none, found_at   so the search finds the lowest cell filled and touched
-- Assumes nothing.
use mathlib.Core.Bool.{Bool, true, false, ◌&&◌, and-eq-true_iff}
use mathlib.Core.List.{List}
use mathlib.Core.Logic.{◌⊎◌, inl, inr, ⊎_elim}
use mathlib.Core.Path.{◌≡◌, sym, ap, ◌∙◌}
use Rattle.std.specs.Prelude.{Some, None}
use Prim.Native.Nat.{ℕ, suc, ◌+◌, ◌*◌, ◌<◌, ◌≤◌}
use native.Mathlib.Decide.{dec_lt}
use native.Mathlib.Nat.{mul-le-mul_left, mul-suc}
use native.Mathlib.Omega.{arith}
use Rattle.integers.proofs.Truth.{none}
use Rattle.grid.specs.declared.Grid.{Grid}
use Rattle.grid.specs.declared.BoxRange.{BoxRange}
use Rattle.grid.specs.declared.CellRange.{CellRange}
use Rattle.grid.specs.Grid.{cell_count}
use Rattle.grid.specs.Range.{in_range}
use Rattle.grid.specs.Cells.{cell_number, x_of_cell, y_of_cell, z_of_cell}
use Rattle.grid.proofs.Numbers.{number_lt, number-of, x-of, y_of, z-of}
use Rattle.map.specs.Map.{is_filled}
use Rattle.runs.specs.Run.{Narrows}
use Rattle.runs.proofs.Narrow.{in-range, range-in}
use Rattle.legs.specs.declared.Slabs.{Slabs}
use Rattle.legs.specs.Slab.{row_holds, cell_holds}
use Rattle.touch.specs.Inner.{in_block, wanted, Lowest, InGrid}

-- ---- ranges
abbrev pub In : CellRange → ℕ → Type 0
In r i = (r.first ≤ i) × (i < r.end)

-- a decided question, by cases
pub either : {P A : Type 0} → Dec P → (P → A) → ((P → ⊥) → A) → A
either (yes p) f g = f p
either (no p) f g = g p

-- numbers of two digits are ordered as their high digits, and then as their low ones
digits : (a x q i r : ℕ) → i < a → x + a * q ≤ i + a * r → (q < r) ⊎ ((q ≡ r) × (x ≤ i))
digits a x q i r hi h = go (dec_lt q r) (dec_lt r q)
  where
    go : Dec (q < r) → Dec (r < q) → (q < r) ⊎ ((q ≡ r) × (x ≤ i))
    go (yes l) g = inl l
    go (no l) (yes g) = absurd (omega (arith, mul-le-mul_left a g, mul-suc a r))
    go (no l) (no g) =
        let e : q ≡ r = omega arith in
        inr (e, omega (arith, ap (λ (t : ℕ). a * t) e))

-- a row that is left is one of the rows, with the property
pub row_in : {y r : CellRange} {p : ℕ → Bool} → Narrows y p r → (j : ℕ) → In r j → In y j × (p j ≡ true)
row_in {y} {r} {p} n j h =
    let (range, test) = (and-eq-true_iff (in_range y j) (p j)).0 (sym (n.exact j) ∙ range-in r j h.0 h.1) in
    (in-range y j range, test)

module _ (s : List ℕ) (nx ny : ℕ) (f : Slabs) (x y z : CellRange) where
  -- Cell (i, j, k) of the block is none that is looked for.
  abbrev pub No : (i j k : ℕ) → Type 0
  No i j k = In x i → In y j → In z k → is_filled s (cell_number nx ny i j k) ≡ true → row_holds f k j ≡ true → cell_holds f i j k ≡ true → ⊥

  abbrev pub Layers : ℕ → Type 0
  Layers k = (c : ℕ) → c < k → (a b : ℕ) → No a b c

  abbrev pub Rows : (k j : ℕ) → Type 0
  Rows k j = (b : ℕ) → b < j → (a : ℕ) → No a b k

  abbrev pub Cells : (k j i : ℕ) → Type 0
  Cells k j i = (a : ℕ) → a < i → No a j k

  -- a row that is not left has no cell that is looked for
  pub no_row : {k : ℕ} {r : CellRange} → Narrows y (row_holds f k) r → (j : ℕ) → (In r j → ⊥) → (a : ℕ) → No a j k
  no_row {k} {r} n j out a ha hj hk filled row cell =
      out (in-range r j (n.exact j ∙ (and-eq-true_iff (in_range y j) (row_holds f k j)).1 (range-in y j hj.0 hj.1, row)))

-- ---- the grid's cells
module _ (s : List ℕ) (g : Grid) (f : Slabs) (b : BoxRange) (in-grid : InGrid g b) where
  abbrev test : ℕ → Bool
  test = wanted (is_filled s) g f b

  -- of the cells looked for
  abbrev NoneAt : (i j k : ℕ) → Type 0
  NoneAt = No s g.nx g.ny f b.x b.y b.z

  -- a cell of the block and of the slabs, by its parts
  pub parts : (i j k : ℕ) → in_block f b i j k ≡ true → In b.x i × In b.y j × In b.z k × (row_holds f k j ≡ true) × (cell_holds f i j k ≡ true)
  parts i j k e =
      let (rows, cell) = (and-eq-true_iff (in_range b.x i && in_range b.y j && in_range b.z k && row_holds f k j) (cell_holds f i j k)).0 e in
      let (box, row) = (and-eq-true_iff (in_range b.x i && in_range b.y j && in_range b.z k) (row_holds f k j)).0 rows in
      let (xy, ez) = (and-eq-true_iff (in_range b.x i && in_range b.y j) (in_range b.z k)).0 box in
      let (ex, ey) = (and-eq-true_iff (in_range b.x i) (in_range b.y j)).0 xy in
      (in-range b.x i ex, in-range b.y j ey, in-range b.z k ez, row, cell)

  no_cell : (n : ℕ) → NoneAt (x_of_cell g.nx n) (y_of_cell g.nx g.ny n) (z_of_cell g.nx g.ny n) → test n ≡ false
  no_cell n h =
      none (is_filled s n) (in_block f b (x_of_cell g.nx n) (y_of_cell g.nx g.ny n) (z_of_cell g.nx g.ny n))
      (λ e t. let w = parts _ _ _ t in h w.0 w.1 w.2 (ap (is_filled s) (number-of g.nx g.ny n) ∙ e) w.3 w.4)

  pub found_none : (k : ℕ) → b.z.end ≤ k → Layers s g.nx g.ny f b.x b.y b.z k → Lowest test (cell_count g) None
  found_none k far layers n l = no_cell n (λ hx hy hz. layers (z_of_cell g.nx g.ny n) (omega arith) (x_of_cell g.nx n) (y_of_cell g.nx g.ny n) hx hy hz)

  pub found_at : (i j k : ℕ) → In b.x i → In b.y j → In b.z k → is_filled s (cell_number g.nx g.ny i j k) ≡ true
      → row_holds f k j ≡ true → cell_holds f i j k ≡ true → Layers s g.nx g.ny f b.x b.y b.z k → Rows s g.nx g.ny f b.x b.y b.z k j
      → Cells s g.nx g.ny f b.x b.y b.z k j i → Lowest test (cell_count g) (Some (cell_number g.nx g.ny i j k))
  found_at i j k hx hy hz filled row cell layers rows cells = (
    number_lt g.nx g.ny g.nz i j k li lj lk,
    rw (x-of g.nx g.ny i j k li, y_of g.nx g.ny i j k li lj, z-of g.nx g.ny i j k li lj, filled, range-in b.x i hx.0 hx.1, range-in b.y j hy.0 hy.1, range-in b.z k hz.0 hz.1, row, cell),
    λ n l. no_cell n (before (x_of_cell g.nx n) (y_of_cell g.nx g.ny n) (z_of_cell g.nx g.ny n) (omega (arith, number-of g.nx g.ny n))),
  )
    where
      li : i < g.nx
      li = omega (arith, in-grid.x)

      lj : j < g.ny
      lj = omega (arith, in-grid.y)

      lk : k < g.nz
      lk = omega (arith, in-grid.z)

      -- a cell of a lower number is in a layer before k, in a row before j of layer k, or before cell i of row j
      before : (a d c : ℕ) → suc a + g.nx * (d + g.ny * c) ≤ i + g.nx * (j + g.ny * k) → NoneAt a d c
      before a d c l =
          ⊎_elim
          (λ q. ⊎_elim (λ u. layers c u a d) (λ u. rw u.0 (rows d u.1 a)) (digits g.ny (suc d) c j k lj (omega arith)))
          (λ q.
          ⊎_elim (λ u. layers c u a d)
          (λ u.
          let e : d ≡ j = omega (arith, ap (λ (t : ℕ). g.ny * t) u.0) in
          rw (u.0, e) (cells a q.1))
          (digits g.ny d c j k lj (omega arith)))
          (digits g.nx (suc a) (d + g.ny * c) i (j + g.ny * k) li l)
