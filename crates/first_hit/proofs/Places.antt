-- The places of a grid's cells, passed by rows and layers.
--     below-count, count-more, count_most   a cell that is looked for is one of the grid's, which has at most 262,144
--     late-row, late-layer   a row, or a layer, that the leg comes to no earlier than it enters the cell kept
--     row-start, pass-cells, meet-cell, row-end   the cells of a row
--     pass-rows     rows of a layer
--     pass-layers   the layers behind the block
--     layer-end     the last row's end is the next layer's first
--     layer-low     a cell's number is not below that of its layer's first
-- Assumes nothing.
use mathlib.Core.Bool.{true, false, and-eq-true_iff}
use mathlib.Core.List.{List}
use mathlib.Core.Path.{◌≡◌, sym, ap, ◌∙◌, subst}
use Prim.Native.Nat.{ℕ, suc, ◌+◌, ◌-◌, ◌*◌, ◌/◌, ◌%◌, ◌<◌, ◌≤◌}
use native.Mathlib.Nat.{mul_comm, mul_assoc, mul-suc, mul-le-mul, mul-le-mul_left, mod-lt, mod-add-div, le-div_iff_mul-le, div-lt_iff_lt-mul}
use native.Mathlib.Omega.{arith}
use Rattle.grid.specs.Cells.{cell_number, x_of_cell, y_of_cell, z_of_cell}
use Rattle.grid.specs.Grid.{cell_count}
use Rattle.grid.proofs.Numbers.{number_lt, number-of, x-of, y_of, z-of}
use Rattle.map.specs.Map.{is_filled}
use Rattle.runs.proofs.Narrow.{range-in}
use Rattle.legs.specs.Slab.{row_holds, cell_holds}
use Rattle.entry.specs.declared.Fraction.{Fraction}
use Rattle.entry.specs.declared.Entries.{Entries}
use Rattle.entry.specs.Entry.{earlier}
use Rattle.entry.specs.Inner.{entry_by, layer_entry, row_entry, entry_at, Positive}
use Rattle.entry.proofs.Fractions.{later-left, at-most-trans, not-before}
use Rattle.entry.proofs.Boxes.{layer-positive, row-positive, at-positive}
use Rattle.touch.specs.Inner.{in_block}
use Rattle.touch.proofs.Scan.{In, parts}
use Rattle.first_hit.specs.declared.Best.{Best}
use Rattle.first_hit.specs.declared.Traversal.{Traversal}
use Rattle.first_hit.specs.Inner.{sought, entered, FirstBelow, FirstBefore, nearer_of}
use Rattle.first_hit.proofs.Passing.{pass, meet}

-- the row of a number
row_from : (nx r m : ℕ) → 0 < nx → nx * r ≤ m → r ≤ m / nx
row_from nx r m h l = (le-div_iff_mul-le h).1 (omega (arith, mul_comm nx r))

row-to : (nx r m : ℕ) → 0 < nx → m < nx * r → m / nx < r
row-to nx r m h l = (div-lt_iff_lt-mul h).1 (omega (arith, mul_comm nx r))

module _ (h : Traversal) where
  abbrev s : List ℕ
  s = h.map.now

  abbrev nx : ℕ
  nx = h.g.nx

  abbrev ny : ℕ
  ny = h.g.ny

  abbrev number : (i j k : ℕ) → ℕ
  number = cell_number nx ny

  abbrev some-x : 0 < nx
  some-x = h.grid.within.x.some

  abbrev some-y : 0 < ny
  some-y = h.grid.within.y.some

  -- a cell that is looked for, by its parts
  pub record Sought (i j k : ℕ) : Type 0 where
    pub x : In h.block.x i
    pub y : In h.block.y j
    pub z : In h.block.z k
    pub row : row_holds h.slabs k j ≡ true
    pub cell : cell_holds h.slabs i j k ≡ true

  pub sought-parts : (n : ℕ) → sought h n ≡ true → (is_filled s n ≡ true) × Sought (x_of_cell nx n) (y_of_cell nx ny n) (z_of_cell nx ny n)
  sought-parts n e =
      let (full, there) = (and-eq-true_iff (is_filled s n) (in_block h.slabs h.block (x_of_cell nx n) (y_of_cell nx ny n) (z_of_cell nx ny n))).0 e in
      let w = parts s h.g h.slabs h.block h.inside _ _ _ there in
      (full, record { x = w.0; y = w.1; z = w.2; row = w.3; cell = w.4 })

  pub below-count : (n : ℕ) → sought h n ≡ true → n < cell_count h.g
  below-count n e =
      let w = (sought-parts n e).1 in
      let b = h.inside in
      subst (λ (m : ℕ). m < cell_count h.g) (number-of nx ny n)
      (number_lt nx ny h.g.nz (x_of_cell nx n) (y_of_cell nx ny n) (z_of_cell nx ny n) (omega (arith, w.x.1, b.x)) (omega (arith, w.y.1, b.y)) (omega (arith, w.z.1, b.z)))

  -- a grid has at most 262,144 cells
  pub count-more : {n : ℕ} → n ≤ cell_count h.g → n ≤ 262144
  count-more l = let g = h.grid.within in omega (arith, l, mul-le-mul (mul-le-mul g.x.most g.y.most) g.z.most)

  pub count_most : {n : ℕ} → n < cell_count h.g → n ≤ 262144
  count_most l = count-more (omega (arith, l))

  -- a row, or a layer, that the leg comes to no earlier than it enters the cell kept: nor does it enter a cell of it earlier
  module _ {c : ℕ} {best : Best} (b : FirstBelow (sought h) (entered h) c best) (i j k : ℕ) where
    abbrev e : Entries
    e = h.entries

    best-positive : Positive best.at
    best-positive = rw b.is (let n = best.cell in at-positive h.bounded (x_of_cell nx n) (y_of_cell nx ny n) (z_of_cell nx ny n))

    pub late-row : earlier (row_entry h.entries j k) best.at ≡ false → earlier (entry_at h.entries i j k) best.at ≡ true → ⊥
    late-row = not-before (row_entry e j k) (entry_at e i j k) best.at (row-positive h.bounded j k) (at-positive h.bounded i j k) best-positive (later-left (row_entry e j k) (entry_by e.x i))

    pub late-layer : earlier (layer_entry h.entries k) best.at ≡ false → earlier (entry_at h.entries i j k) best.at ≡ true → ⊥
    late-layer =
        not-before (layer_entry e k) (entry_at e i j k) best.at (layer-positive h.bounded k) (at-positive h.bounded i j k) best-positive
        (at-most-trans (layer_entry e k) (row_entry e j k) (entry_at e i j k) (layer-positive h.bounded k) (row-positive h.bounded j k) (at-positive h.bounded i j k)
        (later-left (layer_entry e k) (entry_by e.y j)) (later-left (row_entry e j k) (entry_by e.x i)))

  -- ---- a row, whose cells are numbered from `row`
  module _ {row : ℕ} (j k : ℕ) (hj : j < ny) (is : row ≡ cell_number h.g.nx h.g.ny 0 j k) where
    pub row-start : {best : Best} → FirstBefore h j k best → FirstBelow (sought h) (entered h) (row + 0) best
    row-start {best} b = let e : number 0 j k ≡ row + 0 = omega (arith, is) in subst (λ (c : ℕ). FirstBelow (sought h) (entered h) c best) e b

    pub row-end : {best : Best} → FirstBelow (sought h) (entered h) (row + h.g.nx) best → FirstBefore h (j + 1) k best
    row-end {best} b =
        let one : suc (j + ny * k) ≡ j + 1 + ny * k = omega arith in
        let e : row + nx ≡ number 0 (j + 1) k = omega (arith, is, mul-suc nx (j + ny * k), ap (λ (r : ℕ). nx * r) one) in
        subst (λ (c : ℕ). FirstBelow (sought h) (entered h) c best) e b

    pub pass-cells : {best : Best} (i c : ℕ) → i ≤ c → c ≤ h.g.nx
        → ((n : ℕ) → i ≤ n → n < c → is_filled s (row + n) ≡ true → Sought n j k → earlier (entry_at h.entries n j k) best.at ≡ true → ⊥)
        → FirstBelow (sought h) (entered h) (row + i) best → FirstBelow (sought h) (entered h) (row + c) best
    pass-cells i c l u never = pass (omega arith) (λ m v w q e.
        let n = m - row in
        let there : row + n ≡ m = omega arith in
        let at : number n j k ≡ m = omega (arith, is) in
        let hn : n < nx = omega arith in
        let x = sym (ap (x_of_cell nx) at) ∙ x-of nx ny n j k hn in
        let y = sym (ap (y_of_cell nx ny) at) ∙ y_of nx ny n j k hn hj in
        let z = sym (ap (z_of_cell nx ny) at) ∙ z-of nx ny n j k hn hj in
        let (full, looked) = sought-parts m q in
        never n (omega arith) (omega arith) (ap (is_filled s) there ∙ full) (rw (x, y, z) at looked) (rw (x, y, z) at e))

    -- a cell of the row that is looked for
    pub meet-cell : {best : Best} {at : Fraction} (i : ℕ) → i < h.g.nx → is_filled s (row + i) ≡ true → Sought i j k → at ≡ entry_at h.entries i j k
        → FirstBelow (sought h) (entered h) (row + i) best → FirstBelow (sought h) (entered h) (row + (i + 1)) (nearer_of best (row + i) at)
    meet-cell {best} {at} i hi full w e b =
        let there : number i j k ≡ row + i = omega (arith, is) in
        let x = sym (ap (x_of_cell nx) there) ∙ x-of nx ny i j k hi in
        let y = sym (ap (y_of_cell nx ny) there) ∙ y_of nx ny i j k hi hj in
        let z = sym (ap (z_of_cell nx ny) there) ∙ z-of nx ny i j k hi hj in
        let r = h.block in
        let has : sought h (row + i) ≡ true =
        rw (x, y, z, full, range-in r.x i w.x.0 w.x.1, range-in r.y j w.y.0 w.y.1, range-in r.z k w.z.0 w.z.1, w.row, w.cell) in
        let enters : entry_at h.entries i j k ≡ entered h (row + i) = rw (x, y, z) in
        let next : row + i + 1 ≡ row + (i + 1) = omega arith in
        subst (λ (c : ℕ). FirstBelow (sought h) (entered h) c (nearer_of best (row + i) at)) next
        (meet (λ n. at-positive h.bounded (x_of_cell nx n) (y_of_cell nx ny n) (z_of_cell nx ny n)) has (e ∙ enters) b)

  -- ---- a layer
  module _ {best : Best} (k : ℕ) where
    pub pass-rows : (j c : ℕ) → j ≤ c → c ≤ ny
        → ((i n : ℕ) → j ≤ n → n < c → Sought i n k → earlier (entry_at h.entries i n k) best.at ≡ true → ⊥) → FirstBefore h j k best → FirstBefore h c k best
    pass-rows j c l u never = pass (omega (arith, mul-le-mul_left nx more)) (λ m v w q e.
        let i = m % nx in
        let r = m / nx in
        let from = row_from nx (j + ny * k) m some-x (omega arith) in
        let to = row-to nx (c + ny * k) m some-x (omega arith) in
        let n = r - ny * k in
        let row : n + ny * k ≡ r = omega arith in
        let at : number i n k ≡ m = ap (λ (r : ℕ). i + nx * r) row ∙ mod-add-div m nx in
        let hn : n < ny = omega arith in
        let y = sym (ap (y_of_cell nx ny) at) ∙ y_of nx ny i n k (mod-lt m some-x) hn in
        let z = sym (ap (z_of_cell nx ny) at) ∙ z-of nx ny i n k (mod-lt m some-x) hn in
        never i n (omega arith) (omega arith) (rw (y, z) at (sought-parts m q).1) (rw (y, z) at e))
      where
        more : j + ny * k ≤ c + ny * k
        more = omega arith

  pub layer-end : (k : ℕ) → number 0 ny k ≡ number 0 0 (k + 1)
  layer-end k = ap (λ (r : ℕ). 0 + nx * r) (omega (arith, mul-suc ny k))

  -- ---- the grid
  -- the first number of layer k
  pub layer-low : (n : ℕ) → number 0 0 (z_of_cell nx ny n) ≤ n
  layer-low n =
      let k = z_of_cell nx ny n in
      let j = y_of_cell nx ny n in
      let more : 0 + ny * k ≤ j + ny * k = omega arith in
      omega (arith, number-of nx ny n, mul-le-mul_left nx more)

  pub pass-layers : {best : Best} (k : ℕ) → h.block.z.end ≤ k → k ≤ h.g.nz → FirstBefore h 0 k best → FirstBelow (sought h) (entered h) (cell_count h.g) best
  pass-layers k far l = pass (omega (arith, layer, mul-le-mul_left (nx * ny) l)) (λ m v w q e.
      let up = row_from ny k (m / nx) some-y (row_from nx (ny * k) m some-x (omega (arith, layer, mul_assoc nx ny k))) in
      omega (arith, (sought-parts m q).1.z.1))
    where
      layer : number 0 0 k ≡ nx * ny * k
      layer = let e : number 0 0 k ≡ nx * (ny * k) = omega (arith, ap (λ (r : ℕ). nx * r) (plain (ny * k))) in e ∙ sym (mul_assoc nx ny k)
        where
          plain : (n : ℕ) → 0 + n ≡ n
          plain n = omega arith
