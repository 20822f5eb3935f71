-- The cells of one column, of a row, of a rectangle.
--     next-value, value-within           an edge's value of the next column, and its bound
--     cell-fails, ruled_out, let-in      a column that an edge rules out, and one that none rules out
--     still-ready                        what a fill asks, after columns were drawn
--     no-columns, more-columns           columns drawn one after the other
--     row_more, rectangle-more           a row grows by a column, and a rectangle by a row
-- Assumes nothing.
use mathlib.Core.Bool.{Bool, true, false, ◌&&◌, ◌||◌, or-true, and-or_distrib_left, and-or_distrib_right}
use mathlib.Core.List.{List, [], ◌∷◌}
use mathlib.Core.Path.{◌≡◌, refl, sym, ap, ◌∙◌}
use Prim.Native.Nat.{ℕ, ◌+◌, ◌≤◌, ◌<◌}
use native.Mathlib.Decide.{dec_lt}
use native.Mathlib.Omega.{arith}
use borrow.Author.Tests.{eqb-true, eq-eqb}
use lib.Dec.{eqb, lit≤}
use lib.IntN.{ℤ, pos, ◌+ℤ◌}
use Rattle.integers.specs.Within.{Within}
use Rattle.integers.proofs.Expr.{var, num, ◌⊕◌, ◌⊗◌}
use Rattle.integers.proofs.Ring.{ring}
use Rattle.integers.proofs.Bounds.{within-add, within-mul, within-weaken}
use Rattle.grid.specs.declared.CellRange.{CellRange}
use Rattle.grid.specs.Range.{in_range}
use Rattle.forms.specs.declared.bounded.Forms.{Forms}
use Rattle.forms.specs.Form.{value_max, BoundedForm}
use Rattle.forms.specs.Forms.{edge_at}
use Rattle.column_rule.specs.Column.{uv_of}
use Rattle.columns.specs.declared.ready.Columns.{Columns}
use Rattle.columns.specs.Draw.{one_column, row_of, rectangle, range}
use Rattle.columns.specs.Column.{value_at, column_passes, cell_passes, run_cells, ColumnsReady, DrawsColumns}
use Rattle.columns.proofs.Drawing.{of-column, draws-nothing, draws-then, drawn-or}
use Rattle.integers.proofs.Truth.{same_truth}
use Rattle.runs.proofs.Narrow.{in-range, range-in}

-- ---- an edge's value of a column, and of the next on u
pub next-value : (l : Forms) (m a : ℕ) (v : ℤ) → uv_of (edge_at l m) (pos a) v +ℤ (edge_at l m).uv.a ≡ uv_of (edge_at l m) (pos (a + 1)) v
next-value l m a v =
    let f = (edge_at l m).uv in
    ring (f.a ∷ f.b ∷ f.c ∷ pos a ∷ v ∷ []) (var 0 ⊗ var 3 ⊕ var 1 ⊗ var 4 ⊕ var 2 ⊕ var 0) (var 0 ⊗ (var 3 ⊕ num 1) ⊕ var 1 ⊗ var 4 ⊕ var 2) tt

pub value-within : (l : Forms) (m i j : ℕ) → BoundedForm (edge_at l m).uv → i ≤ 64 → j ≤ 64 → Within value_max (value_at l m i j)
value-within l m i j b hi hj =
    within-weaken (lit≤ tt) (within-add (within-add (within-mul b.a (record { within = hi })) (within-mul b.b (record { within = hj }))) b.c)

-- ---- a column that an edge rules out, and one that none rules out
module _ (l : Forms) (w : CellRange) (i j : ℕ) where
  abbrev cells : ℕ → ℕ → ℕ → Bool
  cells = run_cells l w (pos i) (pos j) (value_at l 0 i j) (value_at l 1 i j) (value_at l 2 i j)

  -- of the column's own cells
  cell-is : (c : Bool) → column_passes l i j ≡ c → (k : ℕ) → cell_passes l w i j k ≡ (c && cells i j k)
  unfolding cell_passes
  cell-is c e k = ap (λ (x : Bool). x && cells i j k) e

  pub cell-fails : column_passes l i j ≡ false → (k : ℕ) → cell_passes l w i j k ≡ false
  cell-fails e k = cell-is false e k

  -- of the cells in one column
  at : (a b k : ℕ) → one_column i j a b ≡ true → cell_passes l w a b k ≡ cell_passes l w i j k
  at a b k o = let (p, q) = of-column i j a b o in λ d. cell_passes l w (p d) (q d) k

  pub ruled_out : column_passes l i j ≡ false → (a b k : ℕ) → one_column i j a b ≡ true → cell_passes l w a b k ≡ false
  ruled_out e a b k o = at a b k o ∙ cell-fails e k

  pub let-in : column_passes l i j ≡ true → (a b k : ℕ) → one_column i j a b ≡ true → cells a b k ≡ cell_passes l w a b k
  let-in e a b k o = sym (at a b k o ∙ cell-is true e k)

-- ---- ranges that grow
pub no-range : (k x : ℕ) → in_range (range k k) x ≡ true → ⊥
no-range k x e = let (l, h) = in-range (range k k) x e in omega arith

pub range-more : {first k : ℕ} → first ≤ k → (x : ℕ) → (in_range (range first k) x || eqb x k) ≡ in_range (range first (k + 1)) x
range-more {first} {k} o x = same_truth (in_range (range first k) x || eqb x k) (in_range (range first (k + 1)) x) (to (in_range (range first k) x) refl) back
  where
    to : (b : Bool) → in_range (range first k) x ≡ b → (in_range (range first k) x || eqb x k) ≡ true → in_range (range first (k + 1)) x ≡ true
    to true e h = let (l, u) = in-range (range first k) x e in range-in (range first (k + 1)) x l (omega arith)
    to false e h = let q = eqb-true x k (ap (λ (b : Bool). b || eqb x k) (sym e) ∙ h) in range-in (range first (k + 1)) x (omega arith) (omega arith)

    back : in_range (range first (k + 1)) x ≡ true → (in_range (range first k) x || eqb x k) ≡ true
    back e = go (in-range (range first (k + 1)) x e) (dec_lt x k)
      where
        go : (first ≤ x) × (x < k + 1) → Dec (x < k) → (in_range (range first k) x || eqb x k) ≡ true
        go (l, u) (yes d) = ap (λ (b : Bool). b || eqb x k) (range-in (range first k) x l d)
        go (l, u) (no d) = ap (λ (b : Bool). in_range (range first k) x || b) (eq-eqb x k (omega arith)) ∙ or-true (in_range (range first k) x)

-- ---- a row, and a rectangle, column by column and row by row
-- what a fill asks is there again when columns were drawn in a map of the same length
pub still-ready : {c : Columns} {m n hint near : ℕ} → ColumnsReady c m hint → n ≡ m → c.w.first ≤ near → near ≤ c.w.end → ColumnsReady c n near
still-ready p e lo hi = record { room = rw e p.room; low = lo; high = hi }

module _ (c : Columns) where
  abbrev passes : ℕ → ℕ → ℕ → Bool
  passes = cell_passes c.forms.now c.w

  pub no-columns : (cols : ℕ → ℕ → Bool) (map : List ℕ) (hint : ℕ) → ((a b : ℕ) → cols a b ≡ true → ⊥) → c.w.first ≤ hint → hint ≤ c.w.end
      → DrawsColumns c cols map map hint
  no-columns cols map hint none lo hi = record { draws = draws-nothing c.g cols passes map (λ a b k e. absurd (none a b e)); low = lo; high = hi }

  pub more-columns : {p q r : ℕ → ℕ → Bool} {old mid new : List ℕ} {x y : ℕ} → ((i j : ℕ) → (p i j || q i j) ≡ r i j)
      → DrawsColumns c p old mid x → DrawsColumns c q mid new y → DrawsColumns c r old new y
  more-columns {p} {q} {r} e f h = record { draws = draws-then c.g f.draws h.draws (drawn-or c.g p q r passes e); low = h.low; high = h.high }

pub row_more : {first k : ℕ} → first ≤ k → (j x y : ℕ) → (row_of (range first k) j x y || one_column k j x y) ≡ row_of (range first (k + 1)) j x y
row_more {first} {k} o j x y = sym (and-or_distrib_right (in_range (range first k) x) (eqb x k) (eqb y j)) ∙ ap (λ (b : Bool). b && eqb y j) (range-more o x)

pub rectangle-more : {first k : ℕ} → first ≤ k → (u : CellRange) (x y : ℕ) → (rectangle u (range first k) x y || row_of u k x y) ≡ rectangle u (range first (k + 1)) x y
rectangle-more {first} {k} o u x y = sym (and-or_distrib_left (in_range u x) (in_range (range first k) y) (eqb y k)) ∙ ap (λ (b : Bool). in_range u x && b) (range-more o y)
