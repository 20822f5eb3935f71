-- A block and its halves.
--     cut_range            a range cut in two
--     wider                a block of a grid is one of a larger grid
--     long-u, long-v       the longer side of a block that is not small has two cells
-- Assumes nothing.
use mathlib.Core.Bool.{Bool, true, false, ◌&&◌, ◌||◌}
use mathlib.Core.Path.{◌≡◌, refl}
use Prim.Native.Nat.{ℕ, ◌+◌, ◌-◌, ◌*◌, ◌/◌, ◌<◌, ◌≤◌}
use native.Mathlib.Decide.{dec_lt}
use native.Mathlib.Nat.{mul-le-mul, mul_comm, le_trans, le_of_lt}
use native.Mathlib.Omega.{arith}
use borrow.Author.Tests.{lt-ltb, le-ltb, le-leb, lt-leb, leb-false}
use lib.Dec.{leb, ltb}
use Rattle.grid.specs.Range.{in_range}
use Rattle.pending.specs.Pending.{halvings}
use Rattle.pending.proofs.Laws.{fewer}
use Rattle.columns.specs.Draw.{range}
use Rattle.blocks.specs.declared.shape.Block.{Block}
use Rattle.blocks.specs.Block.{u_range, v_range, width_of, is_small, BlockIn}

-- ---- a range
and-or-none : (p q : Bool) → (p && true) ≡ ((p && true) || (false && q))
and-or-none true q = refl
and-or-none false q = refl

range-cut : (first m end : ℕ) → first ≤ m → m ≤ end → (i : ℕ) → in_range (range first end) i ≡ (in_range (range first m) i || in_range (range m end) i)
range-cut first m end ha hb i = go (dec_lt i m)
  where
    go : Dec (i < m) → (leb first i && ltb i end) ≡ ((leb first i && ltb i m) || (leb m i && ltb i end))
    go (yes h) = rw (lt-ltb i end (omega arith), lt-ltb i m h, lt-leb m i h) (and-or-none (leb first i) true)
    go (no h) = rw (le-leb first i (omega arith), le-ltb i m (omega arith), le-leb m i (omega arith))

-- Both parts have cells, and fewer halvings cut them into single cells.
pub record CutRange (first m end : ℕ) : Type 0 where
  pub low-some : first < m
  pub high-some : m < end
  pub low-less : halvings (m - first) < halvings (end - first)
  pub high-less : halvings (end - m) < halvings (end - first)
  pub both : (i : ℕ) → in_range (range first end) i ≡ (in_range (range first m) i || in_range (range m end) i)

pub cut_range : (first end m : ℕ) → m ≡ (first + end + 1) / 2 → 1 < end - first → end ≤ 64 → CutRange first m end
cut_range first end m e some most = record {
  low-some = omega arith;
  high-some = omega arith;
  low-less = fewer (m - first) (end - first) some (omega arith) (omega arith);
  high-less = fewer (end - m) (end - first) some (omega arith) (omega arith);
  both = range-cut first m end (omega arith) (omega arith);
}

-- ---- a block
pub wider : {mu mv nu nv : ℕ} {b : Block} → mu ≤ nu → mv ≤ nv → BlockIn mu mv b → BlockIn nu nv b
wider p q h = record { u = record { some = h.u.some; most = le_trans h.u.most p }; v = record { some = h.v.some; most = le_trans h.v.most q } }

-- ---- the longer side
-- of two sides with a product above 64, the one that is not the shorter
long : {a b : ℕ} → 64 < a * b → b ≤ a → 1 < a
long {a} m h = go (dec_lt 1 a)
  where
    go : Dec (1 < a) → 1 < a
    go (yes d) = d
    go (no d) = let o : a ≤ 1 = omega arith in let p = mul-le-mul o (le_trans h o) in omega arith

module _ (b : Block) (e : is_small b ≡ false) where
  many : 64 < width_of (u_range b) * width_of (v_range b)
  many = leb-false (width_of (u_range b) * width_of (v_range b)) 64 e

  pub long-u : width_of (v_range b) ≤ width_of (u_range b) → 1 < width_of (u_range b)
  long-u h = long many h

  pub long-v : width_of (u_range b) < width_of (v_range b) → 1 < width_of (v_range b)
  long-v h = long (rw (mul_comm (width_of (v_range b)) (width_of (u_range b))) many) (le_of_lt h)
