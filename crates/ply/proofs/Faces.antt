-- Indices and faces.
--     low-index, high-index   an index by its bits
--     index_is                the number of a vertex, as bits
--     good-count              a good face has 13 bytes
--     Corners, corners        what a good face is
--     rounded                 a corner, by its vertex
-- Assumes nothing.
use mathlib.Core.Bool.{Bool, true, false, ◌&&◌, true≢false, and-eq-true_iff}
use mathlib.Core.List.{List}
use mathlib.Core.Path.{◌≡◌, sym, ap, ◌∙◌}
use Prim.Native.Nat.{ℕ, ◌+◌, ◌<◌, ◌≤◌}
use native.Mathlib.Decide.{dec_lt}
use native.Mathlib.Omega.{arith}
use borrow.Author.Tests.{lt-ltb, le-ltb, le-leb, eqb-true, ltb-true}
use lib.Dec.{ltb, eqb}
use lib.IntN.{ℤ, nat_abs}
use lib.ListN.{get_or}
use Rattle.bits.specs.Field.{twos_complement}
use Rattle.rounding.specs.declared.Vertex.{Vertex}
use Rattle.rounding.specs.Rounding.{rounded_of, millimetres}
use Rattle.ply.specs.declared.Corner.{Corner}
use Rattle.ply.specs.Body.{behind_face, index_at, is_index, good_face, corner_of}

-- ---- a signed number: from 0 to below n exactly where its bits are below 2 ^ 31 and below n
module _ (n w : ℕ) where
  pub low-index : w < 2147483648 → ltb w n ≡ is_index n (twos_complement 32 w)
  unfolding is_index
  low-index h = rw (lt-ltb w 2147483648 h, le-leb 0 w (omega arith))

  pub high-index : w < 4294967296 → 2147483648 ≤ w → false ≡ is_index n (twos_complement 32 w)
  unfolding is_index
  high-index t h = rw (le-ltb w 2147483648 h, lt-ltb w 4294967296 t)

  pub index_is : w < 4294967296 → is_index n (twos_complement 32 w) ≡ true → (w < n) × (nat_abs (twos_complement 32 w) ≡ w)
  index_is t e = go (dec_lt w 2147483648)
    where
      go : Dec (w < 2147483648) → (w < n) × (nat_abs (twos_complement 32 w) ≡ w)
      go (yes h) = (ltb-true w n (low-index h ∙ e), rw (lt-ltb w 2147483648 h))
      go (no h) = let z : ◌≡◌ {A = Bool} false true = high-index t (omega arith) ∙ e in absurd (true≢false (sym z))

-- ---- a good face
pub record Corners (s : List ℕ) (n at : ℕ) : Type 0 where
  pub three : get_or s at 0 ≡ 3
  pub first : is_index n (index_at s (at + 1)) ≡ true
  pub second : is_index n (index_at s (at + 5)) ≡ true
  pub third : is_index n (index_at s (at + 9)) ≡ true

four : (a b c d : Bool) → (a && b && c && d) ≡ true → (a ≡ true) × (b ≡ true) × (c ≡ true) × (d ≡ true)
four a b c d e =
    let p = (and-eq-true_iff (a && b && c) d).0 e in
    let q = (and-eq-true_iff (a && b) c).0 p.0 in
    let r = (and-eq-true_iff a b).0 q.0 in
    (r.0, r.1, q.1, p.1)

pub corners : (s : List ℕ) (n at : ℕ) → good_face s n at ≡ true → Corners s n at
unfolding good_face
corners s n at e =
    let p = four (eqb (get_or s at 0) 3) (is_index n (index_at s (at + 1))) (is_index n (index_at s (at + 5))) (is_index n (index_at s (at + 9))) e in
    record { three = eqb-true _ _ p.0; first = p.1; second = p.2; third = p.3 }

pub good-count : (s : List ℕ) (n at : ℕ) → good_face s n at ≡ true → at + 13 ≡ behind_face s at
good-count s n at e = omega (arith, (corners s n at e).three)

-- ---- a corner, rounded
pub rounded : {u v : Vertex} {x y z : ℤ} → u ≡ v → x ≡ millimetres (rounded_of u.x) → y ≡ millimetres (rounded_of u.y) → z ≡ millimetres (rounded_of u.z)
    → ◌≡◌ {A = Corner} (record { x = x; y = y; z = z }) (corner_of v)
unfolding corner_of
rounded {u} e p q r = (λ i. record { x = p i; y = q i; z = r i }) ∙ ap corner_of e
