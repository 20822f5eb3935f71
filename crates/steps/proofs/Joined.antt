-- Bytes with some cells added.
--     present-most   no more records than the file has
--     adds-cells     the definition adds the cells
--     only-cells     and no other bytes do
-- Assumes nothing.
use mathlib.Core.Bool.{Bool, false, ◌&&◌, ◌||◌}
use mathlib.Core.List.{List, [], append-nil}
use mathlib.Core.Path.{◌≡◌, sym, ap, ◌∙◌, subst}
use Prim.Native.Nat.{ℕ, ◌*◌, ◌/◌, ◌%◌, ◌-◌, ◌^◌, ◌<◌, ◌≤◌}
use native.Mathlib.Decide.{dec_lt}
use native.Mathlib.Nat.{zero-div}
use native.Mathlib.Omega.{arith}
use borrow.Author.Tests.{lt-ltb, le-ltb}
use lib.Dec.{ltb}
use lib.ListN.{length, get_or-eq_default}
use Rattle.map.specs.Map.{map_length, is_filled, map_of}
use Rattle.map.proofs.Maps.{Bytes, same_map, length-map, filled-map, bytes-map}
use Rattle.triangles.specs.Add.{Adds}
use Rattle.steps.specs.Steps.{present, with_cells}

pub present-most : (total first count : ℕ) → present total first count ≤ total - first
present-most total first count = omega arith

-- no cell behind the bytes is filled
past_end : (a : List ℕ) (n : ℕ) → 8 * length a ≤ n → is_filled a n ≡ false
unfolding is_filled
past_end a n h =
    let out : length a ≤ n / 8 = omega arith in
    rw (get_or-eq_default a 0 out, zero-div (2 ^ (7 - n % 8)))

-- the map of a property, over all bits of so many bytes
module _ (q : ℕ → Bool) (bytes : ℕ) where
  pub length-all : length (map_of q (8 * bytes)) ≡ bytes
  length-all = length-map q (8 * bytes) ∙ omega arith

  all_in : (n : ℕ) → n < 8 * bytes → is_filled (map_of q (8 * bytes)) n ≡ q n
  all_in n h =
      ap (λ (l : List ℕ). is_filled l n) (sym (append-nil (map_of q (8 * bytes)))) ∙ filled-map q (8 * bytes) [] n (omega arith) ∙ rw (lt-ltb n (8 * bytes) h)

  bytes-all : Bytes (map_of q (8 * bytes))
  bytes-all = subst Bytes (append-nil (map_of q (8 * bytes))) (bytes-map q (8 * bytes) [] (λ i. omega arith))

module _ (p : ℕ → Bool) (cells : ℕ) (m : List ℕ) (room : map_length cells ≤ length m) where
  abbrev added : ℕ → Bool
  added n = is_filled m n || (ltb n cells && p n)

  pub adds-cells : Adds cells p m (with_cells p cells m)
  unfolding with_cells
  adds-cells = record { len = length-all added (length m); each = λ n. go n (dec_lt n (8 * length m)) }
    where
      go : (n : ℕ) → Dec (n < 8 * length m) → is_filled (map_of added (8 * length m)) n ≡ added n
      go n (yes l) = all_in added (length m) n l
      go n (no l) =
          let out : 8 * length m ≤ n = omega arith in
          past_end (map_of added (8 * length m)) n (omega (arith, length-all added (length m), out)) ∙ sym (rw (past_end m n out, le-ltb n cells (omega (arith, room))))

  pub bytes-cells : Bytes (with_cells p cells m)
  unfolding with_cells
  bytes-cells = bytes-all added (length m)

  pub only-cells : (new : List ℕ) → Bytes new → Adds cells p m new → new ≡ with_cells p cells m
  only-cells new b adds = same_map new (with_cells p cells m) b bytes-cells (adds.len ∙ sym adds-cells.len) (λ n. adds.each n ∙ sym (adds-cells.each n))
