-- A list of triangles, tested number by number, and each triangle by its fields.
--     triangles-same    both say the same
-- Assumes nothing.
use mathlib.Core.Bool.{true, ◌&&◌, and-eq-true_iff}
use mathlib.Core.List.{List}
use mathlib.Core.Path.{◌≡◌, ap, ◌∙◌}
use Prim.Native.Nat.{ℕ, zero, suc, ◌+◌, ◌-◌, ◌*◌, ◌/◌, ◌%◌, ◌^◌, ◌<◌, ◌≤◌}
use native.Mathlib.Decide.{dec_lt}
use native.Mathlib.Omega.{arith}
use lib.IntN.{ℤ, pos, neg_ℤ, ◌-ℤ◌}
use lib.ListN.{length, get_or, drop, length-drop, get_or-replicate}
use lib.Pow.{pow_mono}
use lib.Seq.{get_or-take, get_or-drop, length-take-le}
use lib.Signed.{le_z, lt_z}
use Rattle.integers.proofs.Omega.{zarith, -!, neg! }
use Rattle.integers.proofs.Truth.{same_truth}
use Rattle.layout.specs.declared.Layout.{Layout}
use Rattle.layout.specs.Layout.{field, plain, signed, record_fields}
use Rattle.layout_write.specs.Writing.{least, greatest, between, can_hold, can_hold_all}
use Rattle.layout_write.proofs.Held.{held_at}
use Rattle.writable.specs.Fits.{triangle_numbers, triangle_fits, all_below}
use Rattle.writable.specs.Inner.{all_between, kinds_between}
use Rattle.writable.proofs.All.{all-at, all_of, held_of, none}

-- ---- one number
kind-in : (z : ℤ) → between (pos 0) (pos 2) z ≡ true → (can_hold (field plain 2) z ≡ true) × (lt_z z (pos 3) ≡ true)
kind-in z h =
    let b = (and-eq-true_iff (le_z (pos 0) z) (le_z z (pos 2))).0 h in
    ((and-eq-true_iff (le_z (pos 0) z) (le_z z (pos 3))).1 (b.0, omega (zarith, b.1)), omega (zarith, b.1))

kind-out : (z : ℤ) → can_hold (field plain 2) z ≡ true → lt_z z (pos 3) ≡ true → between (pos 0) (pos 2) z ≡ true
kind-out z h k =
    let b = (and-eq-true_iff (le_z (pos 0) z) (le_z z (pos 3))).0 h in
    (and-eq-true_iff (le_z (pos 0) z) (le_z z (pos 2))).1 (b.0, omega (zarith, k))

-- A coordinate's field can hold a kind.
kind-wide : (w : ℕ) (z : ℤ) → 3 ≤ w → between (pos 0) (pos 2) z ≡ true → can_hold (field signed w) z ≡ true
kind-wide w z few h =
    let half = 2 ^ (w - 1) in
    let b = (and-eq-true_iff (le_z (pos 0) z) (le_z z (pos 2))).0 h in
    let four = pow_mono {i = 2} {j = w - 1} (omega arith) in
    (and-eq-true_iff (le_z (neg_ℤ (pos half)) z) (le_z z (pos half -ℤ pos 1))).1
    (omega (zarith, b.0, neg! (pos half)), omega (zarith, b.1, -! (pos half) (pos 1), four))

-- ---- one triangle
corner-field : (l : Layout) (j : ℕ) → 0 < j → j < 10 → get_or (record_fields l) j none ≡ field signed l.coordinate
corner-field l zero h k = absurd (omega arith)
corner-field l (suc j) h k = get_or-replicate 9 j (field signed l.coordinate) none (omega arith)

module _ (l : Layout) (few : 3 ≤ l.coordinate) (zs : List ℤ) (n : ℕ) (whole : length zs ≡ n * 10) where
  abbrev w : ℕ
  w = l.coordinate

  number-at : (i j : ℕ) → j < 10 → get_or (triangle_numbers zs i) j (pos 0) ≡ get_or zs (i * 10 + j) (pos 0)
  number-at i j h = get_or-take 10 (drop (i * 10) zs) j (pos 0) h ∙ get_or-drop (i * 10) zs j (pos 0)

  kind_at : (i : ℕ) → get_or (triangle_numbers zs i) 0 (pos 0) ≡ get_or zs (i * 10) (pos 0)
  kind_at i = number-at i 0 (omega arith) ∙ ap (λ (m : ℕ). get_or zs m (pos 0)) {y = i * 10} (omega arith)

  -- from the tests of the list
  fits_all : all_between (least signed w) (greatest signed w) zs ≡ true → kinds_between zs n ≡ true
      → all_below (λ i. triangle_fits l (triangle_numbers zs i)) n ≡ true
  fits_all all kinds = all_of _ n fits
    where
      fits : (i : ℕ) → i < n → triangle_fits l (triangle_numbers zs i) ≡ true
      fits i h =
          let ns = triangle_numbers zs i in
          let ten : length ns ≡ 10 = length-take-le 10 (drop (i * 10) zs) (rw (length-drop (i * 10) zs) (omega arith)) in
          let kind = kind-in (get_or zs (i * 10) (pos 0)) (all-at _ n kinds i h) in
          (and-eq-true_iff (can_hold_all (record_fields l) ns) (lt_z (get_or ns 0 (pos 0)) (pos 3))).1
          (held_of (record_fields l) ns ten (λ j k. go j k (dec_lt 0 j) kind.0), rw (kind_at i) kind.1)
        where
          go : (j : ℕ) → j < 10 → Dec (0 < j) → can_hold (field plain 2) (get_or zs (i * 10) (pos 0)) ≡ true
              → can_hold (get_or (record_fields l) j none) (get_or (triangle_numbers zs i) j (pos 0)) ≡ true
          go j k (yes m) e = rw (corner-field l j m k, number-at i j k) (all-at _ (length zs) all (i * 10 + j) (omega arith))
          go j k (no m) e = let first : j ≡ 0 = omega arith in rw (first, kind_at i) e

  -- and back
  all_fit : all_below (λ i. triangle_fits l (triangle_numbers zs i)) n ≡ true
      → (all_between (least signed w) (greatest signed w) zs ≡ true) × (kinds_between zs n ≡ true)
  all_fit h = (all_of _ (length zs) (λ m k. number m k (dec_lt 0 (m % 10))), all_of _ n kind)
    where
      fits : (i : ℕ) → i < n → (can_hold_all (record_fields l) (triangle_numbers zs i) ≡ true) × (lt_z (get_or (triangle_numbers zs i) 0 (pos 0)) (pos 3) ≡ true)
      fits i k = (and-eq-true_iff (can_hold_all (record_fields l) (triangle_numbers zs i)) (lt_z (get_or (triangle_numbers zs i) 0 (pos 0)) (pos 3))).0 (all-at _ n h i k)

      kind : (i : ℕ) → i < n → between (pos 0) (pos 2) (get_or zs (i * 10) (pos 0)) ≡ true
      kind i k = rw (← kind_at i) (kind-out (get_or (triangle_numbers zs i) 0 (pos 0)) (held_at (record_fields l) (triangle_numbers zs i) (fits i k).0 0 (omega arith)) (fits i k).1)

      number : (m : ℕ) → m < length zs → Dec (0 < m % 10) → between (least signed w) (greatest signed w) (get_or zs m (pos 0)) ≡ true
      number m k d =
          let i = m / 10 in
          let j = m % 10 in
          let at : i * 10 + j ≡ m = omega arith in
          rw (← at) (go i j (omega arith) (omega arith) d)
        where
          go : (i j : ℕ) → i < n → j < 10 → Dec (0 < j) → between (least signed w) (greatest signed w) (get_or zs (i * 10 + j) (pos 0)) ≡ true
          go i j a b (yes c) =
              rw (← number-at i j b) (rw (corner-field l j c b) at (held_at (record_fields l) (triangle_numbers zs i) (fits i a).0 j b))
          go i j a b (no c) =
              let first : i * 10 + j ≡ i * 10 = omega arith in
              rw first (kind-wide w (get_or zs (i * 10) (pos 0)) few (kind i a))

  pub triangles-same : all_below (λ i. triangle_fits l (triangle_numbers zs i)) n ≡ all_between (least signed w) (greatest signed w) zs && kinds_between zs n
  triangles-same =
      let both = and-eq-true_iff (all_between (least signed w) (greatest signed w) zs) (kinds_between zs n) in
      same_truth _ _ (λ h. both.1 (all_fit h)) (λ h. let b = both.0 h in fits_all b.0 b.1)
