-- Where faces lie, and the loop that walks over them.
--     grows          a face begins behind those before it
--     Walking, walk_more             what the loop keeps
--     walk-cut                       a face that is not in the file, so that the file does not end behind its last
-- Assumes nothing.
use mathlib.Core.Bool.{false}
use mathlib.Core.List.{List}
use mathlib.Core.Path.{◌≡◌, refl, sym, ap, ◌∙◌}
use Prim.Native.Nat.{ℕ, zero, suc, ◌+◌, ◌-◌, ◌<◌, ◌≤◌}
use native.Mathlib.Decide.{dec_lt}
use native.Mathlib.Numerals.{add-one}
use native.Mathlib.Omega.{arith}
use borrow.Author.Tests.{ne_eqb}
use lib.Dec.{eqb}
use lib.ListN.{length}
use Rattle.ply.specs.Body.{behind_face, face_from}

module _ (s : List ℕ) (at : ℕ) where
  pub next : (i : ℕ) → face_from s at (suc i) ≡ behind_face s (face_from s at i)
  unfolding face_from
  next i = refl

  pub grows : (i n : ℕ) → i ≤ n → face_from s at i + (n - i) ≤ face_from s at n
  grows i zero h = let same : i ≡ 0 = omega arith in rw same (omega arith)
  grows i (suc n) h = go (dec_lt i (suc n)) (grows i n)
    where
      go : Dec (i < suc n) → (i ≤ n → face_from s at i + (n - i) ≤ face_from s at n) → face_from s at i + (suc n - i) ≤ face_from s at (suc n)
      go (yes l) ih = omega (arith, ih (omega arith), next n)
      go (no l) ih = let same : i ≡ suc n = omega arith in rw same (omega arith)

  beyond : (i n : ℕ) → i ≤ n → length s < face_from s at i → false ≡ eqb (face_from s at n) (length s)
  beyond i n h l = sym (ne_eqb (face_from s at n) (length s) (λ e. omega (arith, grows i n h, e)))

-- ---- what the loop keeps
pub record Walking (s : List ℕ) (at faces p i : ℕ) : Type 0 where
  pub low : i ≤ faces
  pub is : p ≡ face_from s at i

module _ {s : List ℕ} {at faces p i : ℕ} (w : Walking s at faces p i) where
  onward : behind_face s p ≡ face_from s at (suc i)
  onward = ap (behind_face s) w.is ∙ sym (next s at i)

  pub walk-cut : i < faces → length s ≤ p → false ≡ eqb (face_from s at faces) (length s)
  walk-cut h l = beyond s at (suc i) faces h (omega (arith, onward))

  pub walk_more : {q : ℕ} → i < faces → q ≡ behind_face s p → Walking s at faces q (i + 1)
  walk_more h e = rw (add-one i) (record { low = h; is = e ∙ onward })
