-- The numbers of points, as they are copied to an array.
--     one_more        the next point's numbers, put behind those of the first i points
--     numbers-length  three numbers a point
--     take_min        no more can be taken than there are
-- Assumes nothing.
use mathlib.Core.List.{List, [], ◌∷◌, ◌++◌}
use mathlib.Core.Path.{◌≡◌, refl, sym, ap, ◌∙◌}
use Prim.Native.Nat.{ℕ, zero, suc, ◌+◌, ◌*◌, ◌<◌, min}
use native.Mathlib.Nat.{le_of_suc-le-suc, zero-min, min-zero, suc-min-suc}
use native.Mathlib.Omega.{arith}
use lib.IntN.{ℤ}
use lib.ListN.{length, get_or, set, take}
use lib.Seq.{take-suc}
use Rattle.points.specs.declared.Point.{Point}
use Rattle.points.specs.Points.{numbers_of}

-- The numbers with those of point i in their places.
abbrev pub with_point : List ℤ → ℕ → Point → List ℤ
with_point ns i p = set (set (set ns (3 * i) p.x) (3 * i + 1) p.y) (3 * i + 2) p.z

-- Three numbers put behind the first k.
put-behind : (ns : List ℤ) (k : ℕ) (x y z : ℤ) → suc (suc k) < length ns
    → take (suc (suc (suc k))) (set (set (set ns k x) (suc k) y) (suc (suc k)) z) ≡ take k ns ++ (x ∷ y ∷ z ∷ [])
put-behind [] k x y z l = absurd (omega (arith, l))
put-behind (a ∷ []) zero x y z l = absurd (omega (arith, l))
put-behind (a ∷ b ∷ []) zero x y z l = absurd (omega (arith, l))
put-behind (a ∷ b ∷ c ∷ ns) zero x y z l = refl
put-behind (a ∷ ns) (suc k) x y z l = ap (λ (t : List ℤ). a ∷ t) (put-behind ns k x y z (le_of_suc-le-suc l))

numbers-snoc : (ps : List Point) (p : Point) → numbers_of (ps ++ (p ∷ [])) ≡ numbers_of ps ++ numbers_of (p ∷ [])
numbers-snoc [] p = refl
numbers-snoc (q ∷ ps) p = ap (λ (t : List ℤ). q.x ∷ q.y ∷ q.z ∷ t) (numbers-snoc ps p)

pub one_more : (ps : List Point) (i : ℕ) (d : Point) (ns : List ℤ) → i < length ps → 3 * i + 2 < length ns
    → take (3 * i) ns ≡ numbers_of (take i ps) → take (3 * suc i) (with_point ns i (get_or ps i d)) ≡ numbers_of (take (suc i) ps)
one_more ps i d ns l room before =
    (λ t. take (e3 t) (set (set (set ns (3 * i) p.x) (e1 t) p.y) (e2 t) p.z))
    ∙ put-behind ns (3 * i) p.x p.y p.z (omega (arith, room))
    ∙ ap (λ (t : List ℤ). t ++ numbers_of (p ∷ [])) before
    ∙ sym (numbers-snoc (take i ps) p)
    ∙ ap numbers_of (sym (take-suc ps i d l))
  where
    p : Point
    p = get_or ps i d

    e1 : 3 * i + 1 ≡ suc (3 * i)
    e1 = omega arith

    e2 : 3 * i + 2 ≡ suc (suc (3 * i))
    e2 = omega arith

    e3 : 3 * suc i ≡ suc (suc (suc (3 * i)))
    e3 = omega arith

pub numbers-length : (ps : List Point) → length (numbers_of ps) ≡ 3 * length ps
numbers-length [] = refl
numbers-length (p ∷ ps) = omega (arith, numbers-length ps)

pub take_min : {A : Type 0} (n : ℕ) (xs : List A) → take (min n (length xs)) xs ≡ take n xs
take_min zero xs = ap (λ (k : ℕ). take k xs) (zero-min (length xs))
take_min (suc n) [] = ap (λ (k : ℕ). take k []) (min-zero (suc n))
take_min {A} (suc n) (x ∷ xs) = ap (λ (k : ℕ). take k (x ∷ xs)) (suc-min-suc n (length xs)) ∙ ap (λ (t : List A). x ∷ t) (take_min n xs)
