-- Numbers that were written, the lowest byte first, are read back.
--     Holds, further, byte_at   what a file holds from a place on, behind a part of it, and first of all
--     back                      the number of so many bytes
--     value-back                and of a type
--     index_back, index-good    and an index
-- Assumes nothing.
use mathlib.Core.Bool.{true}
use mathlib.Core.List.{List, [], ◌∷◌, ◌++◌}
use mathlib.Core.Path.{◌≡◌, refl, sym, ap, ◌∙◌}
use Prim.Native.Nat.{ℕ, zero, suc, ◌+◌, ◌*◌, ◌/◌, ◌%◌, ◌^◌, ◌<◌}
use native.Mathlib.Nat.{pow-suc}
use native.Mathlib.Omega.{arith}
use borrow.Author.Tests.{lt-ltb}
use lib.IntN.{pos}
use lib.ListN.{length, get_or, drop}
use lib.Seq.{drop-drop, drop_at, get_or-drop}
use lib.Ieee.{binary32, binary64, of_bits, of_int}
use Rattle.bits.specs.Field.{twos_complement}
use Rattle.bits.proofs.Signs.{low_half}
use Rattle.rounding.specs.Widening.{widened_of}
use Rattle.ply_header.specs.declared.Scalar.{Scalar}
use Rattle.ply_header.specs.declared.Scalar.TheVariants.{Float, Double, Int}
use Rattle.ply_vertex.specs.Vertex.{little_endian, width_of, number_at}
use Rattle.ply.specs.Body.{index_at, is_index}
use Rattle.ply.proofs.Faces.{low-index}
use Rattle.scan_words.specs.Mesh.{bytes_in, lowest_first, value_of}

-- ---- what a file holds from a place on
pub record Holds (s : List ℕ) (at : ℕ) (rest : List ℕ) : Type 0 where
  pub is : drop at s ≡ rest

pub further : {s : List ℕ} {at : ℕ} (part rest : List ℕ) (n : ℕ) → length part ≡ n → Holds s at (part ++ rest) → Holds s (at + n) rest
further {s} {at} part rest n l h = record { is = sym (drop-drop n at s) ∙ ap (drop n) h.is ∙ drop_at part rest n l }

pub byte_at : {s rest : List ℕ} {at c : ℕ} → Holds s at (c ∷ rest) → get_or s at 0 ≡ c
byte_at {s} {at = at} h = ap (λ (i : ℕ). get_or s i 0) (omega arith) ∙ sym (get_or-drop at s 0 0) ∙ ap (λ (l : List ℕ). get_or l 0 0) h.is

pub length-lowest : (n v : ℕ) → length (lowest_first n v) ≡ n
unfolding lowest_first
length-lowest zero v = refl
length-lowest (suc n) v = ap suc (length-lowest n (v / 256))

-- ---- numbers
times : (x n : ℕ) → x * 256 ^ suc n ≡ 256 * (x * 256 ^ n)
times x n = ap (λ (p : ℕ). x * p) (pow-suc 256 n) ∙ omega arith

-- the lowest byte, and the others
peel : (s : List ℕ) (at n : ℕ) → little_endian s at (suc n) ≡ get_or s at 0 + 256 * little_endian s (at + 1) n
peel s at zero = let e : get_or s (at + 0) 0 ≡ get_or s at 0 = ap (λ (i : ℕ). get_or s i 0) (omega arith) in omega arith
peel s at (suc n) =
    let e : get_or s (at + suc n) 0 ≡ get_or s (at + 1 + n) 0 = ap (λ (i : ℕ). get_or s i 0) (omega arith) in
    let t : get_or s (at + suc n) 0 * 256 ^ suc n ≡ 256 * (get_or s (at + 1 + n) 0 * 256 ^ n) = ap (λ (x : ℕ). x * 256 ^ suc n) e ∙ times (get_or s (at + 1 + n) 0) n in
    omega (arith, peel s at n, t)

pub back : {s : List ℕ} {at : ℕ} (n v : ℕ) (rest : List ℕ) → Holds s at (lowest_first n v ++ rest) → v < 256 ^ n → little_endian s at n ≡ v
unfolding lowest_first
back zero v rest e h = omega arith
back {s} {at} (suc n) v rest e h =
    let first : get_or s at 0 ≡ v % 256 = byte_at e in
    let others : little_endian s (at + 1) n ≡ v / 256 = back {at = at + 1} n (v / 256) rest (further (v % 256 ∷ []) (lowest_first n (v / 256) ++ rest) 1 refl e) (omega (arith, pow-suc 256 n)) in
    peel s at n ∙ omega arith

-- ---- of a type
pub width_is : (t : Scalar) → width_of t ≡ bytes_in t
width_is Float = refl
width_is Double = refl
width_is Int = refl

module _ {s : List ℕ} {at : ℕ} where
  pub value-back : (t : Scalar) (v : ℕ) (rest : List ℕ) → Holds s at (lowest_first (bytes_in t) v ++ rest) → v < 256 ^ bytes_in t → widened_of (number_at t s at) ≡ value_of t v
  value-back Float v rest e h = ap (of_bits binary32) (back 4 v rest e h)
  value-back Double v rest e h = ap (of_bits binary64) (back 8 v rest e h)
  value-back Int v rest e h = ap (λ (n : ℕ). of_int binary64 (twos_complement 32 n)) (back 4 v rest e h)

  module _ (v : ℕ) (rest : List ℕ) (e : Holds s at (lowest_first 4 v ++ rest)) (h : v < 2147483648) where
    pub index_back : index_at s at ≡ pos v
    index_back = ap (twos_complement 32) (back 4 v rest e (omega arith)) ∙ low_half 32 v h

    pub index-good : (n : ℕ) → v < n → is_index n (index_at s at) ≡ true
    index-good n l = ap (λ (w : ℕ). is_index n (twos_complement 32 w)) (back 4 v rest e (omega arith)) ∙ sym (low-index n v h) ∙ lt-ltb v n l
