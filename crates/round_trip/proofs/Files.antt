-- Bytes and pieces.
--     field-bytes     the bytes of a number, read as one field
--     pieces-cut      a list that is cut into pieces
-- Assumes nothing.
use mathlib.Core.List.{List, [], ◌∷◌, ◌++◌, append_assoc}
use mathlib.Core.Path.{◌≡◌, sym, ap, ap₂, ◌∙◌}
use Prim.Native.Nat.{ℕ, zero, suc, ◌+◌, ◌*◌, ◌/◌, ◌%◌, ◌^◌, ◌<◌}
use native.Mathlib.Nat.{mul-suc}
use native.Mathlib.Omega.{arith}
use lib.ListN.{get_or, take, drop}
use lib.Pow.{pow-add}
use lib.Seq.{get_or-append_seam, take-add, drop-drop}
use Rattle.bits.specs.Field.{field_at, bytes_of}
use Rattle.bits.proofs.Pens.{byte_more, length-bytes}
use Rattle.frame_write.specs.Write.{concat_below}

pub field-bytes : (n m : ℕ) (rest : List ℕ) → m < 2 ^ (n * 8) → field_at (bytes_of n m ++ rest) 0 (n * 8) ≡ m
unfolding bytes_of field_at
field-bytes zero m rest h = omega arith
field-bytes (suc n) m rest h =
    let s = bytes_of n (m / 256) ++ (m % 256 ∷ rest) in
    let same : bytes_of (suc n) m ++ rest ≡ s = append_assoc (bytes_of n (m / 256)) (m % 256 ∷ []) rest in
    let more : 2 ^ (suc n * 8) ≡ 256 * 2 ^ (n * 8) = ap (λ (k : ℕ). 2 ^ k) {x = suc n * 8} {y = 8 + n * 8} (omega arith) ∙ pow-add 2 8 (n * 8) in
    let last : get_or s n 0 ≡ m % 256 = ap (λ (k : ℕ). get_or s k 0) (sym (length-bytes n (m / 256))) ∙ get_or-append_seam (bytes_of n (m / 256)) (m % 256) rest 0 in
    let front = field-bytes n (m / 256) (m % 256 ∷ rest) (omega (arith, more)) in
    ap (λ (t : List ℕ). field_at t 0 (suc n * 8)) same ∙ byte_more s n (omega (arith, last)) ∙ omega (arith, front, last)

pub pieces-cut : {A : Type 0} (h k : ℕ) (s : List A) (n : ℕ) → concat_below (λ i. take k (drop (h + k * i) s)) n ≡ take (k * n) (drop h s)
unfolding concat_below
pieces-cut h k s zero = ap (λ (m : ℕ). take m (drop h s)) {x = 0} {y = k * 0} (omega arith)
pieces-cut h k s (suc n) =
    ap₂ ◌++◌ (pieces-cut h k s n) (ap (take k) (sym (drop-drop (k * n) h s)))
    ∙ sym (take-add (k * n) k (drop h s))
    ∙ ap (λ (m : ℕ). take m (drop h s)) {x = k * n + k} {y = k * suc n} (omega (arith, mul-suc k n))
