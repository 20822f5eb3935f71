-- Laws of two's complement.
--     halves              2 ^ w is twice its half
--     low_half, high_half what a number of w bits stands for, by its highest bit
--     signed_range        from −2 ^ (w − 1) to 2 ^ (w − 1) − 1; signed-within, the same as a bound on the size
-- Assumes nothing.
use mathlib.Core.List.{List}
use mathlib.Core.Path.{◌≡◌, ap}
use Prim.Native.Nat.{ℕ, suc, ◌+◌, ◌-◌, ◌^◌, ◌<◌, ◌≤◌}
use native.Mathlib.Nat.{pow-suc}
use native.Mathlib.Decide.{dec_lt}
use native.Mathlib.Omega.{arith}
use borrow.Author.Tests.{lt-ltb, le-ltb}
use lib.IntN.{ℤ, pos, neg_ℤ, ◌-ℤ◌}
use lib.Signed.{◌≤ℤ◌, ◌<ℤ◌}
use Rattle.integers.specs.Within.{Within}
use Rattle.integers.proofs.Bounds.{within_of}
use Rattle.integers.proofs.Laws.{<→≤}
use Rattle.integers.proofs.Omega.{zarith, -!, neg! }
use Rattle.bits.specs.Field.{field_at, twos_complement, signed_at}
use Rattle.bits.proofs.Fields.{field_lt}

pub halves : (w : ℕ) → 1 ≤ w → 2 ^ (w - 1) + 2 ^ (w - 1) ≡ 2 ^ w
halves w h =
    let more : suc (w - 1) ≡ w = omega arith in
    omega (arith, pow-suc 2 (w - 1), ap (λ (x : ℕ). 2 ^ x) more)

pub low_half : (w n : ℕ) → n < 2 ^ (w - 1) → twos_complement w n ≡ pos n
low_half w n h = rw (lt-ltb n (2 ^ (w - 1)) h)

pub high_half : (w n : ℕ) → 2 ^ (w - 1) ≤ n → twos_complement w n ≡ pos n -ℤ pos (2 ^ w)
high_half w n h = rw (le-ltb n (2 ^ (w - 1)) h)

-- ---- the range of a signed number of w bits
pub record SignedRange (w : ℕ) (z : ℤ) : Type 0 where
  pub low : neg_ℤ (pos (2 ^ (w - 1))) ≤ℤ z
  pub high : z <ℤ pos (2 ^ (w - 1))

twos-range : (w n : ℕ) → 1 ≤ w → n < 2 ^ w → SignedRange w (twos_complement w n)
twos-range w n some h = go (dec_lt n (2 ^ (w - 1)))
  where
    go : Dec (n < 2 ^ (w - 1)) → SignedRange w (twos_complement w n)
    go (yes l) = rw (low_half w n l) (record { low = omega (zarith, neg! (pos (2 ^ (w - 1)))); high = omega zarith })
    go (no l) = rw (high_half w n (omega arith)) (record {
      low = omega (zarith, halves w some, -! (pos n) (pos (2 ^ w)), neg! (pos (2 ^ (w - 1))));
      high = omega (zarith, -! (pos n) (pos (2 ^ w)));
    })

pub signed_range : (s : List ℕ) (p w : ℕ) → 1 ≤ w → SignedRange w (signed_at s p w)
unfolding signed_at
signed_range s p w some = twos-range w (field_at s p w) some (field_lt s p w)

pub signed-within : (s : List ℕ) (p w : ℕ) → 1 ≤ w → Within (2 ^ (w - 1)) (signed_at s p w)
signed-within s p w some = let r = signed_range s p w some in within_of r.low (<→≤ r.high)
