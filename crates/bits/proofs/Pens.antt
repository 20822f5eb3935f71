-- Laws of a pen.
--     field-same     a field depends on its own bytes alone
--     Turn           a pen while its whole bytes go out: all bits written so far stay one number
--     begins, turns  a field is put behind the bits held back, and a byte goes out
--     length-bytes, bytes-field    how many bytes a number has; and the number of the first bytes, as bytes
-- Assumes nothing.
use mathlib.Core.Path.{◌≡◌, refl, sym, ap, ◌∙◌}
use mathlib.Core.List.{List, [], ◌∷◌}
use Prim.Native.Nat.{ℕ, zero, suc, ◌+◌, ◌-◌, ◌*◌, ◌/◌, ◌%◌, ◌^◌, ◌<◌, ◌≤◌}
use native.Mathlib.Nat.{mul_assoc, add-mul, mod-lt, mul-le-mul_right, lt_of_lt_of_le}
use native.Mathlib.Numerals.{add-one}
use native.Mathlib.Omega.{arith}
use lib.ListN.{length, get_or, take, drop, set, length-set, length-append}
use lib.Pow.{pow_pos, pow-add, shl_exact, shr_lt, split, pow_mono}
use lib.Seq.{get_or-set_same, get_or-set_other, drop-set-lt, drop-drop, take-suc}
use Rattle.bits.specs.declared.Pen.{Pen}
use Rattle.bits.specs.Field.{bit_at, field_at, bytes_of}
use Rattle.bits.specs.Inner.{pen_bits, pen_number, Room}
use Rattle.bits.proofs.Fields.{field-split, byte-field, one_shl}

pub field-same : (s t : List ℕ) (n : ℕ) → ((j : ℕ) → j < n → get_or s j 0 ≡ get_or t j 0) → (p w : ℕ) → p + w ≤ n * 8 → field_at s p w ≡ field_at t p w
unfolding field_at bit_at
field-same s t n h p zero k = refl
field-same s t n h p (suc w) k = rw (field-same s t n h p w (omega arith), h ((p + w) / 8) (omega arith))

-- The first bytes as a number, and one byte more.
pub byte_more : (s : List ℕ) (n : ℕ) → get_or s n 0 < 256 → field_at s 0 (suc n * 8) ≡ field_at s 0 (n * 8) * 256 + get_or s n 0
byte_more s n h =
    let more : suc n * 8 ≡ n * 8 + 8 = omega arith in
    let here : 0 + n * 8 ≡ n * 8 = omega arith in
    ap (field_at s 0) more ∙ rw (field-split s 0 (n * 8) 8, here, byte-field s n h)

byte-set : (s : List ℕ) (i b : ℕ) → i < length s → b < 256 → field_at (set s i b) 0 (suc i * 8) ≡ field_at s 0 (i * 8) * 256 + b
byte-set s i b h k =
    let here = get_or-set_same s i b 0 h in
    byte_more (set s i b) i (rw here k)
    ∙ rw (here, field-same (set s i b) s i (λ j l. get_or-set_other s i j b 0 (λ e. omega arith)) 0 (i * 8) (omega arith))

-- a × 2 ^ w + b, with b below 2 ^ w
pub join-lt : (a b j w : ℕ) → a < 2 ^ j → b < 2 ^ w → a * 2 ^ w + b < 2 ^ (j + w)
join-lt a b j w h k = rw (pow-add 2 j w) (omega (arith, add-mul 1 a (2 ^ w), mul-le-mul_right {m = 1 + a} {n = 2 ^ j} (2 ^ w) (omega arith)))

-- ---- the whole bytes go out
pub record Turn (N K : ℕ) (old out : List ℕ) (at bits held : ℕ) : Type 0 where
  pub grown : at * 8 + bits ≡ K
  pub wide : bits < 33
  pub small : held < 2 ^ bits
  pub holds : field_at out 0 (at * 8) * 2 ^ bits + held ≡ N
  pub behind : drop at out ≡ drop at old
  pub same : length out ≡ length old
  pub room : K ≤ length old * 8

module _ {s : List ℕ} {p : Pen} {w v : ℕ} (r : Room s p w) (fit : v < 2 ^ w) where
  shifted : p.held * 2 ^ w % 2 ^ 64 ≡ p.held * 2 ^ w
  shifted = shl_exact p.bits w 64 p.small (omega (arith, p.few, r.narrow))

  pub begins : Turn (pen_number s p * 2 ^ w + v) (pen_bits p + w) s s p.at (p.bits + w) (p.held * 2 ^ w % 2 ^ 64 + v)
  begins =
      let n = field_at s 0 (p.at * 8) in
      record {
        grown = omega arith;
        wide = omega (arith, p.few, r.narrow);
        small = rw shifted (join-lt p.held v p.bits w p.small fit);
        holds = rw (shifted, pow-add 2 p.bits w, ← mul_assoc n (2 ^ p.bits) (2 ^ w), add-mul (n * 2 ^ p.bits) p.held (2 ^ w)) (omega arith);
        behind = refl;
        same = refl;
        room = r.room;
      }

module _ {N K : ℕ} {old out : List ℕ} {at bits held : ℕ} (t : Turn N K old out at bits held) (h : 8 ≤ bits) where
  pub byte-lt : held / 2 ^ (bits - 8) < 256
  byte-lt = shr_lt 8 (bits - 8) (lt_of_lt_of_le t.small (pow_mono {i = bits} {j = 8 + (bits - 8)} (omega arith)))

  pub turns : let k = bits - 8 in
      Turn N K old (set out at (held / 2 ^ k)) (at + 1) k (held % (1 * 2 ^ k % 2 ^ 64))
  turns =
      let k = bits - 8 in
      let b = held / 2 ^ k in
      let n = field_at out 0 (at * 8) in
      let all : bits ≡ 8 + k = omega arith in
      let one : 1 * 2 ^ k % 2 ^ 64 ≡ 2 ^ k = one_shl 64 k (omega (arith, t.wide)) in
      record {
        grown = omega (arith, t.grown);
        wide = omega (arith, t.wide);
        small = rw one (mod-lt held (pow_pos k));
        holds =
            let whole : n * 2 ^ bits + held ≡ n * 256 * 2 ^ k + held =
            ap (λ (x : ℕ). n * 2 ^ x + held) all ∙ rw (pow-add 2 8 k, mul_assoc n 256 (2 ^ k)) in
            rw (one, add-one at, byte-set out at b (omega (arith, t.room, t.grown, t.same)) byte-lt, add-mul (n * 256) b (2 ^ k))
            (omega (arith, split held k, whole, t.holds));
        behind = drop-set-lt (at + 1) out at b (omega arith) ∙ (sym (drop-drop 1 at out) ∙ ap (drop 1) t.behind ∙ drop-drop 1 at old);
        same = length-set out at b ∙ t.same;
        room = t.room;
      }

-- ---- bytes
pub length-bytes : (n m : ℕ) → length (bytes_of n m) ≡ n
unfolding bytes_of
length-bytes zero m = refl
length-bytes (suc n) m = length-append (bytes_of n (m / 256)) (m % 256 ∷ []) ∙ omega (arith, length-bytes n (m / 256))

pub bytes-field : (s : List ℕ) → ((i : ℕ) → get_or s i 0 < 256) → (n : ℕ) → n ≤ length s → bytes_of n (field_at s 0 (n * 8)) ≡ take n s
unfolding bytes_of
bytes-field s bytes zero h = refl
bytes-field s bytes (suc n) h =
    let high : (field_at s 0 (n * 8) * 256 + get_or s n 0) / 256 ≡ field_at s 0 (n * 8) = omega (arith, bytes n) in
    let low : (field_at s 0 (n * 8) * 256 + get_or s n 0) % 256 ≡ get_or s n 0 = omega (arith, bytes n) in
    rw (byte_more s n (bytes n), high, low, bytes-field s bytes n (omega arith)) (sym (take-suc s n 0 (omega arith)))
