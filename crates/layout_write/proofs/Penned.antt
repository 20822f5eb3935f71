-- Fields put one behind the other.
--     Penned        a pen has put K bits, as the number N, from the first byte on
--     penned-first, penned-more, penned-all   none, one field more, and all bytes full
--     puttable      so the next number can be put
-- Assumes nothing.
use mathlib.Core.Bool.{true}
use mathlib.Core.List.{List}
use mathlib.Core.Path.{◌≡◌, refl, sym, ap, ◌∙◌}
use Prim.Native.Nat.{ℕ, ◌+◌, ◌*◌, ◌^◌, ◌<◌, ◌≤◌}
use native.Mathlib.Omega.{arith}
use lib.IntN.{ℤ, pos}
use lib.ListN.{length, get_or}
use lib.Seq.{take_all}
use Rattle.bits.specs.declared.Pen.{Pen}
use Rattle.bits.specs.Field.{field_at, bytes_of}
use Rattle.bits.specs.Inner.{pen_bits, pen_number, Put}
use Rattle.bits.proofs.Pens.{bytes-field}
use Rattle.layout.specs.Layout.{FieldForm}
use Rattle.layout_write.specs.Writing.{can_hold}
use Rattle.layout_write.specs.Put.{Puttable}

pub record Penned (K N : ℕ) (s : List ℕ) (len : ℕ) (p : Pen) : Type 0 where
  pub bits : pen_bits p ≡ K
  pub number : pen_number s p ≡ N
  pub same : length s ≡ len

pub penned-first : (s : List ℕ) {p : Pen} {len : ℕ} → (p.at ≡ 0) × (p.bits ≡ 0) × (p.held ≡ 0) → length s ≡ len → Penned 0 0 s len p
unfolding field_at
penned-first s e h =
    record {
      bits = omega (arith, e.0, e.1);
      number = rw (e.0, e.1, e.2) refl;
      same = h;
    }

module _ {K N len : ℕ} {s : List ℕ} {p : Pen} (d : Penned K N s len p) where
  pub penned-more : {w v : ℕ} {new : List ℕ} {r : Pen} → Put s p w v new r → Penned (K + w) (N * 2 ^ w + v) new len r
  penned-more {w} {v} t =
      record {
        bits = t.grown ∙ ap (λ (k : ℕ). k + w) d.bits;
        number = t.holds ∙ ap (λ (n : ℕ). n * 2 ^ w + v) d.number;
        same = t.same ∙ d.same;
      }

  pub puttable : (f : FieldForm) {ns : List ℤ} {i : ℕ} → 1 ≤ f.bits → f.bits ≤ 25 → K + f.bits ≤ len * 8 → i < length ns
      → can_hold f (get_or ns i (pos 0)) ≡ true → Puttable s p f ns i
  puttable f some most room there held =
      record { room = record { narrow = most; room = omega (arith, d.bits, d.same) }; some = some; there = there; held = held }

-- Where the bytes are full the pen holds nothing back.
pub penned-all : {N len : ℕ} {s : List ℕ} {p : Pen} → Penned (len * 8) N s len p → ((i : ℕ) → get_or s i 0 < 256) → s ≡ bytes_of len N
penned-all {N} {len} {s} {p} d bytes =
    let none : p.bits ≡ 0 = omega (arith, d.bits, p.few) in
    let all : p.at ≡ len = omega (arith, d.bits) in
    let held : p.held ≡ 0 = omega (arith, rw none at p.small) in
    let whole : field_at s 0 (len * 8) ≡ N = omega (arith, rw (none, all, held) at d.number) in
    sym (take_all len s (omega (arith, d.same))) ∙ sym (bytes-field s bytes len (omega (arith, d.same))) ∙ ap (bytes_of len) whole
