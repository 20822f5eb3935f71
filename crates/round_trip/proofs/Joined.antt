-- Fields that are joined, and fields that are split, over any list of fields.
--     split-join     what was joined is split into the same numbers
--     join-split     what was split is joined to the same bits
--     held-split     fields can hold what they are split into
-- Assumes nothing.
use mathlib.Core.Bool.{true, true≢false}
use mathlib.Core.List.{List, [], ◌∷◌}
use mathlib.Core.Path.{◌≡◌, refl, sym, ap, ap₂, ◌∙◌}
use Prim.Native.Nat.{ℕ, ◌+◌, ◌*◌, ◌/◌, ◌%◌, ◌^◌, ◌<◌}
use native.Mathlib.Nat.{mul_assoc, add-mul}
use native.Mathlib.Omega.{arith}
use lib.IntN.{ℤ}
use lib.Pow.{pow-add, high, low}
use Rattle.bits.specs.Field.{field_at}
use Rattle.bits.proofs.Fields.{field_lt, field-split}
use Rattle.bits.proofs.Pens.{join-lt}
use Rattle.layout.specs.Layout.{FieldForm, split}
use Rattle.layout_write.specs.Writing.{can_hold, can_hold_all, encoded, join}
use Rattle.layout_write.specs.Put.{total}
use Rattle.layout_write.proofs.Held.{both}
use Rattle.layout_write.proofs.Rows.{Narrow}
use Rattle.round_trip.proofs.Codes.{encoded-lt, decoded-back, read-field}

-- The bits of n stand before those of the fields.
join-high : (n : ℕ) (fs : List FieldForm) (zs : List ℤ) → can_hold_all fs zs ≡ true → join n fs zs ≡ n * 2 ^ total fs + join 0 fs zs
join-high n [] zs h = omega arith
join-high n (f ∷ fs) [] h = absurd (true≢false (sym h))
join-high n (f ∷ fs) (z ∷ zs) h =
    let w = f.bits in
    let v = encoded f.coding w z in
    let t = total fs in
    let k = (both (can_hold f z) (can_hold_all fs zs) h).1 in
    rw (join-high (n * 2 ^ w + v) fs zs k, join-high (0 * 2 ^ w + v) fs zs k, pow-add 2 w t, ← mul_assoc n (2 ^ w) (2 ^ t), add-mul (n * 2 ^ w) v (2 ^ t))
    (omega (arith, add-mul (0 * 2 ^ w) v (2 ^ t)))

pub joined-lt : (fs : List FieldForm) → Narrow fs → (zs : List ℤ) → can_hold_all fs zs ≡ true → join 0 fs zs < 2 ^ total fs
joined-lt [] n zs h = omega arith
joined-lt (f ∷ fs) n [] h = absurd (true≢false (sym h))
joined-lt (f ∷ fs) n (z ∷ zs) h =
    let w = f.bits in
    let v = encoded f.coding w z in
    let b = both (can_hold f z) (can_hold_all fs zs) h in
    let here : 0 * 2 ^ w + v < 2 ^ w = omega (arith, encoded-lt w n.0.0 z f.coding b.0) in
    rw (join-high (0 * 2 ^ w + v) fs zs b.1) (join-lt (0 * 2 ^ w + v) (join 0 fs zs) w (total fs) here (joined-lt fs n.1 zs b.1))

pub split-join : (fs : List FieldForm) → Narrow fs → (zs : List ℤ) → can_hold_all fs zs ≡ true → (s : List ℕ) (p : ℕ) → field_at s p (total fs) ≡ join 0 fs zs → split fs s p ≡ zs
split-join [] n [] h s p e = refl
split-join [] n (z ∷ zs) h s p e = absurd (true≢false (sym h))
split-join (f ∷ fs) n [] h s p e = absurd (true≢false (sym h))
split-join (f ∷ fs) n (z ∷ zs) h s p e =
    let w = f.bits in
    let v = encoded f.coding w z in
    let t = total fs in
    let b = both (can_hold f z) (can_hold_all fs zs) h in
    let same : field_at s p w * 2 ^ t + field_at s (p + w) t ≡ (0 * 2 ^ w + v) * 2 ^ t + join 0 fs zs =
    sym (field-split s p w t) ∙ e ∙ join-high (0 * 2 ^ w + v) fs zs b.1 in
    let less = joined-lt fs n.1 zs b.1 in
    let first : field_at s p w ≡ 0 * 2 ^ w + v =
    sym (high (field_at s p w) t (field_lt s (p + w) t)) ∙ ap (λ (m : ℕ). m / 2 ^ t) same ∙ high (0 * 2 ^ w + v) t less in
    let rest : field_at s (p + w) t ≡ join 0 fs zs =
    sym (low (field_at s p w) t (field_lt s (p + w) t)) ∙ ap (λ (m : ℕ). m % 2 ^ t) same ∙ low (0 * 2 ^ w + v) t less in
    ap₂ ◌∷◌ (decoded-back w n.0.0 z f.coding b.0 s p (omega (arith, first))) (split-join fs n.1 zs b.1 s (p + w) rest)

pub held-split : (fs : List FieldForm) → Narrow fs → (s : List ℕ) (p : ℕ) → can_hold_all fs (split fs s p) ≡ true
held-split [] n s p = refl
held-split (f ∷ fs) n s p = rw ((read-field s p f.bits n.0.0 f.coding).held, held-split fs n.1 s (p + f.bits)) refl

pub join-split : (fs : List FieldForm) → Narrow fs → (n : ℕ) (s : List ℕ) (p : ℕ) → join n fs (split fs s p) ≡ n * 2 ^ total fs + field_at s p (total fs)
unfolding field_at
join-split [] a n s p = omega arith
join-split (f ∷ fs) a n s p =
    let w = f.bits in
    let v = field_at s p w in
    let t = total fs in
    rw ((read-field s p w a.0.0 f.coding).bits, join-split fs a.1 (n * 2 ^ w + v) s (p + w), field-split s p w t, pow-add 2 w t, ← mul_assoc n (2 ^ w) (2 ^ t), add-mul (n * 2 ^ w) v (2 ^ t))
    (omega arith)
