-- No two limits say the same: a number and a place lead back to one limit, so what a call says fixes the case of its enum.
--     limit-back   the limit of a number and a place
--     limit-one    limits that say the same are one
-- Assumes nothing.
use mathlib.Core.Bool.{cond}
use mathlib.Core.Path.{◌≡◌, refl, sym, ap₂, ◌∙◌}
use Prim.Native.Nat.{ℕ}
use lib.Dec.{eqb}
use Rattle.refusal.specs.declared.Limit.{Limit}
use Rattle.refusal.specs.declared.Limit.TheVariants.{ShortHeader, Version, ZeroEdge, ReservedBits, Extent, FileLength, UnusedKind, ShortMap, PointCount, PointOutside, ShortOutput, Unwritable, PlyForm, PlyVertex, PlyFace, CellOutside}
use Rattle.refusal.specs.Limit.{Answer, refusal_of, said_limit}

-- Number n where it is asked for, and else another limit.
abbrev is : (n m : ℕ) → Limit → Limit → Limit
is n m l other = cond (eqb n m) l other

abbrev limit_of : (number place : ℕ) → Limit
limit_of n p =
    is n 1 ShortHeader
    (is n 2 Version
    (is n 3 ZeroEdge
    (is n 4 ReservedBits
    (is n 5 Extent
    (is n 6 FileLength
    (is n 7 (UnusedKind p)
    (is n 8 ShortMap
    (is n 9 PointCount
    (is n 10 (PointOutside p)
    (is n 11 ShortOutput
    (is n 12 Unwritable
    (is n 13 PlyForm
    (is n 14 (PlyVertex p)
    (is n 15 (PlyFace p)
    (is n 16 CellOutside ShortHeader)))))))))))))))

pub limit-back : (l : Limit) → limit_of (refusal_of l).number (refusal_of l).place ≡ l
limit-back ShortHeader = refl
limit-back Version = refl
limit-back ZeroEdge = refl
limit-back ReservedBits = refl
limit-back Extent = refl
limit-back FileLength = refl
limit-back (UnusedKind i) = refl
limit-back ShortMap = refl
limit-back PointCount = refl
limit-back (PointOutside m) = refl
limit-back ShortOutput = refl
limit-back Unwritable = refl
limit-back PlyForm = refl
limit-back (PlyVertex k) = refl
limit-back (PlyFace f) = refl
limit-back CellOutside = refl

pub limit-one : {A : Type 0} (l k : Limit) → ◌≡◌ {A = Answer A} (said_limit l) (said_limit k) → l ≡ k
limit-one l k e =
    let number : (refusal_of l).number ≡ (refusal_of k).number = cc in
    let place : (refusal_of l).place ≡ (refusal_of k).place = cc in
    sym (limit-back l) ∙ ap₂ limit_of number place ∙ limit-back k
