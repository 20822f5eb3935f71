-- The numbers that a plain reading puts out are small. Assumes nothing.
use mathlib.Core.Bool.{Bool, true, false, cond}
use mathlib.Core.List.{List, [], ◌∷◌}
use mathlib.Core.Path.{◌≡◌, refl, sym, subst}
use Prim.Native.Nat.{ℕ, ◌^◌, ◌<◌}
use native.Mathlib.Omega.{arith}
use lib.Dec.{ltb, lit≤}
use lib.IntN.{ℤ, pos}
use Rattle.integers.specs.Within.{Within}
use Rattle.integers.proofs.Bounds.{within-weaken}
use Rattle.geometry.specs.declared.Point.{Point}
use Rattle.geometry.specs.Bounds.{PointWithin}
use Rattle.refusal.specs.Limit.{Answer, gives, refused}
use Rattle.layout.specs.declared.Header.{Header}
use Rattle.layout.specs.Layout.{version1}
use Rattle.layout.specs.Values.{from_record}
use Rattle.layout.proofs.Bounds.{kind-lt, record-within}
use Rattle.frame.specs.File.{record_of}
use Rattle.std.specs.Prelude.{Option, Some, None}
use Rattle.layout.specs.declared.Record.{Record}
use Rattle.frame.specs.declared.Reading.{Reading}
use Rattle.frame.specs.Questions.{checked, reading}
use Rattle.frame.proofs.Accepted.{AcceptedFile, accepted, reading-refused, reading-accepted}
use Rattle.numbers.specs.Numbers.{header_numbers, record_numbers}
use Rattle.numbers.specs.Inner.{Small}

-- the numbers of a point, and a natural number
coordinate : {z : ℤ} → Within (2 ^ 13) z → Within (2 ^ 24) z
coordinate h = within-weaken (lit≤ tt) h

natural : {n : ℕ} → n < 4096 → Within (2 ^ 24) (pos n)
natural h = record { within = omega arith }

infixr 4 ◌&◌
◌&◌ : {A B : Type 0} → A → B → A × B
a & b = (a, b)

point-small : {p : Point} (zs : List ℤ) → PointWithin (2 ^ 13) p → Small zs → Small (p.x ∷ p.y ∷ p.z ∷ zs)
point-small zs h r = coordinate h.x & coordinate h.y & coordinate h.z & r

pub accepted-small : {s : List ℕ} {h : Header} → AcceptedFile s h → Small (header_numbers h)
accepted-small {h = h} a =
    let g = a.grid.within in
    natural (omega (arith, a.version)) & natural (omega (arith, g.x.most)) & natural (omega (arith, g.y.most)) & natural (omega (arith, g.z.most))
    & within-weaken (lit≤ tt) g.edge & point-small (pos h.count ∷ []) g.origin (natural a.count & tt)

pub record-small : (s : List ℕ) (i : ℕ) → Small (record_numbers (record_of s i))
record-small s i =
    let w = record-within (from_record version1 s i) in
    let t = (record_of s i).triangle in
    let last = t.v2.x ∷ t.v2.y ∷ t.v2.z ∷ [] in
    natural (omega (arith, kind-lt (from_record version1 s i)))
    & point-small (t.v1.x ∷ t.v1.y ∷ t.v1.z ∷ last) w.v0 (point-small last w.v1 (point-small [] w.v2 tt))

-- The numbers of an answer are small, those of the header and those of the record.
abbrev pub SmallFound : Option Record → Type 0
SmallFound (Some r) = Small (record_numbers r)
SmallFound None = Unit {0}

abbrev pub SmallReading : Answer Reading → Type 0
SmallReading (gives c) = Small (header_numbers c.header) × SmallFound c.found
SmallReading (refused n p) = Unit {0}

pub small-reading : (s : List ℕ) (i : ℕ) → SmallReading (reading s i)
small-reading s i = go (checked s) refl
  where
    at : (b : Bool) → SmallFound (cond b (Some (record_of s i)) None)
    at true = record-small s i
    at false = tt

    go : (c : Answer Header) → checked s ≡ c → SmallReading (reading s i)
    go (refused n p) e = subst SmallReading (sym (reading-refused s i e)) tt
    go (gives h) e = subst SmallReading (sym (reading-accepted s i h e)) (accepted-small (accepted s h e), at (ltb i h.count))
