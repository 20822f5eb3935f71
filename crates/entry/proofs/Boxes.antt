-- The entry fractions of a lattice's boxes, as the functions compute them: they are those of the definition, and their numbers stay within the bounds that the
-- types have. The denominators are positive.
--     entry-on, entry-is                                of box i on an axis, and of the box of cell (i, j, k): what is computed is the entry fraction
--     entries-bounded                                   how a leg comes to the boxes
--     start-bounded, by-bounded, later-bounded          0, the fraction on an axis, the greater of two
--     layer-bounded, row-bounded, at-bounded            the fractions of a layer, of a row and of a cell
--     start-positive, by-positive                       the denominators of 0 and of the fraction on an axis
--     layer-positive, row-positive, at-positive         of the greater of 0 and z's; of these and y's; of these and x's
-- Assumes nothing.
use mathlib.Core.Bool.{Bool, true, false, cond}
use mathlib.Core.List.{List, [], ◌∷◌}
use mathlib.Core.Path.{◌≡◌, refl, ap}
use Prim.Native.Nat.{ℕ, ◌≤◌}
use lib.Dec.{lit≤}
use lib.IntN.{ℤ, pos, neg_ℤ, ◌+ℤ◌, ◌-ℤ◌, ◌*ℤ◌}
use lib.Signed.{lt_z}
use Rattle.integers.specs.Within.{Within}
use Rattle.integers.proofs.Omega.{zarith, -! }
use Rattle.integers.proofs.Expr.{var, num, neg, ◌⊕◌, ◌⊖◌, ◌⊗◌}
use Rattle.integers.proofs.Ring.{ring}
use Rattle.integers.proofs.Bounds.{within-add, within-sub, within-mul, within-neg, within-weaken}
use Rattle.geometry.specs.Bounds.{coordinate_max, step_max, extent_max, index_max, BoundedPoint}
use Rattle.geometry.specs.declared.Point.{Point}
use Rattle.geometry.specs.Geometry.{cube}
use Rattle.grid.specs.declared.Lattice.{Lattice}
use Rattle.grid.specs.Grid.{box_corner}
use Rattle.grid.specs.Usable.{UsableLattice}
use Rattle.entry.specs.declared.Fraction.{Fraction}
use Rattle.entry.specs.declared.AxisEntry.{AxisEntry}
use Rattle.entry.specs.declared.Entries.{Entries}
use Rattle.entry.specs.Parts.{BoundedRatio, BoundedApproach}
use Rattle.entry.specs.Entry.{over, later, entry_on, entry}
use Rattle.entry.specs.Inner.{axis_entry, axis_entry_of, entries_of, entry_by, layer_entry, row_entry, entry_at, BoundedEntries, Positive}
use Rattle.entry.proofs.Fractions.{later-ind}

-- ---- the fractions are those of the definition
module _ (a b first step extent : ℤ) (i : ℕ) where
  abbrev p : ℤ
  p = first +ℤ pos i *ℤ step

  abbrev numbers : List ℤ
  numbers = a ∷ first ∷ step ∷ extent ∷ pos i ∷ []

  pub entry-on : entry_by (axis_entry_of a b first step extent) i ≡ entry_on a b (first +ℤ pos i *ℤ step) extent
  unfolding axis_entry_of entry_on
  entry-on = go (lt_z a b) (lt_z b a)
    where
      go : (s t : Bool)
          → entry_by (cond s (axis_entry (first -ℤ a) step (b -ℤ a))
          (cond t (axis_entry (a -ℤ (first +ℤ extent)) (neg_ℤ step) (a -ℤ b)) (axis_entry (pos 0) (pos 0) (pos 1)))) i
          ≡ cond s (over (p -ℤ a) (b -ℤ a)) (cond t (over (a -ℤ (p +ℤ extent)) (a -ℤ b)) (over (pos 0) (pos 1)))
      go true t = ap (λ n. over n (b -ℤ a)) (ring numbers (var 1 ⊖ var 0 ⊕ var 2 ⊗ var 4) (var 1 ⊕ var 4 ⊗ var 2 ⊖ var 0) tt)
      go false true =
          ap (λ n. over n (a -ℤ b)) (ring numbers (var 0 ⊖ (var 1 ⊕ var 3) ⊕ neg (var 2) ⊗ var 4) (var 0 ⊖ (var 1 ⊕ var 4 ⊗ var 2 ⊕ var 3)) tt)
      go false false = ap (λ n. over n (pos 1)) (ring numbers (num 0 ⊕ num 0 ⊗ var 4) (num 0) tt)

pub entry-is : (l : Lattice) (a b : Point) (i j k : ℕ) → entry_at (entries_of l a b) i j k ≡ entry a b (box_corner l i j k) (cube l.extent)
unfolding entry
entry-is l a b i j k =
    let o = l.first in
    let x = entry-on a.x b.x o.x l.step l.extent i in
    let y = entry-on a.y b.y o.y l.step l.extent j in
    let z = entry-on a.z b.z o.z l.step l.extent k in
    λ t. later (later (later (over (pos 0) (pos 1)) (z t)) (y t)) (x t)

-- ---- sizes
module _ {a b first step extent : ℤ} (ha : Within coordinate_max a) (hb : Within coordinate_max b)
    (hf : Within coordinate_max first) (hs : Within step_max step) (hx : Within extent_max extent) where
  axis-bounded : BoundedApproach (axis_entry_of a b first step extent)
  unfolding axis_entry_of
  axis-bounded = go (lt_z a b) (lt_z b a) refl refl
    where
      go : (s t : Bool) → lt_z a b ≡ s → lt_z b a ≡ t
          → BoundedApproach (cond s (axis_entry (first -ℤ a) step (b -ℤ a))
          (cond t (axis_entry (a -ℤ (first +ℤ extent)) (neg_ℤ step) (a -ℤ b)) (axis_entry (pos 0) (pos 0) (pos 1))))
      go true t e f = record {
        num = within-weaken (lit≤ tt) (within-sub hf ha);
        slope = hs;
        den = within-weaken (lit≤ tt) (within-sub hb ha);
        positive = omega (zarith, -! b a);
      }
      go false true e f = record {
        num = within-weaken (lit≤ tt) (within-sub ha (within-add hf hx));
        slope = within-neg hs;
        den = within-weaken (lit≤ tt) (within-sub ha hb);
        positive = omega (zarith, -! a b);
      }
      go false false e f = record {
        num = record { within = lit≤ tt };
        slope = record { within = lit≤ tt };
        den = record { within = lit≤ tt };
        positive = record { lt = tt };
      }

pub entries-bounded : {l : Lattice} {a b : Point} → BoundedPoint a → BoundedPoint b → UsableLattice l → BoundedEntries (entries_of l a b)
entries-bounded ha hb hl =
    let h = hl.first in
    record {
      x = axis-bounded ha.x hb.x h.x hl.step hl.extent;
      y = axis-bounded ha.y hb.y h.y hl.step hl.extent;
      z = axis-bounded ha.z hb.z h.z hl.step hl.extent;
    }

pub start-bounded : BoundedRatio (over (pos 0) (pos 1))
start-bounded = record { num = record { within = lit≤ tt }; den = record { within = lit≤ tt } }

pub by-bounded : {c : AxisEntry} {i : ℕ} → BoundedApproach c → i ≤ index_max → BoundedRatio (entry_by c i)
by-bounded {i = i} h hi = record {
  num = within-weaken (lit≤ tt) (within-add h.num (within-mul {b = pos i} h.slope (record { within = hi })));
  den = within-weaken (lit≤ tt) h.den;
}

pub later-bounded : {f g : Fraction} → BoundedRatio f → BoundedRatio g → BoundedRatio (later f g)
later-bounded {f} {g} h k = later-ind BoundedRatio f g h k

module _ {c : Entries} (h : BoundedEntries c) where
  pub layer-bounded : {k : ℕ} → k ≤ index_max → BoundedRatio (layer_entry c k)
  layer-bounded hk = later-bounded start-bounded (by-bounded h.z hk)

  pub row-bounded : {j k : ℕ} → j ≤ index_max → k ≤ index_max → BoundedRatio (row_entry c j k)
  row-bounded hj hk = later-bounded (layer-bounded hk) (by-bounded h.y hj)

  pub at-bounded : {i j k : ℕ} → i ≤ index_max → j ≤ index_max → k ≤ index_max → BoundedRatio (entry_at c i j k)
  at-bounded hi hj hk = later-bounded (row-bounded hj hk) (by-bounded h.x hi)

-- ---- denominators
pub start-positive : Positive (over (pos 0) (pos 1))
start-positive = record { lt = tt }

pub by-positive : {c : AxisEntry} → BoundedApproach c → (i : ℕ) → Positive (entry_by c i)
by-positive h i = h.positive

module _ {c : Entries} (h : BoundedEntries c) where
  pub layer-positive : (k : ℕ) → Positive (layer_entry c k)
  layer-positive k = later-ind Positive _ _ start-positive (by-positive h.z k)

  pub row-positive : (j k : ℕ) → Positive (row_entry c j k)
  row-positive j k = later-ind Positive _ _ (layer-positive k) (by-positive h.y j)

  pub at-positive : (i j k : ℕ) → Positive (entry_at c i j k)
  at-positive i j k = later-ind Positive _ _ (row-positive j k) (by-positive h.x i)
