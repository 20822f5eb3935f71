-- The fields of a header or of a record, put one behind the other.
--     Row           the first k numbers have been put
--     next          so number k can be put
--     row_done      all have been put: the bytes are those of the numbers
--     header-narrow, record-narrow   no field is too wide for a pen
--     version1-writable              a writer can take the layout of version 1
-- Assumes nothing.
use mathlib.Core.Bool.{true}
use mathlib.Core.List.{List, [], ◌∷◌}
use mathlib.Core.Path.{◌≡◌, refl, sym, ap, ap₂, ◌∙◌, subst}
use Prim.Native.Nat.{ℕ, zero, suc, ◌+◌, ◌*◌, ◌<◌, ◌≤◌}
use native.Mathlib.Nat.{add-zero, add_assoc, zero-add}
use native.Mathlib.Omega.{arith}
use lib.Dec.{lit≤}
use lib.IntN.{ℤ}
use lib.ListN.{length, get_or, take}
use lib.Seq.{take-length}
use Rattle.bits.specs.declared.Pen.{Pen}
use Rattle.bits.specs.Field.{bytes_of}
use Rattle.layout.specs.declared.Layout.{Layout}
use Rattle.layout.specs.Layout.{FieldForm, field, plain, version1, header_fields, record_fields}
use Rattle.layout_write.specs.declared.WritableLayout.{WritableLayout}
use Rattle.layout_write.specs.Writing.{can_hold_all, join}
use Rattle.layout_write.specs.Put.{total, Puttable}
use Rattle.layout_write.proofs.Held.{held-length, held_at, span, spread}
use Rattle.layout_write.proofs.Penned.{Penned, puttable, penned-all}

-- The bits of n and of fields, in the order in which they are put.
abbrev pub bits_behind : ℕ → List FieldForm → ℕ
bits_behind n [] = n
bits_behind n (f ∷ fs) = bits_behind (n + f.bits) fs

bits-total : (n : ℕ) (fs : List FieldForm) → bits_behind n fs ≡ n + total fs
bits-total n [] = sym (add-zero n)
bits-total n (f ∷ fs) = bits-total (n + f.bits) fs ∙ add_assoc n f.bits (total fs)

bits-next : (n : ℕ) (fs : List FieldForm) (k : ℕ) → k < length fs → bits_behind n (take k fs) + (get_or fs k (field plain 0)).bits ≤ n + total fs
bits-next n [] k h = absurd (omega arith)
bits-next n (f ∷ fs) zero h = omega arith
bits-next n (f ∷ fs) (suc k) h = omega (arith, bits-next (n + f.bits) fs k (omega arith))

-- Each field has 1 to 25 bits.
abbrev pub Narrow : List FieldForm → Type 0
Narrow [] = Unit {0}
Narrow (f ∷ fs) = ((1 ≤ f.bits) × (f.bits ≤ 25)) × Narrow fs

narrow_at : (fs : List FieldForm) → Narrow fs → (k : ℕ) → k < length fs → let w = (get_or fs k (field plain 0)).bits in (1 ≤ w) × (w ≤ 25)
narrow_at [] n k h = absurd (omega arith)
narrow_at (f ∷ fs) n zero h = n.0
narrow_at (f ∷ fs) n (suc k) h = narrow_at fs n.1 k (omega arith)

abbrev pub Row : List FieldForm → List ℤ → (len k : ℕ) → List ℕ → Pen → Type 0
Row fs ns len k s p = Penned (bits_behind 0 (take k fs)) (join 0 (take k fs) (span ns 0 k)) s len p

module _ (fs : List FieldForm) (ns : List ℤ) (len : ℕ) (narrow : Narrow fs) (whole : total fs ≡ len * 8) (held : can_hold_all fs ns ≡ true) where
  pub next : (k : ℕ) {s : List ℕ} {p : Pen} → k < length fs → Row fs ns len k s p → Puttable s p (get_or fs k (field plain 0)) ns k
  next k h r =
      let w = narrow_at fs narrow k h in
      puttable r (get_or fs k (field plain 0)) w.0 w.1 (omega (arith, bits-next 0 fs k h, whole)) (omega (arith, held-length fs ns held)) (held_at fs ns held k h)

  pub row_done : {s : List ℕ} {p : Pen} → Row fs ns len (length fs) s p → ((i : ℕ) → get_or s i 0 < 256) → s ≡ bytes_of len (join 0 fs ns)
  row_done {s} {p} r bytes =
      let all = take-length fs in
      let bits : bits_behind 0 (take (length fs) fs) ≡ len * 8 = ap (bits_behind 0) all ∙ bits-total 0 fs ∙ zero-add (total fs) ∙ whole in
      let number : join 0 (take (length fs) fs) (span ns 0 (length fs)) ≡ join 0 fs ns =
      ap₂ (join 0) all (sym (spread ns (length fs) (held-length fs ns held))) in
      penned-all (subst (λ (K : ℕ). Penned K (join 0 fs ns) s len p) bits (subst (λ (N : ℕ). Penned (bits_behind 0 (take (length fs) fs)) N s len p) number r)) bytes

module _ (l : Layout) where
  coordinate : (1 ≤ l.coordinate) × (l.coordinate ≤ 25)
  coordinate = (l.coordinate_some, l.coordinate_most)

  six : (1 ≤ 6) × (6 ≤ 25)
  six = (lit≤ tt, lit≤ tt)

  twelve : (1 ≤ 12) × (12 ≤ 25)
  twelve = (lit≤ tt, lit≤ tt)

  pub header-narrow : Narrow (header_fields l)
  header-narrow =
      ((lit≤ tt, lit≤ tt), (six, (six, (six, ((l.edge_some, l.edge_most), (coordinate, (coordinate, (coordinate, (twelve, (twelve, tt))))))))))

  pub record-narrow : Narrow (record_fields l)
  record-narrow =
      ((lit≤ tt, lit≤ tt), (coordinate, (coordinate, (coordinate, (coordinate, (coordinate, (coordinate, (coordinate, (coordinate, (coordinate, tt))))))))))

abbrev pub version1-writable : WritableLayout
version1-writable = record { shape = version1; header_full = refl; record_full = refl; kind_held = lit≤ tt }
