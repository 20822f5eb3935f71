-- What is written is read: over any layout that a writer can take.
--     each_all         the same question of each item is answered yes
--     written-reads    a written file is accepted, and has the values given
-- Assumes nothing.
use borrow.Author.Tests.{le-leb, eq-eqb, lt-ltb}
use mathlib.Core.Bool.{true, and-eq-true_iff}
use mathlib.Core.List.{List, ◌∷◌, ◌++◌}
use mathlib.Core.Path.{◌≡◌, refl, sym, ap, ap₂, ◌∙◌, subst}
use Prim.Native.Nat.{ℕ, zero, suc, ◌+◌, ◌*◌, ◌^◌, ◌<◌}
use native.Mathlib.Numerals.{add-one}
use native.Mathlib.Omega.{arith}
use lib.Dec.{ltb, lit<}
use lib.IntN.{ℤ, pos, nat_abs}
use lib.ListN.{length, get_or, take, drop, length-append}
use lib.Seq.{drop-drop, drop_at, take_all}
use lib.Signed.{lt_z}
use Rattle.integers.proofs.Omega.{zarith, -!, abs! }
use Rattle.bits.specs.Field.{field_at, bytes_of}
use Rattle.refusal.specs.Questions.{Question, answered, of_each}
use Rattle.refusal.specs.Inner.{passed, asked}
use Rattle.refusal.proofs.Asking.{first-append, passes, each_none, each_more}
use Rattle.layout.specs.declared.Header.{Header}
use Rattle.layout.specs.declared.Layout.{Layout}
use Rattle.layout.specs.Layout.{FieldForm, field, less_one, header_fields, record_fields, record_start, split}
use Rattle.layout.specs.Values.{number_at, natural_at, header_from, record_from, header_in, reserved_in, from_record, record_in, kind_in}
use Rattle.frame.specs.Questions.{extent_fits, header_questions, kind_question, questions_by}
use Rattle.numbers.specs.Numbers.{record_numbers}
use Rattle.layout_write.specs.Writing.{can_hold, can_hold_all, join, header_bytes, record_bytes}
use Rattle.layout_write.specs.declared.WritableLayout.{WritableLayout}
use Rattle.layout_write.specs.Put.{total}
use Rattle.layout_write.proofs.Held.{held-length, held_at, plain-held, less-one-held, span, spread}
use Rattle.layout_write.proofs.Rows.{Narrow, header-narrow, record-narrow}
use Rattle.writable.specs.Fits.{triangle_numbers}
use Rattle.writable.proofs.All.{all-at}
use Rattle.frame_write.specs.declared.GridValues.{GridValues}
use Rattle.frame_write.specs.Write.{header_to_write, triangle_count, records_bytes, file_bytes}
use Rattle.frame_write.proofs.Asked.{Admitted}
use Rattle.frame_write.proofs.Pieces.{length-pieces, length-header, length-record, piece-at, pieces-same}
use Rattle.round_trip.specs.RoundTrip.{grid_values_of, records_numbers, Reads}
use Rattle.round_trip.proofs.Joined.{joined-lt, split-join}
use Rattle.round_trip.proofs.Files.{field-bytes, pieces-cut}

pub each_all : (q : ℕ → Question) (n : ℕ) → ((i : ℕ) → i < n → (q i).holds ≡ true) → asked (of_each q n) ≡ passed
each_all q zero f = each_none q
each_all q (suc n) f =
    ap (λ (m : ℕ). asked (of_each q m)) (sym (add-one n)) ∙ each_more q n (each_all q n (λ i l. f i (omega arith))) (f n (omega arith))

-- Numbers that were joined and put out as bytes are what the bytes are split into.
split-bytes : (fs : List FieldForm) → Narrow fs → (len : ℕ) → total fs ≡ len * 8 → (ns : List ℤ) → can_hold_all fs ns ≡ true
    → {s : List ℕ} (rest : List ℕ) → s ≡ bytes_of len (join 0 fs ns) ++ rest → split fs s 0 ≡ ns
split-bytes fs narrow len whole ns held {s} rest e =
    let less : join 0 fs ns < 2 ^ (len * 8) = subst (λ (t : ℕ). join 0 fs ns < 2 ^ t) whole (joined-lt fs narrow ns held) in
    split-join fs narrow ns held s 0 (ap₂ (λ (t : List ℕ) (w : ℕ). field_at t 0 w) e whole ∙ field-bytes len (join 0 fs ns) rest less)

module _ (w : WritableLayout) (g : GridValues) (zs : List ℤ) (room : ℕ) (a : Admitted w.shape g zs room) where
  abbrev l : Layout
  l = w.shape

  abbrev n : ℕ
  n = triangle_count zs

  abbrev ns : List ℤ
  ns = header_to_write g n

  abbrev s : List ℕ
  s = file_bytes l g zs

  abbrev bytes : ℕ → List ℕ
  bytes i = record_bytes l (triangle_numbers zs i)

  sized : (i : ℕ) → length (bytes i) ≡ l.stride
  sized i = length-record l (triangle_numbers zs i)

  pub file-length : length s ≡ record_start l n
  file-length = length-append (header_bytes l ns) (records_bytes l zs n) ∙ omega (arith, length-header l ns, length-pieces bytes l.stride sized n)

  -- ---- the header
  header-split : split (header_fields l) s 0 ≡ ns
  unfolding header_bytes
  header-split = split-bytes (header_fields l) (header-narrow l) l.header w.header_full ns a.held (records_bytes l zs n) refl

  header_is : header_in l s ≡ header_from ns
  unfolding header_in
  header_is = ap header_from header-split

  reserved-is : reserved_in l s ≡ 0
  unfolding reserved_in
  reserved-is = ap (λ (t : List ℤ). natural_at t 9) header-split

  -- ---- the records
  fits : (i : ℕ) → i < n → (can_hold_all (record_fields l) (triangle_numbers zs i) ≡ true) × (lt_z (number_at (triangle_numbers zs i) 0) (pos 3) ≡ true)
  fits i h = (and-eq-true_iff (can_hold_all (record_fields l) (triangle_numbers zs i)) (lt_z (number_at (triangle_numbers zs i) 0) (pos 3))).0 (all-at _ n a.triangles i h)

  record-split : (i : ℕ) → i < n → split (record_fields l) (from_record l s i) 0 ≡ triangle_numbers zs i
  unfolding record_bytes
  record-split i h =
      let k = l.stride in
      let p = piece-at bytes k sized n i h in
      let behind : from_record l s i ≡ drop (k * i) (records_bytes l zs n) =
      sym (drop-drop (k * i) l.header s) ∙ ap (drop (k * i)) (drop_at (header_bytes l ns) (records_bytes l zs n) l.header (length-header l ns)) in
      split-bytes (record_fields l) (record-narrow l) k w.record_full (triangle_numbers zs i) (fits i h).0 p.rest (behind ∙ p.is)

  abbrev z0 : ℕ → ℤ
  z0 i = get_or (triangle_numbers zs i) 0 (pos 0)

  -- a kind is not negative, and below 3
  kind-held : (i : ℕ) → i < n → pos (nat_abs (z0 i)) ≡ z0 i
  kind-held i h = omega (zarith, (plain-held 2 (z0 i) (held_at (record_fields l) (triangle_numbers zs i) (fits i h).0 0 (lit< tt))).some, abs! (z0 i))

  record-numbers : (i : ℕ) → i < n → record_numbers (record_in l (from_record l s i)) ≡ triangle_numbers zs i
  unfolding record_in
  record-numbers i h =
      let ts = triangle_numbers zs i in
      ap (λ (t : List ℤ). record_numbers (record_from t)) (record-split i h)
      ∙ ap (λ (z : ℤ). z ∷ span ts 1 9) (kind-held i h)
      ∙ sym (spread ts 10 (held-length (record_fields l) ts (fits i h).0))

  kind-below : (i : ℕ) → i < n → ltb (kind_in l (from_record l s i)) 3 ≡ true
  unfolding kind_in
  kind-below i h =
      ap (λ (t : List ℤ). ltb (natural_at t 0) 3) (record-split i h)
      ∙ lt-ltb (nat_abs (z0 i)) 3 (omega (zarith, (fits i h).1, kind-held i h))

  -- ---- the questions
  edge-and-extent : (lt_z (pos 0) g.edge ≡ true) × (extent_fits l.farthest (header_from ns).grid ≡ true)
  edge-and-extent =
      (and-eq-true_iff (lt_z (pos 0) g.edge) (extent_fits l.farthest (header_from ns).grid)).0
      ((and-eq-true_iff (can_hold_all (header_fields l) ns) _).0 a.header).1

  header-passes : asked (header_questions l (header_from ns) s) ≡ passed
  unfolding answered
  header-passes =
      rw (
        le-leb l.header (length s) (omega (arith, file-length)),
        edge-and-extent.0,
        eq-eqb (reserved_in l s) 0 reserved-is,
        edge-and-extent.1,
        eq-eqb (length s) (record_start l n) file-length,
      )
      refl

  questions-pass : asked (questions_by l (header_from ns) s) ≡ passed
  questions-pass =
      first-append tt (header_questions l (header_from ns) s) (of_each (kind_question l s) n)
      ∙ rw (header-passes, each_all (kind_question l s) n kind-below) refl

  -- ---- the grid
  cells : (z : ℤ) → can_hold (field less_one 6) z ≡ true → pos (nat_abs z) ≡ z
  cells z h = omega (zarith, (less-one-held 6 z h).some, -! z (pos 1), abs! z)

  grid-is : grid_values_of (header_from ns) ≡ g
  grid-is =
      let held = held_at (header_fields l) ns a.held in
      λ i. record {
        nx = cells g.nx (held 1 (lit< tt)) i;
        ny = cells g.ny (held 2 (lit< tt)) i;
        nz = cells g.nz (held 3 (lit< tt)) i;
        edge = g.edge;
        x = g.x;
        y = g.y;
        z = g.z;
      }

  -- ---- all numbers
  numbers-are : records_numbers l s n ≡ zs
  numbers-are =
      let piece : (i : ℕ) → i < n → record_numbers (record_in l (from_record l s i)) ≡ take 10 (drop (0 + 10 * i) zs) =
      λ i h. record-numbers i h ∙ ap (λ (m : ℕ). take 10 (drop m zs)) {x = i * 10} {y = 0 + 10 * i} (omega arith) in
      pieces-same (λ i. record_numbers (record_in l (from_record l s i))) (λ i. take 10 (drop (0 + 10 * i) zs)) n piece
      ∙ pieces-cut 0 10 zs n ∙ take_all (10 * n) zs (omega (arith, a.whole))

  pub written-reads : Reads l g zs s
  written-reads =
      record {
        accepted = passes (header_in l s) (questions_by l (header_in l s) s) (ap (λ (h : Header). asked (questions_by l h s)) header_is ∙ questions-pass);
        grid = ap grid_values_of header_is ∙ grid-is;
        numbers = ap (λ (h : Header). records_numbers l s h.count) header_is ∙ numbers-are;
      }
