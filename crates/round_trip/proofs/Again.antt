-- What is read is written again: over any layout that a writer can take.
--     file-again     the file of what was read is the file
--     asked-again    and what was read may be written
-- Assumes nothing.
use borrow.Author.Tests.{le-leb, eq-eqb, eqb-true}
use mathlib.Core.Bool.{true, and-eq-true_iff}
use mathlib.Core.List.{List, ◌++◌}
use mathlib.Core.Path.{◌≡◌, refl, sym, ap, ap₂, ◌∙◌}
use Prim.Native.Nat.{ℕ, ◌+◌, ◌*◌, ◌%◌, ◌<◌, ◌≤◌}
use native.Mathlib.Omega.{arith}
use lib.IntN.{ℤ, pos}
use lib.ListN.{length, get_or, take, drop, length-drop}
use lib.Seq.{take_at, take_all, take-add, get_or-drop}
use lib.Signed.{lt_z}
use Rattle.bits.specs.Field.{field_at, bytes_of}
use Rattle.bits.proofs.Pens.{bytes-field}
use Rattle.refusal.specs.Questions.{answered, of_each}
use Rattle.refusal.specs.Inner.{passed, asked}
use Rattle.refusal.proofs.Asking.{first-append, both-passed, passed-head, each-passed}
use Rattle.layout.specs.declared.Layout.{Layout}
use Rattle.layout.specs.Layout.{FieldForm, header_fields, record_fields, record_start, split}
use Rattle.layout.specs.Values.{header_from, header_in, reserved_in, from_record, record_in, kind_in}
use Rattle.frame.specs.Questions.{extent_fits, header_questions, kind_question, questions_by}
use Rattle.numbers.specs.Numbers.{record_numbers}
use Rattle.layout_write.specs.Writing.{can_hold_all, join, header_bytes, record_bytes}
use Rattle.layout_write.specs.declared.WritableLayout.{WritableLayout}
use Rattle.layout_write.specs.Put.{total}
use Rattle.layout_write.proofs.Rows.{Narrow, header-narrow, record-narrow}
use Rattle.writable.specs.Fits.{triangle_numbers, triangle_fits, header_fits}
use Rattle.writable.proofs.All.{all_of}
use Rattle.frame_write.specs.declared.GridValues.{GridValues}
use Rattle.frame_write.specs.Write.{header_to_write, triangle_count, records_bytes, file_bytes, write_questions}
use Rattle.frame_write.proofs.Pieces.{length-pieces, piece-room, piece-at, pieces-same}
use Rattle.round_trip.specs.RoundTrip.{grid_values_of, records_numbers}
use Rattle.round_trip.proofs.Joined.{join-split, held-split}
use Rattle.round_trip.proofs.Files.{pieces-cut}

-- The bytes of what bytes were split into.
bytes-again : (fs : List FieldForm) → Narrow fs → (len : ℕ) → total fs ≡ len * 8 → (t : List ℕ) → ((i : ℕ) → get_or t i 0 < 256) → len ≤ length t
    → bytes_of len (join 0 fs (split fs t 0)) ≡ take len t
bytes-again fs narrow len whole t bytes room =
    let number : join 0 fs (split fs t 0) ≡ field_at t 0 (len * 8) = join-split fs narrow 0 t 0 ∙ rw whole (omega arith) in
    ap (bytes_of len) number ∙ bytes-field t bytes len room

module _ (w : WritableLayout) (s : List ℕ) (bytes : (i : ℕ) → get_or s i 0 < 256) (ok : asked (questions_by w.shape (header_in w.shape s) s) ≡ passed) where
  abbrev l : Layout
  l = w.shape

  abbrev n : ℕ
  n = (header_in l s).count

  abbrev g : GridValues
  g = grid_values_of (header_in l s)

  abbrev zs : List ℤ
  zs = records_numbers l s n

  -- ---- what the questions said
  record Passed : Type 0 where
    pub version : (header_in l s).version ≡ 1
    pub edge : lt_z (pos 0) (header_in l s).grid.edge ≡ true
    pub reserved : reserved_in l s ≡ 0
    pub extent : extent_fits l.farthest (header_in l s).grid ≡ true
    pub whole : length s ≡ record_start l n
    pub kinds : (i : ℕ) → i < n → (kind_question l s i).holds ≡ true

  passes : Passed
  passes =
      let parts = both-passed _ _ (sym (first-append tt (header_questions l (header_in l s) s) (of_each (kind_question l s) n)) ∙ ok) in
      let q2 = passed-head tt _ _ (passed-head tt _ _ parts.0).1 in
      let q3 = passed-head tt _ _ q2.1 in
      let q4 = passed-head tt _ _ q3.1 in
      let q5 = passed-head tt _ _ q4.1 in
      let q6 = passed-head tt _ _ q5.1 in
      record {
        version = eqb-true _ _ q2.0;
        edge = q3.0;
        reserved = eqb-true _ _ q4.0;
        extent = q5.0;
        whole = eqb-true _ _ q6.0;
        kinds = each-passed (kind_question l s) n parts.1;
      }

  -- ---- the header
  header-numbers : header_to_write g n ≡ split (header_fields l) s 0
  unfolding header_in reserved_in
  header-numbers = rw (passes.version, passes.reserved) refl

  header-again : header_bytes l (header_to_write g n) ≡ take l.header s
  unfolding header_bytes
  header-again =
      ap (λ (ns : List ℤ). bytes_of l.header (join 0 (header_fields l) ns)) header-numbers
      ∙ bytes-again (header_fields l) (header-narrow l) l.header w.header_full s bytes (omega (arith, passes.whole))

  -- ---- the records
  abbrev numbers : ℕ → List ℤ
  numbers i = record_numbers (record_in l (from_record l s i))

  numbers-are : (i : ℕ) → numbers i ≡ split (record_fields l) (from_record l s i) 0
  unfolding record_in
  numbers-are i = refl

  counted : length zs ≡ 10 * n
  counted = length-pieces numbers 10 (λ i. refl) n

  count-again : triangle_count zs ≡ n
  count-again = omega (arith, counted)

  triangle-again : (i : ℕ) → i < n → triangle_numbers zs i ≡ split (record_fields l) (from_record l s i) 0
  triangle-again i h =
      let p = piece-at numbers 10 (λ j. refl) n i h in
      ap (λ (m : ℕ). take 10 (drop m zs)) {x = i * 10} {y = 10 * i} (omega arith)
      ∙ ap (take 10) p.is ∙ take_at (numbers i) p.rest 10 refl ∙ numbers-are i

  record-again : (i : ℕ) → i < n → record_bytes l (triangle_numbers zs i) ≡ take l.stride (drop (l.header + l.stride * i) s)
  unfolding record_bytes
  record-again i h =
      let from = from_record l s i in
      let room : l.stride ≤ length from = rw (length-drop (record_start l i) s) (omega (arith, piece-room l.header l.stride i n {len = length s} h (omega (arith, passes.whole)))) in
      ap (λ (ts : List ℤ). bytes_of l.stride (join 0 (record_fields l) ts)) (triangle-again i h)
      ∙ bytes-again (record_fields l) (record-narrow l) l.stride w.record_full from (λ j. rw (get_or-drop (record_start l i) s j 0) (bytes (record_start l i + j))) room

  pub file-again : file_bytes l g zs ≡ s
  file-again =
      let h = l.header in
      let k = l.stride in
      ap (λ (m : ℕ). header_bytes l (header_to_write g m) ++ records_bytes l zs m) count-again
      ∙ ap₂ ◌++◌ header-again (pieces-same (λ i. record_bytes l (triangle_numbers zs i)) (λ i. take k (drop (h + k * i) s)) n record-again ∙ pieces-cut h k s n)
      ∙ sym (take-add h (k * n) s) ∙ take_all (h + k * n) s (omega (arith, passes.whole))

  -- ---- the writer's questions
  header-fits : header_fits l (header_to_write g n) ≡ true
  header-fits =
      let ns = header_to_write g n in
      let held : can_hold_all (header_fields l) ns ≡ true = ap (can_hold_all (header_fields l)) header-numbers ∙ held-split (header_fields l) (header-narrow l) s 0 in
      (and-eq-true_iff (can_hold_all (header_fields l) ns) _).1
      (held, (and-eq-true_iff (lt_z (pos 0) g.edge) (extent_fits l.farthest (header_from ns).grid)).1 (passes.edge, passes.extent))

  triangles-fit : (i : ℕ) → i < n → triangle_fits l (triangle_numbers zs i) ≡ true
  unfolding kind_in
  triangles-fit i h =
      ap (triangle_fits l) (triangle-again i h)
      ∙ (and-eq-true_iff (can_hold_all (record_fields l) (split (record_fields l) (from_record l s i) 0)) _).1
      (held-split (record_fields l) (record-narrow l) (from_record l s i) 0, passes.kinds i h)

  pub asked-again : (room : ℕ) → length s ≤ room → asked (write_questions l g zs room) ≡ passed
  unfolding answered
  asked-again room h =
      rw (
        count-again,
        header-fits,
        eq-eqb (length zs % 10) 0 (omega (arith, counted)),
        all_of (λ i. triangle_fits l (triangle_numbers zs i)) n triangles-fit,
        le-leb (record_start l n) room (omega (arith, passes.whole)),
      )
      refl
