-- Each number of a triangle is the whole number nearest to the exact value of the vertex's number, at most half from it.
--     scan-rounds      of a file that gives triangles
--     triangle-only    no other ten numbers are so related to a face
-- Assumes nothing.
use Rattle.std.specs.Prelude.{Result, Ok, Err}
use mathlib.Core.Bool.{true, true≢false}
use mathlib.Core.List.{List}
use mathlib.Core.Path.{◌≡◌, refl, sym, ◌∙◌, subst}
use Prim.Native.Nat.{ℕ, ◌+◌, ◌*◌, ◌<◌}
use native.Mathlib.Omega.{arith}
use borrow.Author.Tests.{eqb-true, ltb-true}
use lib.Ieee.{Float}
use lib.IntN.{ℤ, pos, negsuc, nat_abs}
use lib.ListN.{length}
use lib.Signed.{le_z, lt_z}
use Rattle.refusal.specs.Questions.{of_each}
use Rattle.refusal.specs.Inner.{asked}
use Rattle.refusal.proofs.Asking.{both-passed, first-append, asked-given, each-passed}
use Rattle.layout_write.proofs.Held.{both}
use Rattle.writable.specs.Fits.{triangle_numbers}
use Rattle.rounding.specs.declared.Unrounded.{Unrounded}
use Rattle.rounding.specs.declared.Vertex.{Vertex}
use Rattle.rounding.specs.Rounding.{rounded_of, is_whole, millimetres, Rounds, Says}
use Rattle.rounding.proofs.Meaning.{says}
use Rattle.ply_header.specs.declared.Form.{Form}
use Rattle.ply_vertex.specs.Vertex.{placed}
use Rattle.ply.specs.declared.Corner.{Corner}
use Rattle.ply.specs.Body.{face_place, vertex_of, vertex_question, index_at, is_index, good_face, face_question, corner_of, corner_at, triangle_of, triangle_at}
use Rattle.scan.specs.Scan.{triangles, ply_questions, scanned}
use Rattle.scan.proofs.Triangles.{count-is, whole_is, numbers-are}
use Rattle.scan_words.specs.ScanWords.{IsNearest, CornerFrom, TriangleFrom, ScanRounds}
use Rattle.scan_words.proofs.Rounded.{whole-only}

-- ---- a number, and a vertex
rounds : (x : Float) → is_whole (rounded_of x) ≡ true → Rounds x (millimetres (rounded_of x))
rounds x = go (rounded_of x) (says x)
  where
    go : (r : Result ℤ Unrounded) → Says x r → is_whole r ≡ true → Rounds x (millimetres r)
    go (Ok r) h e = h
    go (Err why) h e = absurd (true≢false (sym e))

nearest : (v : Vertex) → placed v ≡ true → IsNearest v (corner_of v)
unfolding placed corner_of
nearest v h =
    let p = both _ _ h in
    let q = both _ _ p.0 in
    record { x = rounds v.x q.0; y = rounds v.y q.1; z = rounds v.z p.1 }

rounds-only : {x : Float} {r q : ℤ} → Rounds x r → Rounds x q → r ≡ q
rounds-only {x} {r} {q} a b = whole-only x r a.exact a.nearest ∙ sym (whole-only x q b.exact b.nearest)

-- ---- a file whose vertices passed
module _ (s : List ℕ) (f : Form) (all : (k : ℕ) → k < f.vertices → placed (vertex_of s f k) ≡ true) where
  corner : (at : ℕ) → is_index f.vertices (index_at s at) ≡ true → CornerFrom s f at (corner_at s f at)
  unfolding is_index
  corner at = go (index_at s at) refl
    where
      go : (z : ℤ) → index_at s at ≡ z → is_index f.vertices z ≡ true → CornerFrom s f at (corner_of (vertex_of s f (nat_abs z)))
      go (pos k) e h =
          let below : k < f.vertices = ltb-true k f.vertices (both (le_z (pos 0) (pos k)) (lt_z (pos k) (pos f.vertices)) h).1 in
          record { vertex = k; index = e; below = below; nearest = nearest (vertex_of s f k) (all k below) }
      go (negsuc k) e h = absurd (true≢false (sym h))

  triangle : (at : ℕ) → good_face s f.vertices at ≡ true → TriangleFrom s f at (triangle_at s f at)
  unfolding good_face triangle_at
  triangle at h =
      let p = both _ _ h in
      let q = both _ _ p.0 in
      let r = both _ _ q.0 in
      record {
        a = corner_at s f (at + 1);
        b = corner_at s f (at + 5);
        c = corner_at s f (at + 9);
        three = eqb-true _ _ r.0;
        first = corner (at + 1) r.1;
        second = corner (at + 5) q.1;
        third = corner (at + 9) p.1;
        numbers = refl;
      }

pub scan-rounds : ScanRounds
unfolding scanned
scan-rounds s f zs form e =
    let given = asked-given (triangles s f) (ply_questions s f) (rw form at e) in
    let vertices = of_each (vertex_question s f) f.vertices in
    let faces = of_each (face_question s f) f.faces in
    let passed = both-passed (asked vertices) (asked faces) (sym (first-append tt vertices faces) ∙ given.0) in
    subst
    (λ (ns : List ℤ). (length ns ≡ 10 * f.faces) × ((k : ℕ) → k < f.faces → TriangleFrom s f (face_place s f k) (triangle_numbers ns k)))
    given.1 (
      omega (arith, count-is s f, whole_is s f),
      λ k h.
          subst (TriangleFrom s f (face_place s f k)) (sym (numbers-are s f k h))
          (triangle s f (each-passed (vertex_question s f) f.vertices passed.0) (face_place s f k) (each-passed (face_question s f) f.faces passed.1 k h)),
    )

-- ---- there is no other
module _ {s : List ℕ} {f : Form} {at : ℕ} where
  corner-only : {c d : Corner} → CornerFrom s f at c → CornerFrom s f at d → c ≡ d
  corner-only {c} {d} p q =
      let same : p.vertex ≡ q.vertex = cc (p.index, q.index) in
      let n = subst (λ (k : ℕ). IsNearest (vertex_of s f k) c) same p.nearest in
      let x = rounds-only n.x q.nearest.x in
      let y = rounds-only n.y q.nearest.y in
      let z = rounds-only n.z q.nearest.z in
      λ i. record { x = x i; y = y i; z = z i }

pub triangle-only : (s : List ℕ) (f : Form) (at : ℕ) {ns ms : List ℤ} → TriangleFrom s f at ns → TriangleFrom s f at ms → ns ≡ ms
triangle-only s f at p q =
    p.numbers
    ∙ (λ i. triangle_of (corner-only p.first q.first i) (corner-only p.second q.second i) (corner-only p.third q.third i))
    ∙ sym q.numbers
