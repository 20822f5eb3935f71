-- What a file is that was taken.
--     few                     vertices that the file has no room for
--     counts, roomy-same      a count above the file's length is one of no such file
--     Sized, sized            its vertices and its faces end at its end
--     vertex-in, face-in      each lies in it
-- Assumes nothing.
use Rattle.std.specs.Prelude.{Option, Some, None}
use mathlib.Core.Bool.{Bool, true, false, cond, ◌&&◌}
use mathlib.Core.List.{List}
use mathlib.Core.Path.{◌≡◌, refl, sym, ap, ◌∙◌}
use Prim.Native.Nat.{ℕ, suc, ◌+◌, ◌-◌, ◌*◌, ◌/◌, ◌<◌, ◌≤◌}
use native.Mathlib.Nat.{div-lt_iff_lt-mul, mul-le-mul_left, mul-le-mul_right, suc-mul}
use native.Mathlib.Omega.{arith}
use borrow.Author.Tests.{le-leb, leb-true, eqb-true, ne_eqb}
use lib.Dec.{leb}
use lib.ListN.{length}
use Rattle.ply_header.specs.declared.Scalar.{Scalar}
use Rattle.ply_header.specs.declared.Scalar.TheVariants.{Float, Double, Int}
use Rattle.ply_header.specs.declared.Form.{Form}
use Rattle.ply_header.specs.Header.{header}
use Rattle.ply_header.specs.Inner.{roomy}
use Rattle.ply_vertex.specs.Vertex.{width_of, size_of}
use Rattle.ply.specs.Body.{vertex_place, behind_face, face_from, face_place, body_fits, bodied, taken}
use Rattle.ply.proofs.Places.{next, grows}

-- ---- places of a file
module _ (s : List ℕ) (f : Form) where
  -- the faces begin behind the vertices
  pub first-face : face_place s f 0 ≡ vertex_place f f.vertices
  unfolding face_place face_from
  first-face = refl

  pub next-face : (k : ℕ) → face_place s f (suc k) ≡ behind_face s (face_place s f k)
  unfolding face_place
  next-face k = next s (vertex_place f f.vertices) k

  pub faces-grow : (i n : ℕ) → i ≤ n → face_place s f i + (n - i) ≤ face_place s f n
  unfolding face_place
  faces-grow i n h = grows s (vertex_place f f.vertices) i n h

  pub body-short : length s < vertex_place f f.vertices → false ≡ body_fits s f
  body-short h = sym (ne_eqb (face_place s f f.faces) (length s) (λ e. omega (arith, faces-grow 0 f.faces (omega arith), first-face, e)))

-- ---- the room for the vertices
pub vertex-place : {b : ℕ} (f : Form) (k : ℕ) → b ≡ size_of f → f.body + k * b ≡ vertex_place f k
unfolding vertex_place
vertex-place f k e = ap (λ (n : ℕ). f.body + k * n) e

pub before-body : (s : List ℕ) (f : Form) → length s < f.body → false ≡ body_fits s f
unfolding vertex_place
before-body s f h = body-short s f (omega arith)

pub few : {b : ℕ} (s : List ℕ) (f : Form) → b ≡ size_of f → 12 ≤ b → f.body ≤ length s → (length s - f.body) / b < f.vertices → false ≡ body_fits s f
few {b} s f e l h k =
    let more : length s - f.body < f.vertices * b = (div-lt_iff_lt-mul {k = b} (omega arith)).0 k in
    body-short s f (omega (arith, vertex-place f f.vertices e))

pub body_is : {b : ℕ} (s : List ℕ) (f : Form) → b ≡ size_of f → f.body + f.vertices * b ≡ face_place s f 0
body_is s f e = vertex-place f f.vertices e ∙ sym (first-face s f)

-- ---- counts
four : (t : Scalar) → 4 ≤ width_of t
four Float = omega arith
four Double = omega arith
four Int = omega arith

twelve : (f : Form) → 12 ≤ size_of f
unfolding size_of
twelve f = omega (arith, four f.x, four f.y, four f.z)

pub counts : (s : List ℕ) (f : Form) → face_place s f f.faces ≡ length s → (f.vertices ≤ length s) × (f.faces ≤ length s)
unfolding vertex_place
counts s f end =
    let grown = faces-grow s f 0 f.faces (omega arith) in
    let times : f.vertices * 12 ≤ f.vertices * size_of f = mul-le-mul_left f.vertices (twelve f) in
    (omega (arith, end, grown, times, first-face s f), omega (arith, end, grown, first-face s f))

and-false : (b : Bool) → (b && false) ≡ false
and-false true = refl
and-false false = refl

pub roomy-same : (s : List ℕ) (h : Option Form) → bodied s (roomy (length s) h) ≡ bodied s h
unfolding roomy
roomy-same s None = refl
roomy-same s (Some f) = go (body_fits s f) refl
  where
    by : (b : Bool) → body_fits s f ≡ false → bodied s (cond b (Some f) None) ≡ bodied s (Some f)
    by true e = refl
    by false e = rw (e, and-false (leb f.faces 4095))

    go : (b : Bool) → body_fits s f ≡ b → bodied s (roomy (length s) (Some f)) ≡ bodied s (Some f)
    go true e = let few = counts s f (eqb-true _ _ e) in rw (le-leb f.vertices (length s) few.0, le-leb f.faces (length s) few.1)
    go false e = by (leb f.vertices (length s) && leb f.faces (length s)) e

-- ---- a file that was taken
pub record Sized (s : List ℕ) (f : Form) : Type 0 where
  pub faces : f.faces ≤ 4095
  pub end : face_place s f f.faces ≡ length s

picked : (a b : Bool) (g f : Form) → cond (a && b) (Some g) None ≡ Some f → (g ≡ f) × (a ≡ true) × (b ≡ true)
picked true true g f e = (cc, refl, refl)
picked true false g f e = let z : ◌≡◌ {A = ℕ} 0 1 = cc in absurd (omega arith)
picked false b g f e = let z : ◌≡◌ {A = ℕ} 0 1 = cc in absurd (omega arith)

pub sized : (s : List ℕ) (f : Form) → taken s ≡ Some f → Sized s f
unfolding taken
sized s f e = go (header s) e
  where
    go : (h : Option Form) → bodied s h ≡ Some f → Sized s f
    go (Some g) e =
        let p = picked (leb g.faces 4095) (body_fits s g) g f e in
        rw (sym p.0) (record { faces = leb-true _ _ p.1; end = eqb-true _ _ p.2 })
    go None e = let z : ◌≡◌ {A = ℕ} 0 1 = cc in absurd (omega arith)

module _ {s : List ℕ} {f : Form} (t : Sized s f) where
  pub vertices-in : vertex_place f f.vertices ≤ length s
  vertices-in = omega (arith, faces-grow s f 0 f.faces (omega arith), first-face s f, t.end)

  pub face-in : {k : ℕ} → k < f.faces → (face_place s f k < length s) × (behind_face s (face_place s f k) ≤ length s)
  face-in {k} h = let grown = faces-grow s f (suc k) f.faces h in (omega (arith, next-face s f k, t.end), omega (arith, next-face s f k, t.end))

pub vertex-in : {n : ℕ} (f : Form) (k : ℕ) → k < f.vertices → vertex_place f f.vertices ≤ n → vertex_place f k + size_of f ≤ n
unfolding vertex_place
vertex-in f k h l = omega (arith, mul-le-mul_right {m = suc k} {n = f.vertices} (size_of f) h, suc-mul k (size_of f))

pub vertex-next : (f : Form) (k : ℕ) → vertex_place f k + size_of f ≡ vertex_place f (k + 1)
unfolding vertex_place
vertex-next f k = let more : (k + 1) * size_of f ≡ k * size_of f + size_of f = ap (λ (n : ℕ). n * size_of f) (omega arith) ∙ suc-mul k (size_of f) in omega arith

pub vertex-first : (f : Form) → f.body ≡ vertex_place f 0
unfolding vertex_place
vertex-first f = omega (arith)
