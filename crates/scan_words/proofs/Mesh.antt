-- What a mesh is written to is read as that mesh.
--     mesh-header    its header, whatever stands behind it
--     mesh-read      its triangles
-- Assumes nothing.
use mathlib.Core.Bool.{true}
use Rattle.std.specs.Prelude.{Ok, Some}
use mathlib.Core.List.{List, [], ◌∷◌, ◌++◌, append_assoc}
use mathlib.Core.Path.{◌≡◌, refl, sym, ap, ◌∙◌, subst}
use Prim.Native.Nat.{ℕ, zero, suc, ◌+◌, ◌*◌, ◌/◌, ◌%◌, ◌<◌, ◌≤◌}
use native.Mathlib.Nat.{mul_comm, mul-le-mul_left}
use native.Mathlib.Decide.{dec_lt}
use native.Mathlib.Numerals.{add-one}
use native.Mathlib.Omega.{arith}
use lib.IntN.{ℤ, nat_abs}
use lib.ListN.{length, get_or, drop, length-append}
use lib.Seq.{drop-drop, drop-append_seam, drop-append-le, drop_at}
use Rattle.refusal.specs.Limit.{gives}
use Rattle.refusal.specs.Questions.{Question, of_each}
use Rattle.refusal.specs.Inner.{passed, asked}
use Rattle.refusal.proofs.Asking.{first-append, passes, each_none, each_more}
use Rattle.text.specs.Text.{decimal}
use Rattle.text.proofs.Decimals.{decimal_digit, decimal-more}
use Rattle.frame_write.specs.Write.{concat_below}
use Rattle.frame_write.proofs.Pieces.{length-pieces, piece-at, pieces-same}
use Rattle.rounding.specs.declared.Vertex.{Vertex}
use Rattle.rounding.specs.Rounding.{rounded_of, millimetres}
use Rattle.ply_header.specs.declared.Form.{Form}
use Rattle.ply_header.specs.Header.{header}
use Rattle.ply_header.specs.Format.{Spells, one, more}
use Rattle.ply_header.proofs.Written.{header-back}
use Rattle.ply_vertex.specs.Vertex.{width_of, size_of, vertex_at, placed}
use Rattle.ply.specs.declared.Corner.{Corner}
use Rattle.ply.specs.Body.{vertex_place, face_place, taken, vertex_of, vertex_question, index_at, is_index, good_face, face_question, corner_of, corner_at, triangle_of, triangle_at}
use Rattle.ply.proofs.Enough.{form-enough, face-enough}
use Rattle.ply.proofs.Taken.{first-face, next-face}
use Rattle.scan.specs.Scan.{triangles, ply_questions, scanned}
use Rattle.scan_words.proofs.Rounded.{whole-complete}
use Rattle.scan_words.specs.Mesh.{Mesh, mesh_header, bytes_in, lowest_first, mesh_vertex, mesh_face, mesh_file, Scannable, face_numbers, mesh_form, HeaderRead, MeshRead}
use Rattle.scan_words.proofs.MeshBytes.{Holds, further, byte_at, length-lowest, width_is, value-back, index_back, index-good}

-- ---- the header
-- the digits of a number spell it; it is at most `most`
spells : (most n : ℕ) → n ≤ most → Spells (decimal n) n
spells zero n h = let l : n < 10 = omega arith in rw (decimal_digit n l) (one n l)
spells (suc most) n h = go (dec_lt n 10) (λ (l : 10 ≤ n). spells most (n / 10) (omega arith))
  where
    go : Dec (n < 10) → (10 ≤ n → Spells (decimal (n / 10)) (n / 10)) → Spells (decimal n) n
    go (yes l) ih = rw (decimal_digit n l) (one n l)
    go (no l) ih =
        let all : n / 10 * 10 + n % 10 ≡ n = omega arith in
        subst (λ (k : ℕ). Spells (decimal n) k) all (rw (decimal-more n (omega arith)) (more (n % 10) (omega arith) (ih (omega arith))))

pub mesh-header : HeaderRead
mesh-header m rest = header-back m.x m.y m.z (spells m.vertices m.vertices (omega arith)) (spells m.faces m.faces (omega arith)) rest

-- ---- a vertex that is rounded
record RoundsTo (v : Vertex) (c : Corner) : Type 0 where
  x : rounded_of v.x ≡ Ok c.x
  y : rounded_of v.y ≡ Ok c.y
  z : rounded_of v.z ≡ Ok c.z

placed_by : {v : Vertex} {c : Corner} → RoundsTo v c → placed v ≡ true
unfolding placed
placed_by r = rw (r.x, r.y, r.z)

corner-by : {v : Vertex} {c : Corner} → RoundsTo v c → corner_of v ≡ c
unfolding corner_of
corner-by r = λ i. record { x = millimetres (r.x i); y = millimetres (r.y i); z = millimetres (r.z i) }

moved : {s rest : List ℕ} {at to : ℕ} → at ≡ to → Holds s at rest → Holds s to rest
moved {s} {rest} e h = subst (λ (i : ℕ). Holds s i rest) e h

-- ---- all items pass
all_pass : (q : ℕ → Question) (n : ℕ) → ((i : ℕ) → i < n → (q i).holds ≡ true) → asked (of_each q n) ≡ passed
all_pass q zero h = each_none q
all_pass q (suc n) h = ap (λ (k : ℕ). asked (of_each q k)) (sym (add-one n)) ∙ each_more q n (all_pass q n (λ i l. h i (omega arith))) (h n (omega arith))

-- ---- the body
record Part (s : List ℕ) (at : ℕ) (part : List ℕ) : Type 0 where
  rest : List ℕ
  is : Holds s at (part ++ rest)

module _ (m : Mesh) where
  abbrev s : List ℕ
  s = mesh_file m

  abbrev vertices : List ℕ
  vertices = concat_below (mesh_vertex m) m.vertices

  abbrev faces : List ℕ
  faces = concat_below (mesh_face m) m.faces

  abbrev size : ℕ
  size = bytes_in m.x + bytes_in m.y + bytes_in m.z

  size_is : size_of (mesh_form m) ≡ size
  unfolding size_of
  size_is = omega (arith, width_is m.x, width_is m.y, width_is m.z)

  vertex-long : (k : ℕ) → length (mesh_vertex m k) ≡ size
  vertex-long k = simp (length-append, length-lowest)

  face-long : (k : ℕ) → length (mesh_face m k) ≡ 13
  face-long k = simp (length-append, length-lowest)

  body : drop (length (mesh_header m)) s ≡ vertices ++ faces
  unfolding mesh_file
  body = ap (drop (length (mesh_header m))) (append_assoc (mesh_header m) vertices faces) ∙ drop-append_seam (mesh_header m) (vertices ++ faces)

  -- vertex k stands at its place
  vertex-part : (k : ℕ) → k < m.vertices → Part s (vertex_place (mesh_form m) k) (mesh_vertex m k)
  unfolding vertex_place
  vertex-part k h =
      let p = piece-at (mesh_vertex m) size vertex-long m.vertices k h in
      let long = length-pieces (mesh_vertex m) size vertex-long m.vertices in
      let times : k * size_of (mesh_form m) ≡ size * k = ap (λ (n : ℕ). k * n) size_is ∙ mul_comm k size in
      record {
        rest = p.rest ++ faces;
        is = record {
          is =
              ap (λ (n : ℕ). drop (length (mesh_header m) + n) s) times
              ∙ sym (drop-drop (size * k) (length (mesh_header m)) s)
              ∙ ap (drop (size * k)) body
              ∙ drop-append-le (size * k) vertices faces (omega (arith, long, mul-le-mul_left {m = k} {n = m.vertices} size (omega arith)))
              ∙ ap (λ (l : List ℕ). l ++ faces) p.is
              ∙ append_assoc (mesh_vertex m k) p.rest faces;
        };
      }

  abbrev start : ℕ
  start = vertex_place (mesh_form m) m.vertices

  faces-there : drop start s ≡ faces
  unfolding vertex_place
  faces-there =
      let long = length-pieces (mesh_vertex m) size vertex-long m.vertices in
      let times : m.vertices * size_of (mesh_form m) ≡ size * m.vertices = ap (λ (n : ℕ). m.vertices * n) size_is ∙ mul_comm m.vertices size in
      sym (drop-drop (m.vertices * size_of (mesh_form m)) (length (mesh_header m)) s)
      ∙ ap (drop (m.vertices * size_of (mesh_form m))) body
      ∙ drop_at vertices faces (m.vertices * size_of (mesh_form m)) (long ∙ sym times)

  -- face k stands behind k faces of 13 bytes
  face-part : (k : ℕ) → k < m.faces → Part s (start + 13 * k) (mesh_face m k)
  face-part k h =
      let p = piece-at (mesh_face m) 13 face-long m.faces k h in
      record { rest = p.rest; is = record { is = sym (drop-drop (13 * k) start s) ∙ ap (drop (13 * k)) faces-there ∙ p.is } }

  face-place : (k : ℕ) → k ≤ m.faces → face_place s (mesh_form m) k ≡ start + 13 * k
  face-place zero h = first-face s (mesh_form m) ∙ omega arith
  face-place (suc k) h =
      let ih = face-place k (omega arith) in
      let three : get_or s (face_place s (mesh_form m) k) 0 ≡ 3 = ap (λ (at : ℕ). get_or s at 0) ih ∙ byte_at (face-part k h).is in
      omega (arith, next-face s (mesh_form m) k, ih, three)

  whole_length : face_place s (mesh_form m) m.faces ≡ length s
  unfolding vertex_place mesh_file
  whole_length =
      let times : m.vertices * size_of (mesh_form m) ≡ size * m.vertices = ap (λ (n : ℕ). m.vertices * n) size_is ∙ mul_comm m.vertices size in
      face-place m.faces (omega arith)
      ∙ omega (
        arith,
        times,
        length-append (mesh_header m ++ vertices) faces,
        length-append (mesh_header m) vertices,
        length-pieces (mesh_vertex m) size vertex-long m.vertices,
        length-pieces (mesh_face m) 13 face-long m.faces,
      )

  taken_is : m.faces ≤ 4095 → taken s ≡ Some (mesh_form m)
  unfolding mesh_file
  taken_is few = form-enough s (mesh_form m) (ap header (append_assoc (mesh_header m) vertices faces) ∙ mesh-header m (vertices ++ faces)) few whole_length

  -- ---- what is read there
  module _ (corner : ℕ → Corner) (ok : Scannable m corner) where
    abbrev f : Form
    f = mesh_form m

    vertex-rounded : (k : ℕ) → k < m.vertices → RoundsTo (vertex_of s f k) (corner k)
    unfolding vertex_at
    vertex-rounded k h =
        let p = vertex-part k h in
        let w = ok.vertex k h in
        let a = lowest_first (bytes_in m.x) (m.vertex k).first in
        let b = lowest_first (bytes_in m.y) (m.vertex k).second in
        let c = lowest_first (bytes_in m.z) (m.vertex k).third in
        let at = vertex_place f k in
        let first : Holds s at (a ++ (b ++ (c ++ p.rest))) = record { is = p.is.is ∙ append_assoc (a ++ b) c p.rest ∙ append_assoc a b (c ++ p.rest) } in
        let second : Holds s (at + width_of m.x) (b ++ (c ++ p.rest)) = further a (b ++ (c ++ p.rest)) (width_of m.x) (length-lowest (bytes_in m.x) (m.vertex k).first ∙ sym (width_is m.x)) first in
        let third : Holds s (at + width_of m.x + width_of m.y) (c ++ p.rest) = further b (c ++ p.rest) (width_of m.y) (length-lowest (bytes_in m.y) (m.vertex k).second ∙ sym (width_is m.y)) second in
        record {
          x = ap rounded_of (value-back m.x (m.vertex k).first (b ++ (c ++ p.rest)) first w.x.narrow) ∙ whole-complete _ _ w.x.rounds;
          y = ap rounded_of (value-back m.y (m.vertex k).second (c ++ p.rest) second w.y.narrow) ∙ whole-complete _ _ w.y.rounds;
          z = ap rounded_of (value-back m.z (m.vertex k).third p.rest third w.z.narrow) ∙ whole-complete _ _ w.z.rounds;
        }

    vertex-passes : (k : ℕ) → k < m.vertices → placed (vertex_of s f k) ≡ true
    vertex-passes k h = placed_by (vertex-rounded k h)

    -- an index that stands at a place
    corner-read : (at v : ℕ) (rest : List ℕ) → Holds s at (lowest_first 4 v ++ rest) → v < m.vertices → corner_at s f at ≡ corner v
    corner-read at v rest e h = ap (λ (z : ℤ). corner_of (vertex_of s f (nat_abs z))) (index_back v rest e (omega (arith, ok.indexed))) ∙ corner-by (vertex-rounded v h)

    index-passes : (at v : ℕ) (rest : List ℕ) → Holds s at (lowest_first 4 v ++ rest) → v < m.vertices → is_index m.vertices (index_at s at) ≡ true
    index-passes at v rest e h = index-good v rest e (omega (arith, ok.indexed)) m.vertices h

    -- a face at a place
    face-read : (k at : ℕ) → k < m.faces → Part s at (mesh_face m k) → (good_face s m.vertices at ≡ true) × (triangle_at s f at ≡ face_numbers m corner k)
    unfolding triangle_at
    face-read k at h p =
        let w = ok.face k h in
        let a = lowest_first 4 (m.face k).first in
        let b = lowest_first 4 (m.face k).second in
        let c = lowest_first 4 (m.face k).third in
        let all : Holds s at ((3 ∷ []) ++ (a ++ (b ++ (c ++ p.rest)))) = record { is = p.is.is ∙ ap (λ (l : List ℕ). 3 ∷ l) (append_assoc (a ++ b) c p.rest ∙ append_assoc a b (c ++ p.rest)) } in
        let first : Holds s (at + 1) (a ++ (b ++ (c ++ p.rest))) = further (3 ∷ []) (a ++ (b ++ (c ++ p.rest))) 1 refl all in
        let second : Holds s (at + 5) (b ++ (c ++ p.rest)) = moved (omega arith) (further a (b ++ (c ++ p.rest)) 4 (length-lowest 4 (m.face k).first) first) in
        let third : Holds s (at + 9) (c ++ p.rest) = moved (omega arith) (further b (c ++ p.rest) 4 (length-lowest 4 (m.face k).second) second) in
        let p0 = index-passes (at + 1) (m.face k).first (b ++ (c ++ p.rest)) first w.first in
        let p1 = index-passes (at + 5) (m.face k).second (c ++ p.rest) second w.second in
        let p2 = index-passes (at + 9) (m.face k).third p.rest third w.third in
        let q0 = corner-read (at + 1) (m.face k).first (b ++ (c ++ p.rest)) first w.first in
        let q1 = corner-read (at + 5) (m.face k).second (c ++ p.rest) second w.second in
        let q2 = corner-read (at + 9) (m.face k).third p.rest third w.third in
        (face-enough s m.vertices at (byte_at all) p0 p1 p2, λ i. triangle_of (q0 i) (q1 i) (q2 i))

    -- and at its own
    face-there : (k : ℕ) → k < m.faces → (good_face s m.vertices (face_place s f k) ≡ true) × (triangle_at s f (face_place s f k) ≡ face_numbers m corner k)
    face-there k h =
        subst (λ (at : ℕ). (good_face s m.vertices at ≡ true) × (triangle_at s f at ≡ face_numbers m corner k)) (sym (face-place k (omega arith)))
        (face-read k (start + 13 * k) h (face-part k h))

    questions : asked (ply_questions s f) ≡ passed
    questions =
        first-append tt (of_each (vertex_question s f) m.vertices) (of_each (face_question s f) m.faces)
        ∙ rw (all_pass (vertex_question s f) m.vertices vertex-passes, all_pass (face_question s f) m.faces (λ k h. (face-there k h).0))

    triangles-are : triangles s f ≡ concat_below (face_numbers m corner) m.faces
    unfolding triangles
    triangles-are = pieces-same (λ k. triangle_at s f (face_place s f k)) (face_numbers m corner) m.faces (λ k h. (face-there k h).1)

    read : scanned s ≡ gives (concat_below (face_numbers m corner) m.faces)
    unfolding scanned
    read = rw (taken_is ok.few) (passes (triangles s f) (ply_questions s f) questions ∙ ap gives triangles-are)

pub mesh-read : MeshRead
mesh-read m corner ok = read m corner ok
