-- The triangles of a scanner's file can be written.
--     count-is, whole_is        how many there are
--     numbers-are               the numbers of each
--     triangle-fits, all_fit    each fits its record
--     grid-any                  a header fits with any count that its field can hold
-- Assumes nothing.
use Rattle.std.specs.Prelude.{Ok, Err}
use mathlib.Core.Bool.{Bool, true, false, cond}
use mathlib.Core.List.{List}
use mathlib.Core.Path.{◌≡◌, refl, ap, ◌∙◌}
use Prim.Native.Nat.{ℕ, ◌*◌, ◌%◌, ◌<◌}
use native.Mathlib.Nat.{mul_comm}
use native.Mathlib.Omega.{arith}
use borrow.Author.Tests.{le-leb}
use lib.Ieee.{Float, nan, inf, fin}
use lib.IntN.{ℤ, pos}
use lib.ListN.{length, take, drop}
use lib.Seq.{take_at}
use Rattle.layout.specs.Layout.{version1, field, plain, signed}
use Rattle.layout_write.specs.Writing.{can_hold}
use Rattle.writable.specs.Fits.{header_fits, triangle_fits, triangle_numbers, all_below}
use Rattle.writable.proofs.All.{all_of}
use Rattle.frame_write.specs.declared.GridValues.{GridValues}
use Rattle.frame_write.specs.Write.{header_to_write, triangle_count, concat_below}
use Rattle.frame_write.proofs.Pieces.{length-pieces, piece-at}
use Rattle.rounding.specs.declared.Unrounded.TheVariants.{OutOfRange}
use Rattle.rounding.specs.declared.Vertex.{Vertex}
use Rattle.rounding.specs.Rounding.{whole_of, in_range, rounded_of, millimetres}
use Rattle.ply_header.specs.declared.Form.{Form}
use Rattle.ply.specs.declared.Corner.{Corner}
use Rattle.ply.specs.Body.{face_place, corner_of, triangle_of, triangle_at}
use Rattle.scan.specs.Scan.{triangles, grid_fits}

-- ---- how many, and which
module _ (s : List ℕ) (f : Form) where
  abbrev numbers : ℕ → List ℤ
  numbers k = triangle_at s f (face_place s f k)

  ten : (k : ℕ) → length (numbers k) ≡ 10
  unfolding triangle_at
  ten k = refl

  long : length (triangles s f) ≡ 10 * f.faces
  unfolding triangles
  long = length-pieces numbers 10 ten f.faces

  pub count-is : triangle_count (triangles s f) ≡ f.faces
  count-is = omega (arith, long)

  pub whole_is : length (triangles s f) % 10 ≡ 0
  whole_is = omega (arith, long)

  pub numbers-are : (i : ℕ) → i < f.faces → triangle_numbers (triangles s f) i ≡ numbers i
  unfolding triangles
  numbers-are i h =
      let p = piece-at numbers 10 ten f.faces i h in
      ap (λ (a : ℕ). take 10 (drop a (concat_below numbers f.faces))) (mul_comm i 10) ∙ ap (take 10) p.is ∙ take_at (numbers i) p.rest 10 (ten i)

-- ---- each fits its record
-- a rounded number fits its field
held : (x : Float) → can_hold (field signed 14) (millimetres (rounded_of x)) ≡ true
held nan = refl
held (inf s) = refl
held (fin s m e) = go (in_range (whole_of (fin s m e))) refl
  where
    go : (b : Bool) → in_range (whole_of (fin s m e)) ≡ b → can_hold (field signed 14) (millimetres (cond b (Ok (whole_of (fin s m e))) (Err OutOfRange))) ≡ true
    go true t = t
    go false t = refl

-- a corner whose numbers fit their fields
record Held (c : Corner) : Type 0 where
  x : can_hold (field signed 14) c.x ≡ true
  y : can_hold (field signed 14) c.y ≡ true
  z : can_hold (field signed 14) c.z ≡ true

corner-held : (v : Vertex) → Held (corner_of v)
unfolding corner_of
corner-held v = record { x = held v.x; y = held v.y; z = held v.z }

held_fits : {a b c : Corner} → Held a → Held b → Held c → triangle_fits version1 (triangle_of a b c) ≡ true
held_fits p q r = rw (p.x, p.y, p.z, q.x, q.y, q.z, r.x, r.y, r.z)

pub triangle-fits : (s : List ℕ) (f : Form) (at : ℕ) → triangle_fits version1 (triangle_at s f at) ≡ true
unfolding triangle_at
triangle-fits s f at = held_fits (corner-held _) (corner-held _) (corner-held _)

pub all_fit : (s : List ℕ) (f : Form) → all_below (λ i. triangle_fits version1 (triangle_numbers (triangles s f) i)) f.faces ≡ true
all_fit s f = all_of _ f.faces (λ i h. ap (triangle_fits version1) (numbers-are s f i h) ∙ triangle-fits s f (face_place s f i))

-- ---- the header
pub grid-any : (g : GridValues) (n : ℕ) → n < 4096 → grid_fits g ≡ true → header_fits version1 (header_to_write g n) ≡ true
grid-any g n h e =
    let fits : can_hold (field plain 12) (pos n) ≡ true = rw (le-leb 0 n (omega arith), le-leb n 4095 (omega arith)) in
    rw fits e
