-- What the questions of a writer say.
--     too_many      a count that its field cannot hold
--     admitted      what holds where all are answered yes
--     write-refused, write-given   what the call says and leaves
-- Assumes nothing.
use mathlib.Core.Bool.{Bool, true, false, and-eq-true_iff}
use mathlib.Core.List.{List, ◌++◌}
use mathlib.Core.Path.{◌≡◌, refl, sym}
use Prim.Native.Nat.{ℕ, ◌*◌, ◌%◌, ◌<◌, ◌≤◌}
use native.Mathlib.Omega.{arith}
use borrow.Author.Tests.{eqb-true, leb-true}
use lib.Dec.{lit<}
use lib.IntN.{ℤ, pos}
use lib.ListN.{length, drop}
use Rattle.refusal.specs.Limit.{gives, refused}
use Rattle.refusal.specs.Questions.{Question}
use Rattle.refusal.specs.Inner.{passed, asked}
use Rattle.refusal.proofs.Asking.{passed-head, refuses, passes}
use Rattle.layout.specs.declared.Layout.{Layout}
use Rattle.layout.specs.Layout.{version1, header_fields, record_start}
use Rattle.layout_write.specs.Writing.{can_hold_all}
use Rattle.layout_write.proofs.Held.{held_at, plain-held}
use Rattle.writable.specs.Fits.{header_fits, triangle_fits, triangle_numbers, all_below}
use Rattle.frame_write.specs.declared.GridValues.{GridValues}
use Rattle.frame_write.specs.Write.{header_to_write, triangle_count, write_questions, file_bytes, writing, written_bytes}

module _ (l : Layout) (g : GridValues) (n : ℕ) (h : 4095 < n) where
  abbrev ns : List ℤ
  ns = header_to_write g n

  pub too_many : header_fits l ns ≡ false
  too_many = go (can_hold_all (header_fields l) ns) refl
    where
      go : (b : Bool) → can_hold_all (header_fields l) ns ≡ b → header_fits l ns ≡ false
      go true e = let few = (plain-held 12 (pos n) (held_at (header_fields l) ns e 8 (lit< tt))).small in absurd (omega arith)
      go false e = rw e refl

-- ---- all questions are answered yes
pub record Admitted (l : Layout) (g : GridValues) (zs : List ℤ) (len : ℕ) : Type 0 where
  pub header : header_fits l (header_to_write g (triangle_count zs)) ≡ true
  pub held : can_hold_all (header_fields l) (header_to_write g (triangle_count zs)) ≡ true
  pub few : triangle_count zs < 4096
  pub whole : length zs ≡ triangle_count zs * 10
  pub triangles : all_below (λ i. triangle_fits l (triangle_numbers zs i)) (triangle_count zs) ≡ true
  pub room : record_start l (triangle_count zs) ≤ len

pub admitted : (l : Layout) (g : GridValues) (zs : List ℤ) (room : ℕ) → asked (write_questions l g zs room) ≡ passed → Admitted l g zs room
admitted l g zs room p =
    let ns = header_to_write g (triangle_count zs) in
    let q1 = passed-head tt _ _ p in
    let q2 = passed-head tt _ _ q1.1 in
    let q3 = passed-head tt _ _ q2.1 in
    let held = ((and-eq-true_iff (can_hold_all (header_fields l) ns) _).0 q1.0).0 in
    record {
      header = q1.0;
      held = held;
      few = (plain-held 12 (pos (triangle_count zs)) (held_at (header_fields l) ns held 8 (lit< tt))).small;
      whole = omega (arith, eqb-true (length zs % 10) 0 q2.0);
      triangles = q3.0;
      room = leb-true _ _ (passed-head tt _ _ q3.1).0;
    }

-- ---- what the call says and leaves
module _ (g : GridValues) (zs : List ℤ) (out : List ℕ) where
  abbrev questions : List Question
  questions = write_questions version1 g zs (length out)

  abbrev size : ℕ
  size = record_start version1 (triangle_count zs)

  pub write-refused : {n p : ℕ} → asked questions ≡ refused n p → (refused n p ≡ writing g zs (length out)) × (out ≡ written_bytes g zs out)
  unfolding writing written_bytes
  write-refused e =
      let said = refuses size questions e in
      (sym said, rw said refl)

  pub write-given : asked questions ≡ passed → (gives size ≡ writing g zs (length out)) × (file_bytes version1 g zs ++ drop size out ≡ written_bytes g zs out)
  unfolding writing written_bytes
  write-given e =
      let said = passes size questions e in
      (sym said, rw said refl)
