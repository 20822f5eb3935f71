-- What the answer of a writing is, and that its numbers fit the bits that they are packed into.
--     list-fits, scan-fits    a written file's length, or its refusal
--     seven, not-seven, scan-seven, scan-not-seven    what a list of a grid's numbers gives
-- Assumes nothing.
use mathlib.Core.Bool.{Bool, true, false, cond}
use mathlib.Core.List.{List}
use mathlib.Core.Path.{◌≡◌, refl, sym, subst}
use Prim.Native.Nat.{ℕ, ◌^◌, ◌<◌}
use native.Mathlib.Omega.{arith}
use lib.Dec.{eqb, lit<}
use lib.IntN.{ℤ}
use lib.ListN.{length}
use Rattle.refusal.specs.Limit.{Answer, gives, refused}
use Rattle.refusal.specs.Questions.{of_each}
use Rattle.refusal.specs.Inner.{Passing, asked}
use Rattle.refusal.proofs.Asking.{refuses, passes}
use Rattle.layout.specs.Layout.{version1}
use Rattle.pack.proofs.Unpack.{Fits, FitsCount, FitsAlways}
use Rattle.pack.proofs.Fitting.{FitAll, fit_append, fit-each, answered-fits}
use Rattle.frame_write.specs.declared.GridValues.{GridValues}
use Rattle.frame_write.specs.Write.{grid_from, write_questions, writing, written_bytes}
use Rattle.frame_write.proofs.Asked.{admitted}
use Rattle.std.specs.Prelude.{Option, Some, None}
use Rattle.ply_header.specs.declared.Form.{Form}
use Rattle.ply.specs.Body.{taken, vertex_question, face_question}
use Rattle.ply.proofs.Taken.{counts, sized}
use Rattle.scan.specs.Scan.{triangles, ply_questions, scanned_as, scanned, grid_fits, writing_of, scanning, scan_bytes}
use Rattle.desk.specs.Calls.{list_writing, list_bytes, list_scanning, list_scan_bytes}

module _ (g : GridValues) (zs : List ℤ) (room : ℕ) where
  questions-fit : FitAll (write_questions version1 g zs room)
  questions-fit = let twelve : (12 < 2 ^ 8) × (0 < 2 ^ 32) = (lit< tt, lit< tt) in (twelve, (twelve, (twelve, ((lit< tt, lit< tt), tt))))

  -- A file that is written has at most 4,095 triangles.
  writing-fits : Fits FitsCount (writing g zs room)
  unfolding writing
  writing-fits = go (asked (write_questions version1 g zs room)) refl
    where
      go : (v : Passing) → asked (write_questions version1 g zs room) ≡ v → Fits FitsCount (writing g zs room)
      go (gives u) e = subst (Fits FitsCount) (sym (passes _ _ e)) (omega (arith, (admitted version1 g zs room e).few))
      go (refused n p) e =
          subst (Fits FitsCount) (sym (refuses _ _ e)) (subst (Fits FitsAlways) e (answered-fits FitsAlways _ (write_questions version1 g zs room) questions-fit tt))

pub list-fits : (gs zs : List ℤ) (room : ℕ) → Fits FitsCount (list_writing gs zs room)
unfolding list_writing
list-fits gs zs room = go (eqb (length gs) 7) refl
  where
    go : (b : Bool) → eqb (length gs) 7 ≡ b → Fits FitsCount (list_writing gs zs room)
    go true e = rw e (writing-fits (grid_from gs) zs room)
    go false e = rw e (lit< tt, lit< tt)

-- ---- a frame file from a scanner's file
module _ (s : List ℕ) (short : length s < 2 ^ 32) where
  -- the places of its refusals are numbers of vertices and of faces
  scanned-fits : Fits FitsAlways (scanned s)
  unfolding scanned
  scanned-fits = go (taken s) refl
    where
      go : (h : Option Form) → taken s ≡ h → Fits FitsAlways (scanned_as s h)
      go (Some f) e =
          let few = counts s f (sized s f e).end in
          answered-fits FitsAlways (triangles s f) (ply_questions s f)
          (fit_append (of_each (vertex_question s f) f.vertices) (of_each (face_question s f) f.faces)
          (fit-each (vertex_question s f) f.vertices (λ i l. (lit< tt, omega (arith, few.0))))
          (fit-each (face_question s f) f.faces (λ i l. (lit< tt, omega (arith, few.1)))))
          tt
      go None e = (lit< tt, lit< tt)

  by-file : (g : GridValues) (room : ℕ) (a : Answer (List ℤ)) → Fits FitsAlways a → Fits FitsCount (writing_of g a room)
  by-file g room (gives zs) h = writing-fits g zs room
  by-file g room (refused n p) h = h

  scanning-fits : (g : GridValues) (room : ℕ) → Fits FitsCount (scanning g s room)
  unfolding scanning
  scanning-fits g room = go (grid_fits g) refl
    where
      go : (b : Bool) → grid_fits g ≡ b → Fits FitsCount (cond b (writing_of g (scanned s) room) (refused 12 0))
      go true e = by-file g room (scanned s) scanned-fits
      go false e = (lit< tt, lit< tt)

  pub scan-fits : (gs : List ℤ) (room : ℕ) → Fits FitsCount (list_scanning s gs room)
  unfolding list_scanning
  scan-fits gs room = go (eqb (length gs) 7)
    where
      go : (b : Bool) → Fits FitsCount (cond b (scanning (grid_from gs) s room) (refused 12 0))
      go true = scanning-fits (grid_from gs) room
      go false = (lit< tt, lit< tt)

-- ---- seven numbers of a grid, or another number of them
module _ (gs : List ℤ) (out : List ℕ) where
  module _ (zs : List ℤ) where
    pub seven : eqb (length gs) 7 ≡ true → (writing (grid_from gs) zs (length out) ≡ list_writing gs zs (length out)) × (written_bytes (grid_from gs) zs out ≡ list_bytes gs zs out)
    unfolding list_writing list_bytes
    seven t = (rw t refl, rw t refl)

    pub not-seven : eqb (length gs) 7 ≡ false → (refused 12 0 ≡ list_writing gs zs (length out)) × (out ≡ list_bytes gs zs out)
    unfolding list_writing list_bytes
    not-seven t = (rw t refl, rw t refl)

  module _ (s : List ℕ) where
    pub scan-seven : eqb (length gs) 7 ≡ true → (scanning (grid_from gs) s (length out) ≡ list_scanning s gs (length out)) × (scan_bytes (grid_from gs) s out ≡ list_scan_bytes s gs out)
    unfolding list_scanning list_scan_bytes
    scan-seven t = (rw t refl, rw t refl)

    pub scan-not-seven : eqb (length gs) 7 ≡ false → (refused 12 0 ≡ list_scanning s gs (length out)) × (out ≡ list_scan_bytes s gs out)
    unfolding list_scanning list_scan_bytes
    scan-not-seven t = (rw t refl, rw t refl)
