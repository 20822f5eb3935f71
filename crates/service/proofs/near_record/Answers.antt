-- `service::near_record`: both ways of reading give the record's triangle.
use mathlib.Core.List.{List}
use mathlib.Core.Path.{◌≡◌, sym, ap, subst, subst₂}
use Prim.Native.Nat.{ℕ}
use lib.IntN.{ℤ}
use mir.Syntax.{w64}
use mir.Val.{SFits, to_z, of_z}
use mir.Facts.{to_z-of_z}
use Rattle.geometry.specs.declared.Point.{Point}
use Rattle.geometry.specs.declared.Triangle.{Triangle}
use Rattle.geometry.specs.Geometry.{cube}
use Rattle.geometry.specs.Bounds.{BoundedTriangle}
use Rattle.layout.specs.declared.Record.{Record}
use Rattle.frame.specs.File.{record_of}
use Rattle.frame.proofs.Triangles.{triangle-bounded}
use Rattle.std.specs.Prelude.{Option}
use Rattle.service.specs.Inner.{ByBox}
use Rattle.service.proofs.near_record.Goals as goal

-- a record r that was read is the file's
module _ (s : List ℕ) (i : ℕ) {r : Record} (is : r ≡ record_of s i) where
  triangle-is : r.triangle ≡ (record_of s i).triangle
  triangle-is = ap (λ (x : Record). x.triangle) is

  bounded : BoundedTriangle r.triangle
  bounded = subst BoundedTriangle (sym triangle-is) (triangle-bounded s i)

  told : (p : Point) {extent : ℤ} → SFits w64 extent → (n : Option Triangle) → ByBox r.triangle p (cube (to_z w64 (of_z w64 extent))) n
      → ByBox (record_of s i).triangle p (cube extent) n
  told p f n h = subst₂ (λ (t : Triangle) (d : ℤ). ByBox t p (cube d) n) triangle-is (to_z-of_z {w = w64} f) h

pub by_box-requires : goal.by_box-requires
by_box-requires c =
    let p = c.requires in
    (bounded c.args.frame.now.file.now c.args.i c.record_inside.ensures, p.1, rw (to_z-of_z {w = w64} c.ranges.extent) p.2)

pub returns-then-i-header : goal.returns-then-i-header
returns-then-i-header c =
    let a = c.args in
    told a.frame.now.file.now a.i c.record_inside.ensures a.p c.ranges.extent c.by_box.result c.by_box.ensures

pub by_box-requires-2 : goal.by_box-requires-2
by_box-requires-2 c =
    let p = c.requires in
    (bounded c.args.frame.now.file.now c.args.i c.one_record.ensures, p.1, rw (to_z-of_z {w = w64} c.ranges.extent) p.2)

pub returns : goal.returns
returns c =
    let a = c.args in
    told a.frame.now.file.now a.i c.one_record.ensures a.p c.ranges.extent c.by_box-2.result c.by_box-2.ensures
