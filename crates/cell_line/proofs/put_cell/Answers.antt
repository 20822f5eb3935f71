-- `cell_line::put_cell`: one axis behind the other. Assumes nothing.
use Rattle.std.proofs.Common.{◌≡◌, ◌≤◌, ◌^◌, ℤ, lit<, arith, length, w64, to_z, of_z}
use mir.Facts.{to_z-of_z}
use Rattle.integers.specs.Within.{Within}
use Rattle.integers.proofs.Bounds.{within-fits}
use Rattle.text.proofs.Texts.{puts-more}
use Rattle.cell_line.proofs.put_cell.Goals as goal

-- a coordinate and the edge, as the machine reads them back
back : {z : ℤ} → Within (2 ^ 13) z → to_z w64 (of_z w64 z) ≡ z
back h = to_z-of_z {w = w64} (within-fits (lit< tt) h)

edge-back : {z : ℤ} → Within (2 ^ 8) z → to_z w64 (of_z w64 z) ≡ z
edge-back h = to_z-of_z {w = w64} (within-fits (lit< tt) h)

pub returns : goal.returns
returns c =
    let room : 0 ≤ length c.args.out.now = omega arith in
    let g = c.requires.0 in
    rw (← back g.origin.x, ← back g.origin.y, ← back g.origin.z, ← edge-back g.edge) (
      puts-more room (puts-more room (puts-more room (puts-more room c.put_word-first.ensures c.put_axis-second.ensures.0) c.put_axis-third.ensures.0) c.put_axis-behind.ensures.0) c.put_byte.ensures,
      omega (arith, c.put_word-first.ensures.next, c.put_axis-second.ensures.1, c.put_axis-third.ensures.1, c.put_axis-behind.ensures.1, c.put_byte.ensures.next),
    )
