-- `frame_write::put_records`: the records so far, each behind the one before.
use Rattle.std.proofs.Common.{List, ℕ, ℤ}
use Rattle.layout.specs.Layout.{version1}
use Rattle.layout_write.specs.Writing.{record_bytes}
use Rattle.writable.specs.Fits.{triangle_numbers}
use Rattle.frame_write.proofs.Pieces.{Filling}
use Rattle.frame_write.proofs.put_records.Given as goal

-- the bytes of record i
abbrev pub bytes : List ℤ → ℕ → List ℕ
bytes zs i = record_bytes version1 (triangle_numbers zs i)

abbrev pub invariant-loop-i : goal.invariant-loop-i
invariant-loop-i l = Filling (bytes l.triangles) 16 12 l.count l.initial.out l.out l.i
