-- What a scan says and leaves is what the writer says and leaves; so it reads as the grid and the triangles.
--     scan-writes       where the grid's values may be written and the file gives triangles
--     scan-then-read    wherever a scan gives a length
-- Assumes nothing.
use mathlib.Core.Bool.{Bool, true, false, cond}
use mathlib.Core.List.{List}
use mathlib.Core.Path.{◌≡◌, refl}
use Prim.Native.Nat.{ℕ}
use native.Mathlib.Omega.{arith}
use lib.IntN.{ℤ}
use lib.ListN.{length, take}
use Rattle.refusal.specs.Limit.{Answer, gives, refused}
use Rattle.round_trip.proofs.RoundTrip.{write-then-read}
use Rattle.scan.specs.Scan.{scanned, grid_fits, writing_of, scanning, scan_bytes}
use Rattle.scan_words.specs.ScanWords.{ScanWrites, ReadsBack, ScanThenRead}

pub scan-writes : ScanWrites
unfolding scanning scan_bytes
scan-writes g s zs fits given = (λ room. rw (fits, given), λ out. rw (fits, given))

pub scan-then-read : ScanThenRead
unfolding scanning
scan-then-read g s out n = go (grid_fits g) refl (scanned s) refl
  where
    go : (b : Bool) → grid_fits g ≡ b → (a : Answer (List ℤ)) → scanned s ≡ a → cond b (writing_of g a (length out)) (refused 12 0) ≡ gives n → ReadsBack g s n (take n (scan_bytes g s out))
    go false fits a given e = let z : ◌≡◌ {A = ℕ} 0 1 = cc in absurd (omega arith)
    go true fits (refused m p) given e = let z : ◌≡◌ {A = ℕ} 0 1 = cc in absurd (omega arith)
    go true fits (gives zs) given e =
        let read = write-then-read g zs out n e in
        rw ((scan-writes g s zs fits given).1 out)
        (record { numbers = zs; given = given; long = read.0; accepted = read.1; reads = read.2 })
