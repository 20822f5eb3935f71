-- The answers that were packed come back.
--     route-back, reading-back
-- Assumes nothing.
use mathlib.Core.Bool.{Bool, true, false, cond}
use mathlib.Core.List.{List, ◌++◌}
use mathlib.Core.Path.{◌≡◌, refl, ap, ap₂}
use Prim.Native.Nat.{ℕ, ◌^◌, ◌<◌}
use lib.Dec.{leb}
use lib.IntN.{ℤ}
use lib.ListN.{length, drop}
use Rattle.refusal.specs.Limit.{Answer, gives, refused}
use Rattle.std.specs.Prelude.{Option, Some, None}
use Rattle.layout.specs.declared.Header.{Header}
use Rattle.layout.specs.declared.Record.{Record}
use Rattle.frame.specs.declared.Reading.{Reading}
use Rattle.demand.specs.declared.Finding.{Finding}
use Rattle.demand.specs.declared.Finding.TheVariants.{Free, Blocked}
use Rattle.pack.proofs.Unpack.{tag_back, leg-back, low-back, Fits, FitsAlways, refusal-back}
use Rattle.stall.specs.Calls.{packed_route, unpacked_route, wrote, short, roomed, packed_reading, unpacked_reading}
use Rattle.numbers.specs.Numbers.{contents_numbers, read_numbers, numbers_in, written}
use Rattle.numbers.proofs.Back.{contents-back, numbers-few}

-- ---- what fits
abbrev pub FitsFinding : Finding → Type 0
FitsFinding Free = Unit {0}
FitsFinding (Blocked m n) = (m < 2 ^ 16) × (n < 2 ^ 32)

pub route-back : (a : Answer Finding) → Fits FitsFinding a → unpacked_route (packed_route a) ≡ a
unfolding unpacked_route
route-back (gives Free) h = refl
route-back (gives (Blocked m n)) h = rw (tag_back 3 0 m n) (ap₂ (λ (i k : ℕ). gives (Blocked i k)) (leg-back 3 0 m n h.0) (low-back 3 0 m n h.1))
route-back (refused n p) h = rw (tag_back 1 n 0 p) (refusal-back n p h)

-- what a reading puts out comes back, where the list has room for it, and where not
module _ (c : Reading) (out : List ℤ) where
  roomed-back : (b : Bool) → let o = cond b (wrote c) (short (numbers_in c)) in
      unpacked_reading (packed_reading (gives o)) (cond b (contents_numbers c ++ drop (numbers_in c) out) out) ≡ gives o
  unfolding unpacked_reading
  roomed-back true =
      rw (tag_back 0 0 0 (numbers_in c), low-back 0 0 0 (numbers_in c) (numbers-few c))
      (ap (λ (x : Reading). gives (wrote x)) (contents-back c (drop (numbers_in c) out)))
  roomed-back false = rw (tag_back 4 0 0 (numbers_in c), low-back 4 0 0 (numbers_in c) (numbers-few c))

found-back : (h : Header) (f : Option Record) (out : List ℤ) → let c : Reading = record { header = h; found = f } in
    unpacked_reading (packed_reading (roomed (gives c) (length out))) (written (contents_numbers c) out) ≡ roomed (gives c) (length out)
found-back h (Some r) out = roomed-back (record { header = h; found = Some r }) out (leb 19 (length out))
found-back h None out = roomed-back (record { header = h; found = None }) out (leb 9 (length out))

pub reading-back : (a : Answer Reading) (out : List ℤ) → Fits FitsAlways a
    → unpacked_reading (packed_reading (roomed a (length out))) (written (read_numbers a) out) ≡ roomed a (length out)
unfolding unpacked_reading
reading-back (refused n p) out h = rw (tag_back 1 n 0 p) (refusal-back n p h)
reading-back (gives c) out h = found-back c.header c.found out
