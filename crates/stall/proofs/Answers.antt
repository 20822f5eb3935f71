-- A packed answer, as the caller unpacks it.
--     tested, taken     a route test with what is claimed of it, a plain reading
-- Assumes nothing.
use mathlib.Core.List.{List}
use mathlib.Core.Path.{◌≡◌, ap, ap₂, ◌∙◌}
use Prim.Native.Nat.{ℕ}
use lib.IntN.{ℤ}
use lib.ListN.{length}
use Rattle.frame.specs.Questions.{reading}
use Rattle.demand.specs.Route.{route_answer}
use Rattle.demand.specs.Demand.{DemandOf, FirstOf}
use Rattle.demand.proofs.Demand.{demand-of}
use Rattle.stall.specs.Calls.{packed_route, unpacked_route, roomed, packed_reading, unpacked_reading}
use Rattle.numbers.specs.Numbers.{read_numbers, written}
use Rattle.stall.proofs.Unpack.{route-back, reading-back}
use Rattle.stall.proofs.Fitting.{route-fits, reading-fits}

pub tested : (s m : List ℕ) (ns : List ℤ) {r : ℕ} → r ≡ packed_route (route_answer s m ns)
    → (r ≡ packed_route (route_answer s m ns)) × (unpacked_route r ≡ route_answer s m ns) × DemandOf s m ns (unpacked_route r) × FirstOf s m ns (unpacked_route r)
tested s m ns e =
    let (back, demand, first) = demand-of s m ns (ap unpacked_route e ∙ route-back (route_answer s m ns) (route-fits s m ns)) in
    (e, back, demand, first)

pub taken : (s : List ℕ) (i : ℕ) (old : List ℤ) {r : ℕ} {new : List ℤ}
    → (r ≡ packed_reading (roomed (reading s i) (length old))) × (new ≡ written (read_numbers (reading s i)) old)
    → unpacked_reading r new ≡ roomed (reading s i) (length old)
taken s i old e = ap₂ unpacked_reading e.0 e.1 ∙ reading-back (reading s i) old (reading-fits s i)
