-- Routes of more than 64 points meet question 9, however many they are.
--     copied-answer   the answer for at most 65 of the points is the answer for all
-- Assumes nothing.
use mathlib.Core.Bool.{false}
use mathlib.Core.List.{List}
use mathlib.Core.Path.{◌≡◌, sym, ap, ◌∙◌}
use Prim.Native.Nat.{ℕ, ◌<◌, min}
use native.Mathlib.Decide.{dec_lt}
use native.Mathlib.Omega.{arith}
use borrow.Author.Tests.{le-leb, lt-leb}
use lib.IntN.{ℤ}
use lib.ListN.{length, take, length-take}
use lib.Seq.{take-length}
use Rattle.refusal.specs.Limit.{refused}
use Rattle.refusal.specs.Inner.{asked}
use Rattle.refusal.proofs.Asking.{and_then, first-append, stopped}
use Rattle.fill.specs.Fill.{grid_of, fill_questions}
use Rattle.demand.specs.Route.{point_count, count_fits, point_questions, route_answer}
use Rattle.points.specs.declared.Point.{Point}
use Rattle.points.specs.Points.{numbers_of}
use Rattle.points.proofs.Numbers.{numbers-length}

-- Questions 1 to 8 do not look at the points, and question 9 is answered no.
nine : (s m : List ℕ) (ns : List ℤ) → count_fits ns ≡ false
    → route_answer s m ns ≡ and_then (asked (fill_questions s (length m))) (refused 9 0)
unfolding route_answer
nine s m ns e =
    first-append _ (fill_questions s (length m)) (point_questions (grid_of s) ns)
    ∙ ap (and_then (asked (fill_questions s (length m)))) (stopped _ _ _ e)

too_many : (ps : List Point) → 64 < length ps → count_fits (numbers_of ps) ≡ false
too_many ps l =
    let many : 64 < point_count (numbers_of ps) = omega (arith, numbers-length ps) in
    rw (le-leb 2 (point_count (numbers_of ps)) (omega (arith, many)), lt-leb (point_count (numbers_of ps)) 64 many)

pub copied-answer : (s m : List ℕ) (ps : List Point) → route_answer s m (numbers_of (take (min (length ps) 65) ps)) ≡ route_answer s m (numbers_of ps)
copied-answer s m ps = go (dec_lt 64 (length ps))
  where
    go : Dec (64 < length ps) → route_answer s m (numbers_of (take (min (length ps) 65) ps)) ≡ route_answer s m (numbers_of ps)
    go (yes l) =
        let qs = take (min (length ps) 65) ps in
        nine s m (numbers_of qs) (too_many qs (omega (arith, l, length-take (min (length ps) 65) ps))) ∙ sym (nine s m (numbers_of ps) (too_many ps l))
    go (no l) =
        let all : min (length ps) 65 ≡ length ps = omega (arith, l) in
        ap (λ (qs : List Point). route_answer s m (numbers_of qs)) (ap (λ (n : ℕ). take n ps) all ∙ take-length ps)
