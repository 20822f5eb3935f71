-- `runs::lowered`: x is the form at k, and the cells passed fail.
use Rattle.std.proofs.Common.{◌∙◌, sym, ℕ, List, [], ◌∷◌, ◌+◌, ◌-◌, ◌≤◌, ◌<◌, arith, ℤ, pos, ◌-ℤ◌, ◌≤ℤ◌, ◌<ℤ◌, to_z, w64}
use mir.Facts.{to_z-of_z}
use Rattle.integers.specs.Within.{Withins}
use Rattle.integers.proofs.Omega.{le-true, le-false}
use Rattle.integers.proofs.Laws.{≤_trans}
use Rattle.integers.proofs.Expr.{var, raw, ◌⊖◌}
use Rattle.integers.proofs.Machine.{run}
use Rattle.runs.specs.Run.{form_at, FormFails, FormHolds}
use Rattle.runs.proofs.Runs.{previous, take_step, step-nn, step-neg, falls, one_below, read, given, next_max, start-asks, start_is, next-in, found}
use Rattle.runs.proofs.lowered.Goals as goal
use Rattle.runs.proofs.lowered.Goals.{Else-step-x}

-- the next value
abbrev ρ : Else-step-x → List ℤ
ρ c = to_z w64 c.loop-k.x-bits ∷ c.args.step ∷ []

ins : (c : Else-step-x) → Withins next_max (ρ c)
ins c =
    next-in (given c.requires.0 c.ranges.step c.ranges.at) c.loop-k.invariant.2
    (omega (arith, c.requires.0, c.loop-k.invariant))

pub overflow_add-x : goal.overflow_add-x
overflow_add-x c =
    let g = given c.requires.0 c.ranges.step c.ranges.at in
    (start-asks g c.requires.0.most).2

pub loop-k-init : goal.loop-k-init
loop-k-init c =
    let g = given c.requires.0 c.ranges.step c.ranges.at in
    (c.requires.0.ordered, omega arith, start_is g c.requires.0.most, λ l h k. absurd (omega arith))

pub returns-then-step-x : goal.returns-then-step-x
returns-then-step-x c =
    let g = given c.requires.0 c.ranges.step c.ranges.at in
    let i = c.loop-k.invariant in
    let k = c.loop-k.k in
    let s = read c.args.step in
    let form = form_at s (read c.args.at) in
    let down : s ≤ℤ pos 0 = rw (to_z-of_z c.ranges.step) c.requires.1 in
    let t : s ≤ℤ form k = rw i.2 at (le-true s (to_z w64 c.loop-k.x-bits) c.if-step-x.true) in
    let n = step-nn (form (k - 1)) (form k) s (previous s (read c.args.at) (omega arith)) t in
    found g FormHolds FormFails (record { from = i.0; to = i.1; below = λ l h u. ≤_trans n (falls s (read c.args.at) down (omega arith)); above = i.3 })

pub loop-k-preserved : goal.loop-k-preserved
loop-k-preserved c =
    let i = c.loop-k.invariant in
    let a = c.args in
    let k = c.loop-k.k in
    let s = read a.step in
    let form = form_at s (read a.at) in
    let t : form k <ℤ s = rw i.2 at (le-false s (to_z w64 c.loop-k.x-bits) c.if-step-x.false) in
    let n = previous s (read a.at) {k = k} (omega arith) in
    let all : (l : ℕ) → k - 1 + 1 ≤ l → l < a.end → FormFails s (read a.at) l = λ l h u. i.3 l (omega arith) u in (
      omega arith,
      omega arith,
      run (ρ c) (raw 0 ⊖ var 1) next_max tt (ins c) ∙ (λ d. i.2 d -ℤ sym (to_z-of_z c.ranges.step) d) ∙ take_step (form (k - 1)) (form k) s n,
      one_below (FormFails s (read a.at)) (step-neg (form (k - 1)) (form k) s n t) all,
    )
