-- `ranges::cell_range`: two quotients that are rounded down, cut to the axis's cells (`Ranges`).
use mathlib.Core.List.{List, [], ◌∷◌}
use mathlib.Core.Path.{◌≡◌, refl, sym, ap, ap₂, ◌∙◌}
use Prim.Native.Nat.{◌^◌, ◌<◌}
use lib.Dec.{lit<}
use lib.IntN.{ℤ, pos, negsuc, neg_ℤ, nat_abs, ◌+ℤ◌, ◌-ℤ◌}
use lib.Signed.{◌≤ℤ◌, mag}
use mir.Syntax.{w32, w64}
use mir.Val.{to_z, of_z}
use mir.Facts.{to_z_pos}
use borrow.Author.Rules.{rules}
use Rattle.integers.specs.Within.{Within}
use Rattle.std.specs.Int.{int_min, int_max}
use Rattle.integers.specs.Inner.{Floor}
use Rattle.integers.proofs.Bounds.{within-fits, fits-within}
use Rattle.integers.proofs.Expr.{Expr, var, num, neg, ◌⊕◌, ◌⊖◌, nth}
use Rattle.integers.proofs.Machine.{back, asks, run, bound, learnt}
use Rattle.integers.proofs.MinMax.{≤-max-right, ≤-min}
use Rattle.integers.proofs.Omega.{zarith}
use Rattle.integers.proofs.Quotients.{floor-fits}
use Rattle.ranges.specs.Range.{range_bounds}
use Rattle.ranges.proofs.Ranges.{picks}
use Rattle.ranges.proofs.cell_range.Goals as goal
use Rattle.ranges.proofs.cell_range.Goals.{After-floor_div-before, After-floor_div-last, After-max-end, After-min-first, Start}

abbrev ρ : Start → List ℤ
ρ c = let a = c.args in a.least ∷ a.greatest ∷ a.origin ∷ a.step ∷ a.extent ∷ []

-- ---- the quotients
abbrev low : Expr
low = var 2 ⊕ var 4 ⊖ var 0

abbrev high : Expr
high = var 1 ⊖ var 2

abbrev Quotient : ℤ → List ℤ → Type 0
Quotient q l = Floor (nth l 0) (nth l 1) q

before-is : (c : After-floor_div-before) → let a = c.args in Floor (a.origin +ℤ a.extent -ℤ a.least) a.step c.floor_div-before.result
before-is c =
    let s = c.before in
    learnt (ρ s) (Quotient c.floor_div-before.result) (low ∷ var 3 ∷ []) range_bounds tt s.requires.0 c.floor_div-before.ensures

last-is : (c : After-floor_div-last) → let a = c.args in Floor (a.greatest -ℤ a.origin) a.step c.floor_div-last.result
last-is c =
    let s = c.before.before in
    learnt (ρ s) (Quotient c.floor_div-last.result) (high ∷ var 3 ∷ []) range_bounds tt s.requires.0 c.floor_div-last.ensures

-- they fit 32 bits, as the numbers do that are divided
before-within : (c : After-floor_div-before) → Within (2 ^ 31) c.floor_div-before.result
before-within c =
    let s = c.before in
    fits-within {w = w32} (floor-fits s.args.step s.requires.1 (before-is c) (within-fits (lit< tt) (bound (ρ s) low range_bounds s.requires.0)))

last_within : (c : After-floor_div-last) → Within (2 ^ 31) c.floor_div-last.result
last_within c =
    let s = c.before.before in
    fits-within {w = w32} (floor-fits s.args.step s.requires.1 (last-is c) (within-fits (lit< tt) (bound (ρ s) high range_bounds s.requires.0)))

pub overflow_add-last : goal.overflow_add-last
overflow_add-last c = (asks (c.floor_div-last.result ∷ []) (var 0 ⊕ num 1) (2 ^ 31 ∷ []) tt (last_within c, tt)).2

pub overflow_sub-before : goal.overflow_sub-before
overflow_sub-before c = let d = c.before.before.before in (asks (d.floor_div-before.result ∷ []) (neg (var 0)) (2 ^ 31 ∷ []) tt (before-within d, tt)).1

-- ---- the ends
end_is : (c : After-max-end) → c.max-end.result ≡ int_max (int_min (c.floor_div-last.result +ℤ pos 1) (pos c.args.cells)) (pos 0)
end_is c =
    let next = run (c.floor_div-last.result ∷ []) (var 0 ⊕ num 1) (2 ^ 31 ∷ []) tt (last_within c.before.before, tt) in
    let least = back w64 c.min.type_inv ∙ c.min.ensures.value ∙ ap₂ int_min next (to_z_pos w64 c.requires.2) in
    c.max-end.ensures.value ∙ ap (λ (z : ℤ). int_max z (pos 0)) least

first-is : (c : After-min-first) → c.min-first.result ≡ int_min (int_max (neg_ℤ c.floor_div-before.result) (pos 0)) c.max-end.result
first-is c =
    let d = c.before.before.before.before.before in
    let minus = run (c.floor_div-before.result ∷ []) (neg (var 0)) (2 ^ 31 ∷ []) tt (before-within d, tt) in
    let greatest = back w64 c.max.type_inv ∙ c.max.ensures.value ∙ ap (λ (z : ℤ). int_max z (pos 0)) minus in
    c.min-first.ensures.value ∙ ap₂ int_min greatest (back w64 c.max-end.type_inv)

first-nn : (c : After-min-first) → pos 0 ≤ℤ c.min-first.result
first-nn c =
    rw (first-is c) (≤-min (int_max (neg_ℤ c.floor_div-before.result) (pos 0)) c.max-end.result (≤-max-right (neg_ℤ c.floor_div-before.result) (pos 0)) c.max-end.ensures.other_bound)

-- a number that is not negative, as an index
natural : (z : ℤ) → pos 0 ≤ℤ z → pos (nat_abs z) ≡ z
natural (pos n) h = refl
natural (negsuc n) h = absurd (omega zarith)

index : (z : ℤ) → mag z < 2 ^ 63 → pos 0 ≤ℤ z → pos (nat_abs (to_z w64 (of_z w64 z))) ≡ z
index z f h = ap (λ (y : ℤ). pos (nat_abs y)) {y = z} (back w64 f) ∙ natural z h

pub overflow_cast-result : goal.overflow_cast-result
overflow_cast-result c =
    let h : pos 0 ≤ℤ to_z w64 (of_z w64 c.min-first.result) = rw (back w64 c.min-first.type_inv) (first-nn c) in
    search rules

pub returns : goal.returns
returns c =
    let a = c.args in
    let e = c.before.before in
    let last = e.before.before in
    let the_end = index c.max-end.result c.max-end.type_inv c.max-end.ensures.other_bound in
    picks a.least a.greatest a.origin a.step a.extent c.requires.1 a.cells (before-is last.before) (last-is last) (the_end ∙ end_is e)
    (index c.min-first.result c.min-first.type_inv (first-nn c) ∙ first-is c ∙ ap (int_min (int_max (neg_ℤ c.floor_div-before.result) (pos 0))) (sym the_end))

pub overflow_sub-greatest : goal.overflow_sub-greatest
overflow_sub-greatest c = let s = c.before in (asks (ρ s) high range_bounds tt s.requires.0).2

pub overflow_cast-result-2 : goal.overflow_cast-result-2
overflow_cast-result-2 c =
    let h : pos 0 ≤ℤ to_z w64 (of_z w64 c.max-end.result) = rw (back w64 c.max-end.type_inv) c.max-end.ensures.other_bound in
    search rules
