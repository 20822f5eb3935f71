-- The numbers of the calls' answers fit the bits that they are packed into.
--     filling-fits, beginning-fits, …         each call
-- Assumes nothing.
use mathlib.Core.Bool.{Bool, true, false, ◌&&◌, and-eq-true_iff}
use mathlib.Core.List.{List, [], ◌∷◌}
use mathlib.Core.Path.{◌≡◌, refl, sym, subst}
use Prim.Native.Nat.{ℕ, ◌*◌, ◌%◌, ◌^◌, ◌<◌, ◌≤◌}
use native.Mathlib.Nat.{mul-le-mul}
use native.Mathlib.Omega.{arith}
use borrow.Author.Tests.{leb-true}
use lib.Dec.{leb, eqb, lit<}
use lib.IntN.{ℤ}
use lib.ListN.{length}
use Rattle.layout.specs.declared.Header.{Header}
use Rattle.layout.specs.Layout.{version1}
use Rattle.frame.specs.File.{header_of}
use Rattle.refusal.specs.Limit.{Answer, gives, refused}
use Rattle.refusal.specs.Questions.{answered, of_each}
use Rattle.refusal.specs.Inner.{Passing, asked}
use Rattle.frame.specs.Questions.{file_questions, reading}
use Rattle.refusal.proofs.Asking.{stopped, through, and_then, first-append}
use Rattle.layout.proofs.Bounds.{header-bounded}
use Rattle.grid.specs.Grid.{cell_count}
use Rattle.grid.specs.declared.Grid.{Grid}
use Rattle.geometry.specs.declared.Point.{Point}
use Rattle.map.specs.Map.{is_filled, count_below}
use Rattle.map.proofs.Counts.{count_most}
use Rattle.fill.specs.Fill.{grid_of, filled_in, map_question, fill_questions, filling}
use Rattle.steps.specs.Steps.{beginning, joining, ending}
use Rattle.steps.proofs.Joined.{present-most}
use Rattle.demand.specs.Route.{point_count, points_of, tested, count_fits, point_question, point_questions, route_answer}
use Rattle.demand.specs.declared.Finding.{Finding}
use Rattle.demand.specs.declared.Finding.TheVariants.{Free, Blocked}
use Rattle.demand.proofs.Points.{points-length}
use Rattle.demand.proofs.Demand.{blocked-in}
use Rattle.pack.proofs.Unpack.{Fits, FitsCount, FitsAlways}
use Rattle.pack.proofs.Fitting.{FitAll, fit_append, fit-each, answered-fits}
use Rattle.pack.proofs.File.{file-fits}
use Rattle.stall.proofs.Unpack.{FitsFinding}

-- ---- questions
module _ {A : Type 0} (P : A → Type 0) where
  then-fits : (v : Passing) (w : Answer A) → Fits FitsAlways v → Fits P w → Fits P (and_then v w)
  then-fits (gives u) w f g = g
  then-fits (refused n p) w f g = f

-- ---- questions 1 to 8
module _ (s : List ℕ) where
  abbrev h : Header
  h = header_of s

  fill-fits : (len : ℕ) → FitAll (fill_questions s len)
  fill-fits len = fit_append (file_questions s) (map_question (grid_of s) len ∷ []) (file-fits s) ((lit< tt, lit< tt), tt)

  cells-most : cell_count (grid_of s) ≤ 64 * 64 * 64
  cells-most = let g = (header-bounded version1 s).grid in mul-le-mul (mul-le-mul g.x.most g.y.most) g.z.most

  -- ---- the calls
  pub reading-fits : (i : ℕ) → Fits FitsAlways (reading s i)
  unfolding reading
  reading-fits i = answered-fits FitsAlways _ (file_questions s) (file-fits s) tt

  -- a call that puts these questions and gives a small number
  count-fits : (len : ℕ) {n : ℕ} → n < 2 ^ 32 → Fits FitsCount (answered (fill_questions s len) n)
  count-fits len = answered-fits FitsCount _ (fill_questions s len) (fill-fits len)

  count-lt : h.count < 4096
  count-lt = (header-bounded version1 s).count

  few-filled : (p : ℕ → Bool) → count_below p (cell_count (grid_of s)) < 2 ^ 32
  few-filled p = omega (arith, cells-most, count_most p (cell_count (grid_of s)))

  pub beginning-fits : (m : List ℕ) → Fits FitsCount (beginning s m)
  unfolding beginning
  beginning-fits m = count-fits (length m) (omega (arith, count-lt))

  pub joining-fits : (m : List ℕ) (first count : ℕ) → Fits FitsCount (joining s m first count)
  unfolding joining
  joining-fits m first count = count-fits (length m) (omega (arith, count-lt, present-most h.count first count))

  pub ending-fits : (m : List ℕ) → Fits FitsCount (ending s m)
  unfolding ending
  ending-fits m = count-fits (length m) (few-filled (is_filled m))

  pub filling-fits : (m : List ℕ) → Fits FitsCount (filling s m)
  unfolding filling
  filling-fits m = count-fits (length m) (few-filled (filled_in s))

finding-fits : (filled : ℕ → Bool) (g : Grid) (ps : List Point) → length ps ≤ 64 → cell_count g ≤ 64 * 64 * 64 → FitsFinding (tested filled g ps)
finding-fits filled g ps few-points few-cells = go (tested filled g ps) refl
  where
    go : (f : Finding) → tested filled g ps ≡ f → FitsFinding f
    go Free e = tt
    go (Blocked m n) e = let (lm, ln, hit) = blocked-in filled g ps m n e in (omega (arith, lm), omega (arith, ln))

module _ (s m : List ℕ) (ns : List ℤ) where
  finding : Finding
  finding = tested (is_filled m) (grid_of s) (points_of ns)

  points-fit : (b : Bool) → count_fits ns ≡ b → Fits FitsFinding (answered (point_questions (grid_of s) ns) finding)
  unfolding finding
  points-fit false e = subst (Fits FitsFinding) (sym (stopped _ _ _ e)) (lit< tt, lit< tt)
  points-fit true e =
      let count = (and-eq-true_iff (leb 2 (point_count ns)) (leb (point_count ns) 64 && eqb (length ns % 3) 0)).0 e in
      let most = leb-true (point_count ns) 64 ((and-eq-true_iff (leb (point_count ns) 64) (eqb (length ns % 3) 0)).0 count.1).0 in
      let points : length (points_of ns) ≤ 64 = omega (arith, most, points-length ns) in
      subst (Fits FitsFinding) (sym (through _ _ _ e))
      (answered-fits FitsFinding _ (of_each (point_question (grid_of s) (points_of ns)) (length (points_of ns)))
      (fit-each _ _ (λ i l. (lit< tt, omega (arith, l, points))))
      (finding-fits (is_filled m) (grid_of s) (points_of ns) points (cells-most s)))

  pub route-fits : Fits FitsFinding (route_answer s m ns)
  unfolding route_answer finding
  route-fits =
      let q = fill_questions s (length m) in
      subst (Fits FitsFinding) (sym (first-append finding q (point_questions (grid_of s) ns)))
      (then-fits FitsFinding (asked q) _ (answered-fits FitsAlways tt q (fill-fits s (length m)) tt) (points-fit (count_fits ns) refl))
