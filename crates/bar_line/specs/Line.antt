-- The bar behind a cell, as text: the answer, and the lines for people. Definitions only.
use Rattle.std.specs.Prelude.{List, [], ◌∷◌, ◌++◌, ℕ, suc, ◌+◌, ◌*◌, ◌/◌, ℤ, pos, negsuc, neg_ℤ, nat_abs, ◌+ℤ◌, ◌*ℤ◌}
use Rattle.geometry.specs.declared.Triangle.{Triangle}
use Rattle.geometry.specs.Geometry.{Axis, x_of, y_of, z_of}
use Rattle.grid.specs.declared.Grid.{Grid}
use Rattle.layout.specs.declared.Record.{Record}
use Rattle.text.specs.Text.{decimal, space, spaced, line_feed}
use Rattle.frame_text.specs.Frame.{record_line}
use Rattle.cell_line.specs.Line.{box_line}
use Rattle.weights.specs.declared.Weights.{Weights}

-- ---- the answer
-- "CLEAR"
abbrev pub clear_line : List ℕ
clear_line = 67 ∷ 76 ∷ 69 ∷ 65 ∷ 82 ∷ line_feed

-- "BAR i"
abbrev pub bar_line : ℕ → List ℕ
bar_line i = (66 ∷ 65 ∷ 82 ∷ 32 ∷ []) ++ decimal i ++ line_feed

-- ---- the weighted point
-- n/d in thousandths, to the nearest whole number; a half goes up.
abbrev pub nearest_thousandth : (n d : ℕ) → ℕ
nearest_thousandth n d = (2000 * n + d) / (2 * d)

-- The same of a number with a sign, and a positive d: a half goes away from zero.
abbrev pub thousandths : (n d : ℤ) → ℤ
thousandths (pos n) d = pos (nearest_thousandth n (nat_abs d))
thousandths (negsuc n) d = neg_ℤ (pos (nearest_thousandth (suc n) (nat_abs d)))

-- The weights, added up.
abbrev pub total : Weights → ℤ
total w = w.w0 +ℤ w.w1 +ℤ w.w2

-- The corners' weighted sum on an axis.
abbrev pub sum_on : Triangle → Weights → Axis → ℤ
sum_on t w a = w.w0 *ℤ a t.v0 +ℤ w.w1 *ℤ a t.v1 +ℤ w.w2 *ℤ a t.v2

-- Where the weighted point is on an axis, in thousandths of a millimetre.
abbrev pub point_on : Triangle → Weights → Axis → ℤ
point_on t w a = thousandths (sum_on t w a) (total w)

-- Its x, y and z.
abbrev pub point_numbers : Triangle → Weights → List ℤ
point_numbers t w = point_on t w x_of ∷ point_on t w y_of ∷ point_on t w z_of ∷ []

-- ---- the lines for people
-- "STEEL i", and the record: its ten numbers, and its kind in words.
abbrev pub steel_line : ℕ → Record → List ℕ
steel_line i r = (83 ∷ 84 ∷ 69 ∷ 69 ∷ 76 ∷ 32 ∷ []) ++ decimal i ++ space ++ record_line r

-- "POINT x y z"
abbrev pub point_line : Triangle → Weights → List ℕ
point_line t w = (80 ∷ 79 ∷ 73 ∷ 78 ∷ 84 ∷ 32 ∷ []) ++ spaced (point_numbers t w) ++ line_feed

-- Cell n of a grid, record i of a file, and weights that show that it reaches the cell.
abbrev pub behind_lines : Grid → (n i : ℕ) → Record → Weights → List ℕ
behind_lines g n i r w = box_line g n ++ steel_line i r ++ point_line r.triangle w
