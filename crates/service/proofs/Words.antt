-- What the words about a bar say, spelt out: so that none of them says less than it should.
--     few-weights    the weights of a bar that is shown are not negative, and add to at least 1 and to less than 1,073,741,824
--     point-inside   their point lies in the cell's closed cube
--     bar-lowest     the record is one of the file's, and no record before it reaches the cell
--     clear_none     clear is said only where no record of the file reaches the cell
--     cell-answered  of an accepted file no cell of the grid is refused
--     said           what the answer's cases say
-- Assumes nothing.
use mathlib.Core.List.{List, [], ◌∷◌}
use mathlib.Core.Path.{◌≡◌, refl}
use Prim.Native.Nat.{ℕ, ◌+◌, ◌<◌}
use lib.IntN.{pos, nat_abs}
use Rattle.geometry.specs.declared.Point.{Point}
use Rattle.geometry.specs.Geometry.{Axis, x_of, y_of, z_of, cube}
use Rattle.grid.specs.Grid.{cell_count, corner_of}
use Rattle.reach.specs.Reaches.{weighted_sum, Between, ReachesBox}
use Rattle.refusal.specs.Limit.{gives}
use Rattle.layout.specs.declared.Header.{Header}
use Rattle.frame.specs.File.{header_of, record_of}
use Rattle.frame.specs.Questions.{checked}
use Rattle.weights.specs.declared.Weights.{Weights}
use Rattle.std.specs.Prelude.{Some, None, Ok}
use Rattle.service.specs.Bar.{behind, said_bar, Shown}
use Rattle.service.proofs.Answers.{finding, behind-found}

module _ (s : List ℕ) (n : ℕ) where
  abbrev at : Point
  at = corner_of (header_of s).grid n

  abbrev edge : Point
  edge = cube (header_of s).grid.edge

  module _ {i : ℕ} {w : Weights} (b : Shown s n (Ok (Some (record { index = i; weights = w })))) where
    abbrev a0 : ℕ
    a0 = nat_abs w.w0

    abbrev a1 : ℕ
    a1 = nat_abs w.w1

    abbrev a2 : ℕ
    a2 = nat_abs w.w2

    pub few-weights : (w.w0 ≡ pos a0) × (w.w1 ≡ pos a1) × (w.w2 ≡ pos a2) × (0 < a0 + a1 + a2) × (a0 + a1 + a2 < 1073741824)
    few-weights = let v = b.shows in rw (v.w0, v.w1, v.w2) (refl, refl, refl, v.reaches.some, v.few)

    -- on an axis, the weighted sum of the record's corners lies between the cell's sides
    abbrev Inside : Axis → Type 0
    Inside a = Between at edge (a0 + a1 + a2) a (weighted_sum (record_of s i).triangle a0 a1 a2 a)

    pub point-inside : Inside x_of × Inside y_of × Inside z_of
    point-inside = let v = b.shows in rw (v.w0, v.w1, v.w2) (v.reaches.x, v.reaches.y, v.reaches.z)

    pub bar-lowest : (i < (header_of s).count) × ((j : ℕ) → j < i → ReachesBox (record_of s j).triangle at edge → ⊥)
    bar-lowest = (b.known, b.none-lower)

  pub clear_none : Shown s n (Ok None) → (j : ℕ) → j < (header_of s).count → ReachesBox (record_of s j).triangle at edge → ⊥
  clear_none none = none

  pub cell-answered : (h : Header) → checked s ≡ gives h → n < cell_count h.grid → behind s n ≡ gives (finding s n)
  cell-answered = behind-found s n

pub said : (w : Weights) → (said_bar (Ok None) ∷ said_bar (Ok (Some (record { index = 2; weights = w }))) ∷ []) ≡ (gives None ∷ gives (Some 2) ∷ [])
said w = refl
