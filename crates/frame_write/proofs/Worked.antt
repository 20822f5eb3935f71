-- Worked examples, by computation on the definitions: the order of a grid's values, the writer's questions in turn, and the bytes behind a file and after a refusal.
-- Assumes nothing.
use Rattle.std.specs.Prelude.{ℕ, Ok}
use mathlib.Core.List.{List, [], ◌∷◌}
use mathlib.Core.Path.{◌≡◌, refl}
use lib.IntN.{ℤ, pos}
use lib.ListN.{replicate}
use Rattle.bits.specs.Field.{bytes_of}
use Rattle.refusal.specs.Limit.{Answer, gives, refused, said as said_answer}
use Rattle.refusal.specs.Questions.{answered}
use Rattle.layout_write.specs.Writing.{header_bytes}
use Rattle.writable.specs.Fits.{all_below}
use Rattle.frame_write.specs.declared.GridValues.{GridValues}
use Rattle.frame_write.specs.Write.{grid_from, concat_below, writing, written_bytes}

-- cells along x, y, z; cell edge; origin x, y, z
pub in_order : grid_from (pos 1 ∷ pos 2 ∷ pos 3 ∷ pos 4 ∷ pos 5 ∷ pos 6 ∷ pos 7 ∷ [])
    ≡ record { nx = pos 1; ny = pos 2; nz = pos 3; edge = pos 4; x = pos 5; y = pos 6; z = pos 7 }
in_order = refl

-- 2 × 2 × 2 cells with this edge, origin 0; and a triangle of this kind
abbrev grid : (edge : ℤ) → GridValues
grid s = record { nx = pos 2; ny = pos 2; nz = pos 2; edge = s; x = pos 0; y = pos 0; z = pos 0 }

abbrev one : (kind : ℤ) → List ℤ
one k = k ∷ replicate 9 (pos 5)

-- 12 comes before 11: a grid that does not fit, a part triangle, kind 3
pub no-grid : writing (grid (pos 0)) [] 0 ≡ refused 12 0
unfolding answered all_below writing
no-grid = refl

pub part : writing (grid (pos 10)) (pos 0 ∷ []) 0 ≡ refused 12 0
unfolding answered all_below writing
part = refl

pub kind_3 : writing (grid (pos 10)) (one (pos 3)) 0 ≡ refused 12 0
unfolding answered all_below writing
kind_3 = refl

-- then the room: 28 bytes are enough, 27 are not
pub no_room : writing (grid (pos 10)) (one (pos 0)) 27 ≡ refused 11 0
unfolding answered all_below writing
no_room = refl

pub room : writing (grid (pos 10)) (one (pos 2)) 28 ≡ gives 28
unfolding answered all_below writing
room = refl

-- a file with no triangle into 13 bytes, and into 11
pub behind : written_bytes (grid (pos 10)) [] (replicate 13 0xaa) ≡ (0x10 ∷ 0x41 ∷ 0x04 ∷ 0x28 ∷ 0x00 ∷ 0x00 ∷ 0x00 ∷ 0x00 ∷ 0x00 ∷ 0x00 ∷ 0x00 ∷ 0x00 ∷ 0xaa ∷ [])
unfolding answered all_below writing bytes_of header_bytes concat_below written_bytes
behind = refl

pub kept : written_bytes (grid (pos 10)) [] (replicate 11 0xaa) ≡ replicate 11 0xaa
unfolding answered all_below writing written_bytes
kept = refl

pub said : ◌≡◌ {A = Answer ℕ} (said_answer (Ok 28)) (gives 28)
said = refl
