-- The starred rows of document 01, by computation on the definitions themselves, as one statement over the list: each row is what the
-- definitions of reading, fill and route test give. The list has the nine rows, and the routes of row g: the three that are starred, and that of request 2.
-- Assumes nothing.
use mathlib.Core.List.{[], ◌∷◌}
use mathlib.Core.Path.{◌≡◌, refl}
use Rattle.bits.specs.Field.{bit_at, field_at, signed_at}
use Rattle.refusal.specs.Questions.{answered, of_each}
use Rattle.grid.specs.Grid.{inside}
use Rattle.map.specs.Map.{is_filled, count_below, first_bits, tabulate, map_of}
use Rattle.overlap.specs.Rule.{overlaps_box}
use Rattle.layout.specs.Values.{header_in, reserved_in, kind_in, record_in}
use Rattle.frame.specs.Questions.{reading}
use Rattle.fill.specs.Fill.{obstacles, any_of, filling, filled_bytes}
use Rattle.entry.specs.Entry.{later, entry_on, entry}
use Rattle.first_hit.specs.FirstHit.{nearest, first_hit}
use Rattle.demand.specs.Route.{points_of, first_blocked, tested, route_answer}
use Rattle.worked.specs.Worked.{rows, rows_by, letters, route_counts}

pub lettered : letters rows ≡ ("a" ∷ "b" ∷ "c" ∷ "d" ∷ "e" ∷ "f" ∷ "g" ∷ "h" ∷ "i" ∷ [])
lettered = refl

pub routed : route_counts rows ≡ (0 ∷ 0 ∷ 0 ∷ 0 ∷ 0 ∷ 0 ∷ 4 ∷ 0 ∷ 0 ∷ [])
routed = refl

pub worked : rows_by rows ≡ rows
unfolding bit_at field_at signed_at header_in reserved_in kind_in record_in answered of_each reading overlaps_box is_filled count_below first_bits tabulate map_of obstacles any_of filling filled_bytes points_of later entry_on entry nearest first_hit first_blocked tested inside route_answer
worked = refl
