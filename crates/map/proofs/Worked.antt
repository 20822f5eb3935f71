-- Worked examples, by computation on the definitions: a map of nine cells in which the cells 0, 6 and 8 are filled. Assumes nothing.
use mathlib.Core.Bool.{Bool, true, false, ◌||◌}
use mathlib.Core.List.{List, [], ◌∷◌}
use mathlib.Core.Path.{◌≡◌, refl}
use Prim.Native.Nat.{ℕ}
use lib.Dec.{eqb}
use Rattle.map.specs.Map.{map_length, is_filled, count_below, first_bits, tabulate, map_of}

-- a property that cells behind the map have too: the last bits are zero all the same
abbrev wanted : ℕ → Bool
wanted n = eqb n 0 || (eqb n 6 || (eqb n 8 || eqb n 9))

abbrev nine : List ℕ
nine = 0x82 ∷ 0x80 ∷ []

pub nine-cells : map_of wanted 9 ≡ nine
unfolding first_bits tabulate map_of
nine-cells = refl

-- bit 7 is the highest; a cell past the end of the bytes is not filled
pub filled-cells : tabulate (is_filled nine) 18 ≡ (true ∷ false ∷ false ∷ false ∷ false ∷ false ∷ true ∷ false ∷ true ∷ false ∷ false ∷ false ∷ false ∷ false ∷ false ∷ false ∷ false ∷ false ∷ [])
unfolding is_filled tabulate
filled-cells = refl

pub three-filled : count_below (is_filled nine) 9 ≡ 3
unfolding is_filled count_below
three-filled = refl

-- rounded up to bytes; the largest map has 32,768
pub lengths : (map_length 1 ∷ map_length 8 ∷ map_length 9 ∷ map_length 262144 ∷ []) ≡ (1 ∷ 1 ∷ 2 ∷ 32768 ∷ [])
lengths = refl
