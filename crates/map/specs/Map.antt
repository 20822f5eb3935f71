-- The map (occupancy grid): one bit a cell. Definitions only.
use Rattle.std.specs.Prelude.{Bool, true, false, ◌&&◌, List, [], ◌∷◌, ◌++◌, ℕ, zero, suc, ◌+◌, ◌-◌, ◌*◌, ◌/◌, ◌%◌, ◌^◌, eqb, ltb, get_or}

-- The map takes one bit a cell, rounded up to bytes.
abbrev pub map_length : ℕ → ℕ
map_length cells = (cells + 7) / 8

-- Cell n is bit 7 − (n mod 8) of byte n ÷ 8, bit 7 being the highest. Past the end of the bytes no cell is filled.
unfoldable pub is_filled : List ℕ → ℕ → Bool
is_filled s n = eqb (get_or s (n / 8) 0 / 2 ^ (7 - n % 8) % 2) 1

-- A truth as a bit.
abbrev pub bit : Bool → ℕ
bit true = 1
bit false = 0

-- How many numbers below n have the property.
unfoldable pub count_below : (ℕ → Bool) → ℕ → ℕ
count_below p zero = 0
count_below p (suc n) = count_below p n + bit (p n)

-- The byte whose bits, the highest first, say of the cells 8 × q to 8 × q + 7 whether they have the property; its first w bits.
unfoldable pub first_bits : (ℕ → Bool) → ℕ → ℕ → ℕ
first_bits p q zero = 0
first_bits p q (suc w) = first_bits p q w * 2 + bit (p (q * 8 + w))

abbrev pub map_byte : (ℕ → Bool) → ℕ → ℕ
map_byte p q = first_bits p q 8

-- f 0, f 1, …, f (n − 1)
unfoldable pub tabulate : {A : Type 0} → (ℕ → A) → ℕ → List A
tabulate f zero = []
tabulate f (suc n) = tabulate f n ++ (f n ∷ [])

-- The map of a grid with so many cells, in which exactly the cells with the property are filled. Unused bits of its last byte are zero.
unfoldable pub map_of : (ℕ → Bool) → ℕ → List ℕ
map_of p cells = tabulate (map_byte (λ n. ltb n cells && p n)) (map_length cells)
