-- The numbers that a reading puts out lead back to it.
--     contents-back    the values
--     numbers-count, numbers-few    how many they are
-- Assumes nothing.
use mathlib.Core.List.{List, ◌++◌}
use mathlib.Core.Path.{◌≡◌, refl}
use Prim.Native.Nat.{◌^◌, ◌<◌}
use lib.Dec.{lit<}
use lib.IntN.{ℤ}
use lib.ListN.{length}
use Rattle.std.specs.Prelude.{Option, Some, None}
use Rattle.layout.specs.declared.Record.{Record}
use Rattle.frame.specs.declared.Reading.{Reading}
use Rattle.numbers.specs.Numbers.{header_numbers, found_numbers, contents_numbers, numbers_with, numbers_in, contents_from}

-- The numbers at the start of a list are the reading's, whatever stands behind them.
pub contents-back : (c : Reading) (rest : List ℤ) → contents_from (numbers_in c) (contents_numbers c ++ rest) ≡ c
contents-back c rest = go c.found
  where
    go : (f : Option Record) → let r : Reading = record { header = c.header; found = f } in contents_from (numbers_in r) (contents_numbers r ++ rest) ≡ r
    go (Some r) = refl
    go None = refl

pub numbers-count : (c : Reading) → length (contents_numbers c) ≡ numbers_in c
numbers-count c = go c.found
  where
    go : (f : Option Record) → length (header_numbers c.header ++ found_numbers f) ≡ numbers_with f
    go (Some r) = refl
    go None = refl

pub numbers-few : (c : Reading) → numbers_in c < 2 ^ 32
numbers-few c = go c.found
  where
    go : (f : Option Record) → numbers_with f < 2 ^ 32
    go (Some r) = lit< tt
    go None = lit< tt
