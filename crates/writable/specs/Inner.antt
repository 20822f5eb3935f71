-- What the tests ask and answer. Definitions only; no public promise cites them.
use Rattle.std.specs.Prelude.{Bool, List, map, ℕ, ◌*◌, ℤ, pos, length, get_or}
use Rattle.std.specs.List.{list_all, zip}
use Rattle.layout.specs.Layout.{FieldForm}
use Rattle.layout_write.specs.Writing.{least, greatest, between}
use Rattle.writable.specs.declared.Bounds.{Bounds}
use Rattle.writable.specs.Fits.{all_below}

-- The least and the greatest number that a field can hold; and each field.
abbrev pub bounds_of_field : FieldForm → Bounds
bounds_of_field f = record { low = least f.coding f.bits; high = greatest f.coding f.bits }

abbrev pub bounds_of : List FieldForm → List Bounds
bounds_of fs = map bounds_of_field fs

-- Each number of a list lies within its own bounds; within the same; and each tenth, from the first on, is a kind.
abbrev pub each_between : List Bounds → List ℤ → Bool
each_between bs zs = list_all (λ pair. between pair.0.low pair.0.high pair.1) (zip bs zs)

abbrev pub all_between : (low high : ℤ) → List ℤ → Bool
all_between low high zs = all_below (λ i. between low high (get_or zs i (pos 0))) (length zs)

abbrev pub kinds_between : List ℤ → ℕ → Bool
kinds_between zs n = all_below (λ i. between (pos 0) (pos 2) (get_or zs (i * 10) (pos 0))) n
