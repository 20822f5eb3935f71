-- How the numbers of a header and of a record become bytes, by the lists of fields that they are read by. Definitions only.
use Rattle.std.specs.Prelude.{Bool, true, false, ◌&&◌, List, [], ◌∷◌, ℕ, ◌+◌, ◌-◌, ◌*◌, ◌^◌, ℤ, pos, neg_ℤ, nat_abs, ◌-ℤ◌}
use Rattle.std.specs.Int.Signed.{le_z}
use Rattle.bits.specs.Field.{complement_of, bytes_of}
use Rattle.layout.specs.declared.Layout.{Layout}
use Rattle.layout.specs.Layout.{Coding, plain, less_one, signed, FieldForm, header_fields, record_fields}

-- ---- what a field can hold
-- The least and the greatest number that w bits can hold.
abbrev pub least : Coding → (w : ℕ) → ℤ
least plain w = pos 0
least less_one w = pos 1
least signed w = neg_ℤ (pos (2 ^ (w - 1)))

abbrev pub greatest : Coding → (w : ℕ) → ℤ
greatest plain w = pos (2 ^ w) -ℤ pos 1
greatest less_one w = pos (2 ^ w)
greatest signed w = pos (2 ^ (w - 1)) -ℤ pos 1

-- Is a number one from a least to a greatest, both included?
abbrev pub between : (low high : ℤ) → ℤ → Bool
between low high z = le_z low z && le_z z high

abbrev pub can_hold : FieldForm → ℤ → Bool
can_hold f z = between (least f.coding f.bits) (greatest f.coding f.bits) z

-- Are there as many numbers as fields, and can each field hold its number?
abbrev pub can_hold_all : List FieldForm → List ℤ → Bool
can_hold_all [] [] = true
can_hold_all [] (z ∷ zs) = false
can_hold_all (f ∷ fs) [] = false
can_hold_all (f ∷ fs) (z ∷ zs) = can_hold f z && can_hold_all fs zs

-- ---- writing
-- The unsigned number that is stored for z in w bits: what `decoded` reads as z.
abbrev pub encoded : Coding → (w : ℕ) → ℤ → ℕ
encoded plain w z = nat_abs z
encoded less_one w z = nat_abs (z -ℤ pos 1)
encoded signed w z = complement_of w z

-- Fields that hold these numbers, one behind the other behind the bits of n, all as one number.
abbrev pub join : (n : ℕ) → List FieldForm → List ℤ → ℕ
join n [] zs = n
join n (f ∷ fs) [] = n
join n (f ∷ fs) (z ∷ zs) = join (n * 2 ^ f.bits + encoded f.coding f.bits z) fs zs

-- The bytes of a header's numbers; and of a record's.
unfoldable pub header_bytes : Layout → List ℤ → List ℕ
header_bytes l ns = bytes_of l.header (join 0 (header_fields l) ns)

unfoldable pub record_bytes : Layout → List ℤ → List ℕ
record_bytes l ns = bytes_of l.stride (join 0 (record_fields l) ns)
