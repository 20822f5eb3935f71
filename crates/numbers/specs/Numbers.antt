-- The numbers that a plain reading puts out, and how a caller takes them back. Definitions only.
use Rattle.std.specs.Prelude.{Option, Some, None, cond, List, [], ◌∷◌, ◌++◌, ℕ, leb, eqb, ℤ, pos, length, drop}
use Rattle.layout.specs.declared.Header.{Header}
use Rattle.layout.specs.declared.Record.{Record}
use Rattle.layout.specs.Values.{header_from, record_from}
use Rattle.refusal.specs.Limit.{Answer, gives, refused}
use Rattle.frame.specs.declared.Reading.{Reading}

-- The header's values: version, cells along x, y, z, cell edge, origin x, y, z, triangle count.
abbrev pub header_numbers : Header → List ℤ
header_numbers h =
    let g = h.grid in
    pos h.version ∷ pos g.nx ∷ pos g.ny ∷ pos g.nz ∷ g.edge ∷ g.origin.x ∷ g.origin.y ∷ g.origin.z ∷ pos h.count ∷ []

-- A record's ten numbers: kind, then x, y, z of the three corners.
abbrev pub record_numbers : Record → List ℤ
record_numbers r =
    let t = r.triangle in
    pos r.kind ∷ t.v0.x ∷ t.v0.y ∷ t.v0.z ∷ t.v1.x ∷ t.v1.y ∷ t.v1.z ∷ t.v2.x ∷ t.v2.y ∷ t.v2.z ∷ []

-- What a reading puts out: the header's values and the record's, the header's alone where there is no such record, and
-- nothing where the file is refused.
abbrev pub found_numbers : Option Record → List ℤ
found_numbers (Some r) = record_numbers r
found_numbers None = []

abbrev pub contents_numbers : Reading → List ℤ
contents_numbers c = header_numbers c.header ++ found_numbers c.found

abbrev pub read_numbers : Answer Reading → List ℤ
read_numbers (gives c) = contents_numbers c
read_numbers (refused n p) = []

-- How many they are: 19, or 9.
abbrev pub numbers_with : Option Record → ℕ
numbers_with (Some r) = 19
numbers_with None = 9

abbrev pub numbers_in : Reading → ℕ
numbers_in c = numbers_with c.found

-- A lent list after numbers were put out: they stand at its start and the rest is as it was; all of it is as it was where
-- it has no room for them.
abbrev pub written : List ℤ → List ℤ → List ℤ
written ns out = cond (leb (length ns) (length out)) (ns ++ drop (length ns) out) out

-- ---- back
-- 19 numbers are a header's values and a record's; 9 are a header's.
abbrev pub contents_from : (count : ℕ) → List ℤ → Reading
contents_from n ns = record { header = header_from ns; found = cond (eqb n 19) (Some (record_from (drop 9 ns))) None }
