-- The worked examples of document 01: the starred rows of its tables, as printed; and the route of request 2, which starts in cell 3 and names it. Definitions
-- only.
-- A grid of 2 × 2 × 2 cells, edge 10, origin 0, one triangle, kind 0.
use Rattle.std.specs.Prelude.{List, [], ◌∷◌, ◌++◌, ℕ, ℤ, pos, length, Some}
use Prim.Native.String.{String}
use Rattle.geometry.specs.declared.Point.{Point}
use Rattle.geometry.specs.Geometry.{point, triangle}
use Rattle.layout.specs.declared.Header.{Header}
use Rattle.refusal.specs.Limit.{Answer, gives}
use Rattle.layout.specs.declared.Record.{Record}
use Rattle.frame.specs.declared.Reading.{Reading}
use Rattle.frame.specs.Questions.{reading}
use Rattle.fill.specs.Fill.{filling, filled_bytes}
use Rattle.demand.specs.Route.{route_answer}
use Rattle.demand.specs.declared.Finding.{Finding}
use Rattle.demand.specs.declared.Finding.TheVariants.{Free, Blocked}

-- A route of two points, and what a test of it says.
pub record RouteRow : Type 0 where
  pub numbers : List ℤ
  pub says : Answer Finding

abbrev from : (x y z x' y' z' : ℕ) → Finding → RouteRow
from x y z x' y' z' f = record { numbers = pos x ∷ pos y ∷ pos z ∷ pos x' ∷ pos y' ∷ pos z' ∷ []; says = gives f }

-- A row: its letter; its triangle's record, as bytes, and what a reading of the file gives; the bytes that a fill leaves in a
-- buffer of AA 55, and what it says; routes on that map.
pub record Row : Type 0 where
  pub letter : String
  pub bytes : List ℕ
  pub contents : Answer Reading
  pub count : Answer ℕ
  pub map : List ℕ
  pub routes : List RouteRow

-- The header's bytes, and its values.
abbrev header : List ℕ
header = 0x10 ∷ 0x41 ∷ 0x04 ∷ 0x28 ∷ 0x00 ∷ 0x00 ∷ 0x00 ∷ 0x00 ∷ 0x00 ∷ 0x00 ∷ 0x10 ∷ 0x00 ∷ []

abbrev at : (x y z : ℕ) → Point
at x y z = point (pos x) (pos y) (pos z)

abbrev values : Header
values = record { version = 1; grid = record { nx = 2; ny = 2; nz = 2; edge = pos 10; origin = at 0 0 0 }; count = 1 }

-- A row from its corners, the bytes of its record, the number of filled cells, its map, and routes. The byte behind the map is kept.
abbrev row : String → (v0 v1 v2 : Point) → (bytes : List ℕ) → (count map : ℕ) → List RouteRow → Row
row l v0 v1 v2 b n m rs =
    let r : Record = record { kind = 0; triangle = triangle v0 v1 v2 } in
    record {
      letter = l;
      bytes = b;
      contents = gives (record { header = values; found = Some r });
      count = gives n;
      map = m ∷ 0x55 ∷ [];
      routes = rs;
    }

abbrev pub rows : List Row
rows =
    row "a" (at 5 5 5) (at 5 5 5) (at 5 5 5)
    (0x00 ∷ 0x05 ∷ 0x00 ∷ 0x14 ∷ 0x00 ∷ 0x50 ∷ 0x01 ∷ 0x40 ∷ 0x05 ∷ 0x00 ∷ 0x14 ∷ 0x00 ∷ 0x50 ∷ 0x01 ∷ 0x40 ∷ 0x05 ∷ []) 1 0x80 []
    ∷ row "b" (at 10 5 5) (at 10 5 5) (at 10 5 5)
    (0x00 ∷ 0x0a ∷ 0x00 ∷ 0x14 ∷ 0x00 ∷ 0x50 ∷ 0x02 ∷ 0x80 ∷ 0x05 ∷ 0x00 ∷ 0x14 ∷ 0x00 ∷ 0xa0 ∷ 0x01 ∷ 0x40 ∷ 0x05 ∷ []) 2 0xc0 []
    ∷ row "c" (at 10 10 10) (at 10 10 10) (at 10 10 10)
    (0x00 ∷ 0x0a ∷ 0x00 ∷ 0x28 ∷ 0x00 ∷ 0xa0 ∷ 0x02 ∷ 0x80 ∷ 0x0a ∷ 0x00 ∷ 0x28 ∷ 0x00 ∷ 0xa0 ∷ 0x02 ∷ 0x80 ∷ 0x0a ∷ []) 8 0xff []
    ∷ row "d" (at 20 5 5) (at 20 5 5) (at 20 5 5)
    (0x00 ∷ 0x14 ∷ 0x00 ∷ 0x14 ∷ 0x00 ∷ 0x50 ∷ 0x05 ∷ 0x00 ∷ 0x05 ∷ 0x00 ∷ 0x14 ∷ 0x01 ∷ 0x40 ∷ 0x01 ∷ 0x40 ∷ 0x05 ∷ []) 1 0x40 []
    ∷ row "e" (at 21 5 5) (at 21 5 5) (at 21 5 5)
    (0x00 ∷ 0x15 ∷ 0x00 ∷ 0x14 ∷ 0x00 ∷ 0x50 ∷ 0x05 ∷ 0x40 ∷ 0x05 ∷ 0x00 ∷ 0x14 ∷ 0x01 ∷ 0x50 ∷ 0x01 ∷ 0x40 ∷ 0x05 ∷ []) 0 0x00 []
    ∷ row "f" (at 0 20 5) (at 20 20 5) (at 20 0 5)
    (0x00 ∷ 0x00 ∷ 0x00 ∷ 0x50 ∷ 0x00 ∷ 0x50 ∷ 0x05 ∷ 0x00 ∷ 0x14 ∷ 0x00 ∷ 0x14 ∷ 0x01 ∷ 0x40 ∷ 0x00 ∷ 0x00 ∷ 0x05 ∷ []) 4 0xf0 []
    ∷ row "g" (at 1 20 5) (at 20 20 5) (at 20 1 5)
    (0x00 ∷ 0x01 ∷ 0x00 ∷ 0x50 ∷ 0x00 ∷ 0x50 ∷ 0x05 ∷ 0x00 ∷ 0x14 ∷ 0x00 ∷ 0x14 ∷ 0x01 ∷ 0x40 ∷ 0x00 ∷ 0x40 ∷ 0x05 ∷ []) 3 0x70
    (from 0 0 0 9 9 0 Free ∷ from 0 0 0 10 10 0 (Blocked 0 1) ∷ from 5 5 15 15 15 15 Free
    ∷ from 20 20 5 0 0 5 (Blocked 0 3) ∷ [])
    ∷ row "h" (at 30 0 0) (at 0 30 0) (at 0 0 30)
    (0x00 ∷ 0x1e ∷ 0x00 ∷ 0x00 ∷ 0x00 ∷ 0x00 ∷ 0x00 ∷ 0x00 ∷ 0x1e ∷ 0x00 ∷ 0x00 ∷ 0x00 ∷ 0x00 ∷ 0x00 ∷ 0x00 ∷ 0x1e ∷ []) 8 0xff []
    ∷ row "i" (at 31 0 0) (at 0 31 0) (at 0 0 31)
    (0x00 ∷ 0x1f ∷ 0x00 ∷ 0x00 ∷ 0x00 ∷ 0x00 ∷ 0x00 ∷ 0x00 ∷ 0x1f ∷ 0x00 ∷ 0x00 ∷ 0x00 ∷ 0x00 ∷ 0x00 ∷ 0x00 ∷ 0x1f ∷ []) 7 0x7f []
    ∷ []

-- The letters of the rows, and how many routes each has.
abbrev pub letters : List Row → List String
letters [] = []
letters (r ∷ rs) = r.letter ∷ letters rs

abbrev pub route_counts : List Row → List ℕ
route_counts [] = []
route_counts (r ∷ rs) = length r.routes ∷ route_counts rs

-- The buffer that a fill is lent.
abbrev buffer : List ℕ
buffer = 0xaa ∷ 0x55 ∷ []

-- The rows as the definitions of the calls give them: of each, the letter, the record's bytes and the routes' numbers are taken, and
-- everything else is computed.
abbrev routes_by : (file map : List ℕ) → List RouteRow → List RouteRow
routes_by s m [] = []
routes_by s m (r ∷ rs) = record { numbers = r.numbers; says = route_answer s m r.numbers } ∷ routes_by s m rs

abbrev row_by : Row → Row
row_by r =
    let s = header ++ r.bytes in
    record {
      letter = r.letter;
      bytes = r.bytes;
      contents = reading s 0;
      count = filling s buffer;
      map = filled_bytes s buffer;
      routes = routes_by s (filled_bytes s buffer) r.routes;
    }

abbrev pub rows_by : List Row → List Row
rows_by [] = []
rows_by (r ∷ rs) = row_by r ∷ rows_by rs
