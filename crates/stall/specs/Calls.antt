-- The answers of the calls, packed, and how a caller unpacks them. Definitions only.
use Rattle.std.specs.Prelude.{cond, List, ℕ, leb, eqb, ℤ}
use Rattle.refusal.specs.Limit.{Answer, gives, refused}
use Rattle.frame.specs.declared.Reading.{Reading}
use Rattle.demand.specs.declared.Finding.{Finding}
use Rattle.demand.specs.declared.Finding.TheVariants.{Free, Blocked}
use Rattle.numbers.specs.Numbers.{numbers_in, contents_from}
use Rattle.pack.specs.Pack.{packed, tag_of, leg_of, low_of, packed_refusal, or_refusal}

-- A fill, or a step of one, gives a count: `pack` says how that is packed.

-- ---- a route test: tag 2 alone for a free route, tag 3 with the leg and the cell for a blocked one, or the refusal
abbrev pub packed_route : Answer Finding → ℕ
packed_route (gives Free) = packed 2 0 0 0
packed_route (gives (Blocked m n)) = packed 3 0 m n
packed_route (refused n p) = packed_refusal n p

unfoldable pub unpacked_route : ℕ → Answer Finding
unpacked_route r = or_refusal r (gives (cond (eqb (tag_of r) 2) Free (Blocked (leg_of r) (low_of r))))

-- ---- a plain reading, which puts its numbers into a lent list
-- They were written; or the list has no room for so many, and nothing was written.
pub data Outcome : Type 0 where
  wrote : Reading → Outcome
  short : (wanted : ℕ) → Outcome

-- By the reading's answer and the room.
abbrev pub roomed : Answer Reading → (room : ℕ) → Answer Outcome
roomed (gives c) room = gives (cond (leb (numbers_in c) room) (wrote c) (short (numbers_in c)))
roomed (refused n p) room = refused n p

-- Tag 0 and how many numbers were written; tag 4 and how many are wanted; or the refusal.
abbrev pub packed_reading : Answer Outcome → ℕ
packed_reading (gives (wrote c)) = packed 0 0 0 (numbers_in c)
packed_reading (gives (short n)) = packed 4 0 0 n
packed_reading (refused n p) = packed_refusal n p

-- The caller looks at the list too.
unfoldable pub unpacked_reading : ℕ → List ℤ → Answer Outcome
unpacked_reading r out = or_refusal r (gives (cond (eqb (tag_of r) 4) (short (low_of r)) (wrote (contents_from (low_of r) out))))
