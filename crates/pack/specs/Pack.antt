-- A call's answer as one number of 64 bits: how it is packed, and how a caller takes it apart. Definitions only.
use Rattle.std.specs.Prelude.{cond, ℕ, ◌+◌, ◌*◌, ◌/◌, ◌%◌, ◌^◌, eqb}
use Rattle.refusal.specs.Limit.{Answer, gives, refused}

-- From the top: a tag of 8 bits, a number of 8 bits, a leg of 16 bits, and 32 bits for a count, a place or a cell.
abbrev pub packed : (tag number leg low : ℕ) → ℕ
packed tag number leg low = (tag * 2 ^ 8 + number % 2 ^ 8) * 2 ^ 48 + (leg % 2 ^ 16 * 2 ^ 32 + low % 2 ^ 32)

-- What a caller takes out of an answer.
abbrev pub tag_of : ℕ → ℕ
tag_of r = r / 2 ^ 56

abbrev pub limit_number_of : ℕ → ℕ
limit_number_of r = r / 2 ^ 48 % 2 ^ 8

abbrev pub leg_of : ℕ → ℕ
leg_of r = r / 2 ^ 32 % 2 ^ 16

-- A place, a cell or a count.
abbrev pub low_of : ℕ → ℕ
low_of r = r % 2 ^ 32

-- A refusal: tag 1, the number, the place.
abbrev pub packed_refusal : (number place : ℕ) → ℕ
packed_refusal n p = packed 1 n 0 p

-- A refusal where the tag is 1, and else another answer.
abbrev pub or_refusal : {A : Type 0} → ℕ → Answer A → Answer A
or_refusal r a = cond (eqb (tag_of r) 1) (refused (limit_number_of r) (low_of r)) a

-- A call that gives a count or a length: tag 0 and the number, or the refusal.
abbrev pub packed_count : Answer ℕ → ℕ
packed_count (gives n) = packed 0 0 0 n
packed_count (refused n p) = packed_refusal n p

unfoldable pub unpacked_count : ℕ → Answer ℕ
unpacked_count r = or_refusal r (gives (low_of r))
