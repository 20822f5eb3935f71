-- Worked examples, by computation on the definitions: question 8 of a file with nine cells and no triangle, the bytes that are left, and what the answer's cases say.
-- Assumes nothing.
use mathlib.Core.List.{List, [], ◌∷◌}
use mathlib.Core.Path.{◌≡◌, refl}
use Prim.Native.Nat.{ℕ}
use Rattle.bits.specs.Field.{bit_at, field_at, signed_at}
use Rattle.std.specs.Prelude.{Result, Ok, Err, map}
use Rattle.refusal.specs.declared.Limit.{Limit}
use Rattle.refusal.specs.declared.Limit.TheVariants.{UnusedKind}
use Rattle.refusal.specs.Limit.{Answer, gives, refused}
use Rattle.refusal.specs.Limit as words
use Rattle.refusal.specs.Questions.{answered, of_each}
use Rattle.map.specs.Map.{count_below, first_bits, tabulate, map_of}
use Rattle.layout.specs.Values.{header_in, reserved_in, kind_in}
use Rattle.fill.specs.Fill.{obstacles, any_of, filling, filled_bytes}

-- 9 × 1 × 1 cells, edge 10, origin 0
abbrev nine : List ℕ
nine = 0x12 ∷ 0x00 ∷ 0x00 ∷ 0x28 ∷ 0x00 ∷ 0x00 ∷ 0x00 ∷ 0x00 ∷ 0x00 ∷ 0x00 ∷ 0x00 ∷ 0x00 ∷ []

pub short-map : filling nine (0xaa ∷ []) ≡ refused 8 0
unfolding bit_at field_at signed_at header_in reserved_in kind_in answered of_each filling
short-map = refl

pub long-enough : filling nine (0xaa ∷ 0xbb ∷ []) ≡ gives 0
unfolding bit_at field_at signed_at header_in reserved_in kind_in answered of_each tabulate count_below obstacles any_of filling
long-enough = refl

pub kept : filled_bytes nine (0xaa ∷ []) ≡ (0xaa ∷ [])
unfolding bit_at field_at signed_at header_in reserved_in kind_in answered of_each filling filled_bytes
kept = refl

pub emptied : filled_bytes nine (0xaa ∷ 0xbb ∷ 0xcc ∷ []) ≡ (0x00 ∷ 0x00 ∷ 0xcc ∷ [])
unfolding bit_at field_at signed_at header_in reserved_in kind_in answered of_each count_below first_bits tabulate map_of obstacles any_of filling filled_bytes
emptied = refl

-- what the answer's cases say
abbrev said_each : Result ℕ Limit → Answer ℕ
said_each r = words.said r

abbrev answers : List (Result ℕ Limit)
answers = Ok 3 ∷ Err (UnusedKind 2) ∷ []

pub said : map said_each answers ≡ (gives 3 ∷ refused 7 2 ∷ [])
said = refl
