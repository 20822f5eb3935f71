-- Worked examples, by computation on the definitions: what each step says of frame g of document 01, which has one record. Assumes nothing.
use mathlib.Core.List.{List, [], ◌∷◌}
use mathlib.Core.Path.{◌≡◌, refl}
use Prim.Native.Nat.{ℕ}
use Rattle.bits.specs.Field.{bit_at, field_at, signed_at}
use Rattle.std.specs.Prelude.{Result, Ok}
use Rattle.refusal.specs.declared.Limit.{Limit}
use Rattle.refusal.specs.Limit.{gives, refused}
use Rattle.refusal.specs.Limit as words
use Rattle.refusal.specs.Questions.{answered, of_each}
use Rattle.map.specs.Map.{is_filled, count_below}
use Rattle.layout.specs.Values.{header_in, reserved_in, kind_in}
use Rattle.steps.specs.Steps.{present, beginning, joining, ending}

abbrev g : List ℕ
g = 0x10 ∷ 0x41 ∷ 0x04 ∷ 0x28 ∷ 0x00 ∷ 0x00 ∷ 0x00 ∷ 0x00 ∷ 0x00 ∷ 0x00 ∷ 0x10 ∷ 0x00 ∷ 0x00 ∷ 0x01 ∷ 0x00 ∷ 0x50 ∷ 0x00 ∷ 0x50 ∷ 0x05 ∷ 0x00 ∷ 0x14 ∷ 0x00 ∷ 0x14 ∷ 0x01 ∷ 0x40 ∷ 0x00 ∷ 0x40 ∷ 0x05 ∷ []

-- so many records; so many that join, of five from number 0 on, and from number 1 on; and the filled cells of the map, which the second byte is behind
pub said : (beginning g (0xaa ∷ []) ∷ joining g (0x00 ∷ []) 0 5 ∷ joining g (0x00 ∷ []) 1 5 ∷ ending g (0x70 ∷ 0xff ∷ []) ∷ []) ≡ (gives 1 ∷ gives 1 ∷ gives 0 ∷ gives 3 ∷ [])
unfolding bit_at field_at signed_at header_in reserved_in kind_in answered of_each is_filled count_below beginning joining ending
said = refl

pub short-map : (beginning g [] ∷ joining g [] 0 1 ∷ ending g [] ∷ []) ≡ (refused 8 0 ∷ refused 8 0 ∷ refused 8 0 ∷ [])
unfolding bit_at field_at signed_at header_in reserved_in kind_in answered of_each beginning joining ending
short-map = refl

-- of ten records: all of a range, its part, none
pub parts : (present 10 3 4 ∷ present 10 8 4 ∷ present 10 10 4 ∷ present 10 12 4 ∷ []) ≡ (4 ∷ 2 ∷ 0 ∷ 0 ∷ [])
parts = refl

abbrev done : Result ℕ Limit
done = Ok 3

pub said-step : words.said done ≡ gives 3
said-step = refl
