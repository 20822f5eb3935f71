-- `numbers::record_numbers`: each small number is read back from its 32 bits.
use Rattle.std.proofs.Common.{◌≡◌, ◌∙◌, ap, refl, List, ◌∷◌, [], map, drop, ◌^◌, ℤ, to_z, of_z, w32, w64, arith}
use lib.Dec.{lit<}
use mir.Facts.{to_z-of_z, to_z_pos}
use Rattle.integers.specs.Within.{Within}
use Rattle.integers.proofs.Bounds.{within-fits}
use Rattle.numbers.specs.Numbers.{record_numbers}
use Rattle.numbers.specs.Inner.{Small}
use Rattle.numbers.proofs.record_numbers.Goals as goal

-- A small number, from 64 bits to 32 and back; and small numbers one by one.
back : {z : ℤ} → Within (2 ^ 24) z → to_z w32 (of_z w32 (to_z w64 (of_z w64 z))) ≡ z
back {z} h = ap (λ (x : ℤ). to_z w32 (of_z w32 x)) (to_z-of_z {w = w64} {z = z} (within-fits (lit< tt) h)) ∙ to_z-of_z {w = w32} {z = z} (within-fits (lit< tt) h)

all_back : (zs : List ℤ) → Small zs → map (λ z. to_z w32 (of_z w32 (to_z w64 (of_z w64 z)))) zs ≡ zs
all_back [] h = refl
all_back (z ∷ zs) h = λ i. back h.0 i ∷ all_back zs h.1 i

pub returns : goal.returns
returns c = λ i. to_z_pos w32 {n = c.args.rec.kind} (omega (arith, c.requires.0.within)) i ∷ all_back (drop 1 (record_numbers c.args.rec)) c.requires.1 i
