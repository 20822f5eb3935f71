-- `scan::put_corner`: three stores.
use Rattle.std.proofs.Common.{◌≡◌, List, [], ◌∷◌, length, set, ℤ, refl, w32, arith, rules}
use mir.Facts.{to_z-of_z}
use Rattle.scan.proofs.put_corner.Goals as goal

-- three stores into a list of three
set-three : (zs : List ℤ) (a b c : ℤ) → length zs ≡ 3 → set (set (set zs 0 a) 1 b) 2 c ≡ a ∷ b ∷ c ∷ []
set-three [] a b c e = absurd (omega arith)
set-three (x ∷ []) a b c e = absurd (omega arith)
set-three (x ∷ y ∷ []) a b c e = absurd (omega arith)
set-three (x ∷ y ∷ z ∷ []) a b c e = refl
set-three (x ∷ y ∷ z ∷ w ∷ zs) a b c e = absurd (omega arith)

pub returns : goal.returns
returns c =
    let v = c.args.c in
    rw (to_z-of_z {w = w32} {z = v.x} (search rules), to_z-of_z {w = w32} {z = v.y} (search rules), to_z-of_z {w = w32} {z = v.z} (search rules))
    (set-three c.args.part.now v.x v.y v.z c.requires)
