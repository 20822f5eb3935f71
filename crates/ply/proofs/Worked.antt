-- Places and indices, by computation on the definitions.
--     no-corners, most-corners   where the next face begins
--     wide-index, minus_one      an index has 32 bits
-- Assumes nothing.
use mathlib.Core.List.{[], ◌∷◌}
use mathlib.Core.Path.{◌≡◌, refl}
use lib.IntN.{pos, negsuc}
use lib.ListN.{replicate}
use Rattle.ply.specs.Body.{face_from, index_at}

-- ---- where the next face begins
pub no-corners : face_from (0 ∷ []) 0 1 ≡ 1
unfolding face_from
no-corners = refl

pub most-corners : face_from (255 ∷ replicate 1020 0x00) 0 1 ≡ 1021
unfolding face_from
most-corners = refl

-- ---- indices
-- 65,536
pub wide-index : index_at (0x00 ∷ 0x00 ∷ 0x01 ∷ 0x00 ∷ []) 0 ≡ pos 65536
wide-index = refl

pub minus_one : index_at (0xff ∷ 0xff ∷ 0xff ∷ 0xff ∷ []) 0 ≡ negsuc 0
minus_one = refl
