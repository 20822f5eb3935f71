-- `scan::triangle`: kind 0, and three corners.
use Rattle.std.proofs.Common.{◌≡◌, List, [], ◌∷◌, ◌++◌, ℕ, ◌+◌, ◌*◌, pos, ◌∙◌, arith}
use Rattle.frame_write.specs.Write.{concat_below}
use Rattle.ply_header.specs.declared.Form.{Form}
use Rattle.ply.specs.Body.{corner_at, triangle_of, triangle_at}
use Rattle.scan.specs.Inner.{corner_numbers}
use Rattle.scan.proofs.triangle.Goals as goal

-- three corners behind the kind
all : (s : List ℕ) (f : Form) (at : ℕ) → pos 0 ∷ (concat_below (corner_numbers s f at) 3 ++ []) ≡ triangle_at s f at
unfolding concat_below triangle_at
all s f at =
    let a : at + 1 + 4 * 0 ≡ at + 1 = omega arith in
    let b : at + 1 + 4 * 1 ≡ at + 5 = omega arith in
    let c : at + 1 + 4 * 2 ≡ at + 9 = omega arith in
    λ i. triangle_of (corner_at s f (a i)) (corner_at s f (b i)) (corner_at s f (c i))

pub returns : goal.returns
returns c = c.put_corners.ensures ∙ all c.args.ply.now.file.now c.args.ply.now.form c.args.at
