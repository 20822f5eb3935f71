-- `bar_line::point_on`: the sums are small, and the weighted sum is no further from 0 than the corners allow. Assumes nothing.
use Rattle.std.proofs.Common.{List, [], ◌∷◌, ℕ, ℤ, pos, ◌≡◌, ap, ap₂, ◌∙◌, lit<, to_z, of_z, ◌+◌, ◌*◌, ◌^◌, ◌*ℤ◌, arith, w32, w64}
use mir.Facts.{to_z-of_z}
use Rattle.integers.specs.Within.{Within, Withins}
use Rattle.integers.proofs.Omega.{zarith}
use Rattle.integers.proofs.Bounds.{within-add, within-mul, within-fits}
use Rattle.integers.proofs.Expr.{Expr, var, ◌⊕◌, ◌⊗◌, eval}
use Rattle.integers.proofs.Machine.{Asks, asks, run}
use Rattle.geometry.specs.Bounds.{each}
use Rattle.weights.specs.declared.Weights.{Weights}
use Rattle.bar_line.specs.Line.{thousandths}
use Rattle.bar_line.specs.Inner.{FewWeights}
use Rattle.bar_line.proofs.point_on.Goals as goal

-- the weighted sum and the total, over the weights and the corners
abbrev ρ : Weights → (a b c : ℤ) → List ℤ
ρ w a b c = w.w0 ∷ w.w1 ∷ w.w2 ∷ a ∷ b ∷ c ∷ []

abbrev bs : List ℕ
bs = each (2 ^ 30) 3 (each (2 ^ 13) 3 [])

abbrev sum : Expr
sum = var 0 ⊗ var 3 ⊕ var 1 ⊗ var 4 ⊕ var 2 ⊗ var 5

abbrev all : Expr
all = var 0 ⊕ var 1 ⊕ var 2

-- a corner's part of the sum
part : (n : ℕ) {z : ℤ} → Within (2 ^ 13) z → Within (n * 2 ^ 13) (pos n *ℤ z)
part n h = within-mul {a = pos n} (record { within = omega arith }) h

module _ (w : Weights) (a b c : ℤ) (p : Within (2 ^ 13) a × Within (2 ^ 13) b × Within (2 ^ 13) c × FewWeights w) where
  ins : Withins bs (ρ w a b c)
  ins =
      let f = p.3 in
      (rw f.w0 (record { within = omega arith }), (rw f.w1 (record { within = omega arith }), (rw f.w2 (record { within = omega arith }), (p.0, (p.1, (p.2, tt))))))

  sum-asks : Asks (ρ w a b c) sum
  sum-asks = asks (ρ w a b c) sum bs tt ins

  abbrev count : ℕ
  count = let f = p.3 in f.n0 + f.n1 + f.n2

  all-is : eval (ρ w a b c) all ≡ pos count
  all-is = let f = p.3 in rw (f.w0, f.w1, f.w2)

  less : Within (2 ^ 13 * count) (eval (ρ w a b c) sum)
  less =
      let f = p.3 in
      rw (f.w0, f.w1, f.w2) (record { within = omega (arith, (within-add (within-add (part f.n0 p.0) (part f.n1 p.1)) (part f.n2 p.2)).within) })

pub overflow_add-sum : goal.overflow_add-sum
overflow_add-sum c = (sum-asks c.args.w c.args.a c.args.b c.args.c c.requires).0.2

pub overflow_mul-sum-3 : goal.overflow_mul-sum-3
overflow_mul-sum-3 c = (sum-asks c.args.w c.args.a c.args.b c.args.c c.requires).1.2

pub overflow_add-sum-2 : goal.overflow_add-sum-2
overflow_add-sum-2 c = (sum-asks c.args.w c.args.a c.args.b c.args.c c.requires).2

pub thousandths-requires : goal.thousandths-requires
thousandths-requires c =
    let a = c.args in
    let p = c.requires in
    let r = ρ a.w a.a a.b a.c in
    let i = ins a.w a.a a.b a.c p in
    rw (run r sum bs tt i, run r all bs tt i, all-is a.w a.a a.b a.c p)
    (omega (zarith, p.3.some), record { within = omega (arith, p.3.few) }, (less a.w a.a a.b a.c p).within)

pub returns : goal.returns
returns c =
    let a = c.args in
    let r = ρ a.w a.a a.b a.c in
    let i = ins a.w a.a a.b a.c c.requires in
    let t = c.thousandths.ensures in
    ap (λ (z : ℤ). to_z w32 (of_z w32 z)) (to_z-of_z {w = w64} (within-fits (lit< tt) t.1)) ∙ to_z-of_z {w = w32} (within-fits (lit< tt) t.1) ∙ t.0
    ∙ ap₂ thousandths (run r sum bs tt i) (run r all bs tt i)
