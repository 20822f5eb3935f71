-- Integer expressions as data, with variables by number. One type serves the ring solver (`Ring`), the certificates of inequalities (`Certificates`)
-- and the needs of signed code (`Machine`). The values of the variables are a list ρ, so that of
--     eval (x ∷ y ∷ []) ((var 0 ⊕ num 2) ⊗ var 1)
-- antt computes `(x +ℤ pos 2) *ℤ y`. An expression brackets as the statement that it stands for.
use mathlib.Core.List.{List}
use Prim.Native.Nat.{ℕ}
use lib.IntN.{ℤ, pos, neg_ℤ, ◌+ℤ◌, ◌-ℤ◌, ◌*ℤ◌}
use lib.ListN.{get_or}

infixl 6 ◌⊕◌ ◌⊖◌
infixl 7 ◌⊗◌
-- `raw i` has the value of `var i`. The two differ in how code holds the number: see `Machine`.
pub data Expr : Type 0 where
  lit : ℤ → Expr
  var raw : ℕ → Expr
  ◌⊕◌ ◌⊖◌ ◌⊗◌ : Expr → Expr → Expr
  neg : Expr → Expr

-- a natural number, as an expression
abbrev pub num : ℕ → Expr
num n = lit (pos n)

abbrev pub nth : List ℤ → ℕ → ℤ
nth ρ i = get_or ρ i (pos 0)

abbrev pub eval : List ℤ → Expr → ℤ
eval ρ (lit c) = c
eval ρ (var i) = nth ρ i
eval ρ (raw i) = nth ρ i
eval ρ (a ⊕ b) = eval ρ a +ℤ eval ρ b
eval ρ (a ⊖ b) = eval ρ a -ℤ eval ρ b
eval ρ (a ⊗ b) = eval ρ a *ℤ eval ρ b
eval ρ (neg a) = neg_ℤ (eval ρ a)
