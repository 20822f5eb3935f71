-- The needs of signed code, answered by one law. A value that a function computes is described once, as an expression e over the numbers ρ that the
-- function starts from (its parameters, what its callees gave) with bounds bs of their sizes. Then
--     asks ρ e bs tt h     says that no operation in e overflows: a tuple, `(left, right, this)` at an operation and `(operand, this)` at a negation
--     run ρ e bs tt h      says that the machine's value is the value of e
-- from `h : Withins bs ρ`, where the bounds keep each operation below 2 ^ 63, which antt computes (`tt`).
-- For `fn cross(a: i64, b: i64, c: i64, d: i64) -> i64 { a * d - b * c }`, which requires `Withins bs (a ∷ b ∷ c ∷ d ∷ [])`:
--     mul-result c = asks (ρ c) (var 0 ⊗ var 3 ⊖ var 1 ⊗ var 2) bs tt c.pre .0 .2
--     returns c = run (ρ c) (var 0 ⊗ var 3 ⊖ var 1 ⊗ var 2) bs tt c.pre
-- A signed local holds bits, and an operand is read back from them: `to_z w64 (of_z w64 z)`. A variable `var i` is a number that is known as an integer: a
-- parameter, a call's result. A variable `raw i` is known by its bits, as a local is after branches met or at a loop's head: its number in ρ is
-- `to_z w64 bits`. A negation in code, `-x`, is `neg x`: the machine computes 0 − x.
use mathlib.Core.Path.{◌≡◌, refl, sym, ap₂, ◌∙◌, subst}
use mathlib.Core.Bool.{Bool, true, ◌&&◌}
use mathlib.Core.List.{List, [], ◌∷◌}
use mathlib.Core.Logic.{◌⊎◌, ⊎_elim}
use Prim.Native.Nat.{ℕ, zero, suc, ◌+◌, ◌*◌, ◌^◌, ◌<◌, ◌≤◌, zero-le}
use native.Mathlib.Nat.{le_refl, lt_of_le_of_lt}
use lib.Dec.{T, ltb, leb, lit<, lit≤}
use lib.IntN.{ℤ, pos, neg_ℤ, nat_abs, ◌+ℤ◌, ◌-ℤ◌, ◌*ℤ◌, +ℤ_idl}
use lib.ListN.{get_or}
use lib.Signed.{mag}
use mir.Syntax.{Width, w64}
use mir.Val.{SFits, hbits, to_z, of_z}
use mir.Facts.{and_yes, to_z-of_z, to_z_pos}
use Rattle.integers.specs.Within.{Within, Withins}
use Rattle.integers.proofs.Expr.{Expr, lit, var, raw, ◌⊕◌, ◌⊖◌, ◌⊗◌, neg, nth, eval}
use Rattle.integers.proofs.Bounds.{within-add, within-sub, within-mul, within-neg, within-weaken, within-fits}

-- ---- numbers as the machine has them
-- what it reads back of a number that a call returned: `back w64 c.f.ok`
pub back : (w : Width) {z : ℤ} → mag z < 2 ^ hbits w → to_z w (of_z w z) ≡ z
back w h = to_z-of_z (record { sfits = h })

-- the bits of a natural number that is small enough, as after a cast
pub within-to_z : (w : Width) {B n : ℕ} → B < 2 ^ hbits w → n ≤ B → Within B (to_z w n)
within-to_z w l h = rw (to_z_pos w (lt_of_le_of_lt h l)) (record { within = h })

-- the two ways into a place where branches meet: `cases c.if1.came (λ w. ..) (λ w. ..)`. The sum stands first, so that the arms know the type of w
pub cases : {A B C : Type 0} → A ⊎ B → (A → C) → (B → C) → C
cases w f g = ⊎_elim f g w

-- ---- an expression as the machine computes it, what that asks, and its bound
abbrev pub mach : List ℤ → Expr → ℤ
mach ρ (lit c) = c
mach ρ (var i) = to_z w64 (of_z w64 (nth ρ i))
mach ρ (raw i) = nth ρ i
mach ρ (a ⊕ b) = to_z w64 (of_z w64 (mach ρ a +ℤ mach ρ b))
mach ρ (a ⊖ b) = to_z w64 (of_z w64 (mach ρ a -ℤ mach ρ b))
mach ρ (a ⊗ b) = to_z w64 (of_z w64 (mach ρ a *ℤ mach ρ b))
mach ρ (neg a) = to_z w64 (of_z w64 (pos 0 -ℤ mach ρ a))

abbrev pub Asks : List ℤ → Expr → Type 0
Asks ρ (lit c) = Unit {0}
Asks ρ (var i) = Unit {0}
Asks ρ (raw i) = Unit {0}
Asks ρ (a ⊕ b) = Asks ρ a × Asks ρ b × SFits w64 (mach ρ a +ℤ mach ρ b)
Asks ρ (a ⊖ b) = Asks ρ a × Asks ρ b × SFits w64 (mach ρ a -ℤ mach ρ b)
Asks ρ (a ⊗ b) = Asks ρ a × Asks ρ b × SFits w64 (mach ρ a *ℤ mach ρ b)
Asks ρ (neg a) = Asks ρ a × SFits w64 (pos 0 -ℤ mach ρ a)

abbrev pub top : Expr → List ℕ → ℕ
top (lit c) bs = nat_abs c
top (var i) bs = get_or bs i 0
top (raw i) bs = get_or bs i 0
top (a ⊕ b) bs = top a bs + top b bs
top (a ⊖ b) bs = top a bs + top b bs
top (a ⊗ b) bs = top a bs * top b bs
top (neg a) bs = top a bs

-- each operation, and each variable that is read back from its bits, is bounded below 2 ^ 63
abbrev pub small : Expr → List ℕ → Bool
small (lit c) bs = true
small (var i) bs = ltb (get_or bs i 0) (2 ^ 63)
small (raw i) bs = true
small (a ⊕ b) bs = small a bs && (small b bs && ltb (top a bs + top b bs) (2 ^ 63))
small (a ⊖ b) bs = small a bs && (small b bs && ltb (top a bs + top b bs) (2 ^ 63))
small (a ⊗ b) bs = small a bs && (small b bs && ltb (top a bs * top b bs) (2 ^ 63))
small (neg a) bs = small a bs && ltb (top a bs) (2 ^ 63)

within-nth : (ρ : List ℤ) (i : ℕ) (bs : List ℕ) → Withins bs ρ → Within (get_or bs i 0) (nth ρ i)
within-nth [] i [] h = record { within = zero-le }
within-nth [] i (b ∷ bs) h = record { within = zero-le }
within-nth (z ∷ ρ) zero [] h = h.0
within-nth (z ∷ ρ) (suc i) [] h = within-nth ρ i [] h.1
within-nth (z ∷ ρ) zero (b ∷ bs) h = h.0
within-nth (z ∷ ρ) (suc i) (b ∷ bs) h = within-nth ρ i bs h.1

pub bound : (ρ : List ℤ) (e : Expr) (bs : List ℕ) → Withins bs ρ → Within (top e bs) (eval ρ e)
bound ρ (lit c) bs h = record { within = le_refl (nat_abs c) }
bound ρ (var i) bs h = within-nth ρ i bs h
bound ρ (raw i) bs h = within-nth ρ i bs h
bound ρ (a ⊕ b) bs h = within-add (bound ρ a bs h) (bound ρ b bs h)
bound ρ (a ⊖ b) bs h = within-sub (bound ρ a bs h) (bound ρ b bs h)
bound ρ (a ⊗ b) bs h = within-mul (bound ρ a bs h) (bound ρ b bs h)
bound ρ (neg a) bs h = within-neg (bound ρ a bs h)

-- ---- the law: what is asked holds, and the machine's value is the value
module _ (ρ : List ℤ) where
  abbrev Runs : Expr → Type 0
  Runs e = Asks ρ e × (mach ρ e ≡ eval ρ e)

  -- one operation f, with a result within B, whose operands run where they are small (s, t)
  binary : (f : ℤ → ℤ → ℤ) (a b : Expr) (s t : Bool) (B : ℕ) → (T s → Runs a) → (T t → Runs b) → Within B (f (eval ρ a) (eval ρ b))
      → T (s && (t && ltb B (2 ^ 63)))
      → (Asks ρ a × Asks ρ b × SFits w64 (f (mach ρ a) (mach ρ b))) × (to_z w64 (of_z w64 (f (mach ρ a) (mach ρ b))) ≡ f (eval ρ a) (eval ρ b))
  binary f a b s t B ra rb w c =
      let c₁ = and_yes s (t && ltb B (2 ^ 63)) c in
      let c₂ = and_yes t (ltb B (2 ^ 63)) c₁.1 in
      let p = ra c₁.0 in
      let q = rb c₂.0 in
      let k = within-fits {w = w64} (lit< c₂.1) w in
      ((p.0, q.0, rw (p.1, q.1) k), rw (p.1, q.1) (to_z-of_z k))

  runs_of : (e : Expr) (bs : List ℕ) → Withins bs ρ → T (small e bs) → Runs e
  runs_of (lit c) bs h t = (tt, refl)
  runs_of (var i) bs h t = (tt, to_z-of_z {w = w64} (within-fits (lit< t) (within-nth ρ i bs h)))
  runs_of (raw i) bs h t = (tt, refl)
  runs_of (a ⊕ b) bs h t =
      binary ◌+ℤ◌ a b (small a bs) (small b bs) (top (a ⊕ b) bs) (runs_of a bs h) (runs_of b bs h) (bound ρ (a ⊕ b) bs h) t
  runs_of (a ⊖ b) bs h t =
      binary ◌-ℤ◌ a b (small a bs) (small b bs) (top (a ⊖ b) bs) (runs_of a bs h) (runs_of b bs h) (bound ρ (a ⊖ b) bs h) t
  runs_of (a ⊗ b) bs h t =
      binary ◌*ℤ◌ a b (small a bs) (small b bs) (top (a ⊗ b) bs) (runs_of a bs h) (runs_of b bs h) (bound ρ (a ⊗ b) bs h) t
  runs_of (neg a) bs h t =
      let z = +ℤ_idl (neg_ℤ (eval ρ a)) in
      let o = binary ◌-ℤ◌ (lit (pos 0)) a true (small a bs) (top a bs) (λ s. (tt, refl)) (runs_of a bs h) (rw z (bound ρ (neg a) bs h)) t in
      ((o.0.1, o.0.2), o.1 ∙ z)

  pub asks : (e : Expr) (bs : List ℕ) → T (small e bs) → Withins bs ρ → Asks ρ e
  asks e bs t h = (runs_of e bs h t).0

  pub run : (e : Expr) (bs : List ℕ) → T (small e bs) → Withins bs ρ → mach ρ e ≡ eval ρ e
  run e bs t h = (runs_of e bs h t).1

  -- a test of two expressions, as the machine makes it, said of their values: `tested ρ lt_z a b bs tt h c.if1.taken`
  pub tested : {t : Bool} (f : ℤ → ℤ → Bool) (a b : Expr) (bs : List ℕ) → T (small a bs && small b bs) → Withins bs ρ
      → f (mach ρ a) (mach ρ b) ≡ t → f (eval ρ a) (eval ρ b) ≡ t
  tested f a b bs t h e =
      let s = and_yes (small a bs) (small b bs) t in
      sym (ap₂ f (run a bs s.0 h) (run b bs s.1 h)) ∙ e

-- ---- the arguments of a call, as a list of expressions
abbrev pub machs : List ℤ → List Expr → List ℤ
machs ρ [] = []
machs ρ (e ∷ es) = mach ρ e ∷ machs ρ es

abbrev pub evals : List ℤ → List Expr → List ℤ
evals ρ [] = []
evals ρ (e ∷ es) = eval ρ e ∷ evals ρ es

abbrev pub smalls : List Expr → List ℕ → Bool
smalls [] bs = true
smalls (e ∷ es) bs = small e bs && smalls es bs

-- each argument is small, and bounded by what the callee requires at its place
abbrev pub meet : List Expr → List ℕ → List ℕ → Bool
meet [] bs Bs = true
meet (e ∷ es) bs [] = small e bs && (leb (top e bs) 0 && meet es bs [])
meet (e ∷ es) bs (B ∷ Bs) = small e bs && (leb (top e bs) B && meet es bs Bs)

module _ (ρ : List ℤ) where
  pub runs : (es : List Expr) (bs : List ℕ) → T (smalls es bs) → Withins bs ρ → machs ρ es ≡ evals ρ es
  runs [] bs t h = refl
  runs (e ∷ es) bs t h = let s = and_yes (small e bs) (smalls es bs) t in ap₂ ◌∷◌ (run ρ e bs s.0 h) (runs es bs s.1 h)

  -- what the callee ensures of its arguments, said of their values, where P states it of the list of arguments
  pub learnt : (P : List ℤ → Type 0) (es : List Expr) (bs : List ℕ) → T (smalls es bs) → Withins bs ρ → P (machs ρ es) → P (evals ρ es)
  learnt P es bs t h p = subst P (runs es bs t h) p

  -- what it requires of them
  pub asked : (P : List ℤ → Type 0) (es : List Expr) (bs : List ℕ) → T (smalls es bs) → Withins bs ρ → P (evals ρ es) → P (machs ρ es)
  asked P es bs t h p = subst P (sym (runs es bs t h)) p

  -- the first argument within its bound, and the test of the others
  one : (e : Expr) (es : List Expr) (bs : List ℕ) (B : ℕ) (Bs : List ℕ) → T (small e bs && (leb (top e bs) B && meet es bs Bs))
      → (Withins bs ρ → Within B (mach ρ e)) × T (meet es bs Bs)
  one e es bs B Bs t =
      let s = and_yes (small e bs) (leb (top e bs) B && meet es bs Bs) t in
      let u = and_yes (leb (top e bs) B) (meet es bs Bs) s.1 in
      (λ h. rw (run ρ e bs s.0 h) (within-weaken (lit≤ u.0) (bound ρ e bs h)), u.1)

  -- what it requires of them, where that is bounds Bs
  pub bounded : (es : List Expr) (bs Bs : List ℕ) → T (meet es bs Bs) → Withins bs ρ → Withins Bs (machs ρ es)
  bounded [] bs Bs t h = tt
  bounded (e ∷ es) bs [] t h = let s = one e es bs 0 [] t in (s.0 h, bounded es bs [] s.1 h)
  bounded (e ∷ es) bs (B ∷ Bs) t h = let s = one e es bs B Bs t in (s.0 h, bounded es bs Bs s.1 h)
