-- The order of fractions with positive denominators.
--     not_earlier                          of two fractions, one is less or the other is at most it
--     later-ind, later-left, later-right   the greater of two is one of them, and neither is greater
--     at-most-trans, earlier-trans         the order is transitive
--     not-before                           what is not less than a fraction, none that is at least as great is
-- Assumes nothing.
use mathlib.Core.Bool.{Bool, true, false, cond}
use mathlib.Core.List.{[], ◌∷◌}
use mathlib.Core.Path.{◌≡◌, refl}
use lib.Signed.{≤ℤ_refl, clash_ℤ}
use Rattle.integers.proofs.Laws.{<→≤}
use Rattle.integers.proofs.Omega.{lt-true, lt-false}
use Rattle.integers.proofs.Expr.{var, ◌⊗◌}
use Rattle.integers.proofs.Certificates.{nn, le, ◌⊞◌, ◌⊠◌, by-le/}
use Rattle.entry.specs.declared.Fraction.{Fraction}
use Rattle.entry.specs.Entry.{earlier, later}
use Rattle.entry.specs.Inner.{AtMost, Positive}

pub not_earlier : (f g : Fraction) → earlier f g ≡ false → AtMost g f
not_earlier f g e = lt-false _ _ e

by_order : (P : Fraction → Type 0) (f g : Fraction) → (earlier f g ≡ true → P g) → (earlier f g ≡ false → P f) → P (later f g)
unfolding later
by_order P f g h k = go (earlier f g) refl
  where
    go : (t : Bool) → earlier f g ≡ t → P (cond t g f)
    go true e = h e
    go false e = k e

pub later-ind : (P : Fraction → Type 0) (f g : Fraction) → P f → P g → P (later f g)
later-ind P f g h k = by_order P f g (λ e. k) (λ e. h)

pub later-left : (f g : Fraction) → AtMost f (later f g)
later-left f g = by_order (AtMost f) f g (λ e. <→≤ (lt-true _ _ e)) (λ e. ≤ℤ_refl _)

pub later-right : (f g : Fraction) → AtMost g (later f g)
later-right f g = by_order (AtMost g) f g (λ e. ≤ℤ_refl _) (not_earlier f g)

pub at-most-trans : (f g h : Fraction) → Positive f → Positive g → Positive h → AtMost f g → AtMost g h → AtMost f h
at-most-trans f g h pf pg ph fg gh =
    let N = var 0 in let n = var 1 in let M = var 2 in let m = var 3 in let L = var 4 in let l = var 5 in
    by-le/ (f.num ∷ f.den ∷ g.num ∷ g.den ∷ h.num ∷ h.den ∷ []) m (N ⊗ l) (L ⊗ n) pg
    (nn n (<→≤ pf) ⊠ le (M ⊗ l) (L ⊗ m) gh ⊞ nn l (<→≤ ph) ⊠ le (N ⊗ m) (M ⊗ n) fg) tt

pub earlier-trans : (f g h : Fraction) → Positive f → Positive g → Positive h → earlier f g ≡ true → AtMost g h → earlier f h ≡ true
earlier-trans f g h pf pg ph fg gh = go (earlier f h) refl
  where
    go : (t : Bool) → earlier f h ≡ t → t ≡ true
    go true e = refl
    go false e = absurd (clash_ℤ (lt-true _ _ fg) (at-most-trans g h f pg ph pf gh (not_earlier f h e)))

pub not-before : (f e g : Fraction) → Positive f → Positive e → Positive g → AtMost f e → earlier f g ≡ false → earlier e g ≡ true → ⊥
not-before f e g pf pe pg fe never eg = clash_ℤ (lt-true _ _ (earlier-trans e g f pe pg pf eg (not_earlier f g never))) fe
