-- Laws of the first leg for which a cell is found.
--     legs-more, legs-blocked   one leg more, as a loop tests it
--     legs-free, free-legs      all legs, and back
--     blocked-leg               the leg and the cell that an answer names; the legs before find none
-- Assumes nothing.
use mathlib.Core.Path.{◌≡◌, refl, sym, ◌∙◌}
use Prim.Native.Nat.{ℕ, zero, suc, ◌+◌, ◌<◌}
use native.Mathlib.Decide.{ℕ_discrete}
use native.Mathlib.Numerals.{add-one}
use native.Mathlib.Omega.{arith}
use Rattle.std.specs.Prelude.{Option, Some, None}
use Rattle.demand.specs.Route.{first_blocked}
use Rattle.demand.specs.declared.Finding.{Finding}
use Rattle.demand.specs.declared.Finding.TheVariants.{Free, Blocked}

-- the finding by leg m alone; what the legs before say, and else the next
abbrev by_leg : ℕ → Option ℕ → Finding
by_leg m (Some n) = Blocked m n
by_leg m None = Free

abbrev or_later : Finding → Finding → Finding
or_later Free later = later
or_later (Blocked m n) later = Blocked m n

module _ (find : ℕ → Option ℕ) where
  more : (m : ℕ) → first_blocked find (suc m) ≡ or_later (first_blocked find m) (by_leg m (find m))
  unfolding first_blocked
  more m = go (first_blocked find m) (find m)
    where
      go : (r : Finding) (t : Option ℕ) → elim r [ Blocked i n ↦ Blocked i n | Free ↦ elim t [ Some n ↦ Blocked m n | None ↦ Free ] ] ≡ or_later r (by_leg m t)
      go Free (Some n) = refl
      go Free None = refl
      go (Blocked i n) t = refl

  pub legs-none : first_blocked find 0 ≡ Free
  unfolding first_blocked
  legs-none = refl

  pub legs-more : (m : ℕ) → first_blocked find m ≡ Free → find m ≡ None → first_blocked find (m + 1) ≡ Free
  unfolding first_blocked
  legs-more m e f = rw (add-one) (more m ∙ rw (e, f))

  pub legs-blocked : (m n c : ℕ) → m < c → first_blocked find m ≡ Free → find m ≡ Some n → first_blocked find c ≡ Blocked m n
  unfolding first_blocked
  legs-blocked m n zero l e f = absurd (omega arith)
  legs-blocked m n (suc c) l e f = more c ∙ go (ℕ_discrete m c) (λ k. legs-blocked m n c k e f)
    where
      go : Dec (m ≡ c) → (m < c → first_blocked find c ≡ Blocked m n) → or_later (first_blocked find c) (by_leg c (find c)) ≡ Blocked m n
      go (yes q) again = rw (← q, e, f)
      go (no q) again = rw (again (omega arith))

  pub legs-free : (c : ℕ) → ((m : ℕ) → m < c → find m ≡ None) → first_blocked find c ≡ Free
  unfolding first_blocked
  legs-free zero h = refl
  legs-free (suc c) h = more c ∙ rw (legs-free c (λ m l. h m (omega arith)), h c (omega arith))

  pub free-legs : (c : ℕ) → first_blocked find c ≡ Free → (m : ℕ) → m < c → find m ≡ None
  unfolding first_blocked
  free-legs zero e m l = absurd (omega arith)
  free-legs (suc c) e m l =
      let both = neither (first_blocked find c) (find c) (sym (more c) ∙ e) in
      go (ℕ_discrete m c) (free-legs c both.0 m) both.1
    where
      neither : (r : Finding) (t : Option ℕ) → or_later r (by_leg c t) ≡ Free → (r ≡ Free) × (t ≡ None)
      neither Free (Some n) q = let z : ◌≡◌ {A = ℕ} 0 1 = cc in absurd (omega arith)
      neither Free None q = (refl, refl)
      neither (Blocked i n) t q = let z : ◌≡◌ {A = ℕ} 0 1 = cc in absurd (omega arith)

      go : Dec (m ≡ c) → (m < c → find m ≡ None) → find c ≡ None → find m ≡ None
      go (yes q) again last = rw q last
      go (no q) again last = again (omega arith)

  -- leg m finds cell n, and the legs before it find none
  abbrev Blocks : (c m n : ℕ) → Type 0
  Blocks c m n = (m < c) × (find m ≡ Some n) × ((i : ℕ) → i < m → find i ≡ None)

  pub blocked-leg : (c m n : ℕ) → first_blocked find c ≡ Blocked m n → Blocks c m n
  unfolding first_blocked
  blocked-leg zero m n e = let z : ◌≡◌ {A = ℕ} 0 1 = cc in absurd (omega arith)
  blocked-leg (suc c) m n e = go (first_blocked find c) (find c) refl refl (sym (more c) ∙ e) (blocked-leg c m n)
    where
      go : (r : Finding) (t : Option ℕ) → first_blocked find c ≡ r → find c ≡ t → or_later r (by_leg c t) ≡ Blocked m n
          → (first_blocked find c ≡ Blocked m n → Blocks c m n) → Blocks (suc c) m n
      go Free (Some k) q u f again =
          let leg : c ≡ m = cc in
          let cell : k ≡ n = cc in
          (omega arith, rw (← leg, ← cell) u, λ i l. free-legs c q i (omega arith))
      go Free None q u f again = let z : ◌≡◌ {A = ℕ} 0 1 = cc in absurd (omega arith)
      go (Blocked i k) t q u f again = let h = again (q ∙ f) in (omega (arith, h.0), h.1, h.2)
