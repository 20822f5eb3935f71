-- Cells drawn into a map.
--     draws-none, draws-nothing    no cell is wanted
--     draws-then, drawn-or         cells that are drawn after others, and two sets of columns
--     draws-same, drawn-on         the same cells; tests that agree on the columns
--     empty-run, draws-cell        a run, cell by cell
-- Assumes nothing.
use mathlib.Core.Bool.{Bool, true, false, ◌&&◌, ◌||◌, and-eq-true_iff, and-false, or-false, or-true, or_assoc, or_comm, and-or_distrib_left, and-or_distrib_right}
use mathlib.Core.List.{List}
use mathlib.Core.Path.{◌≡◌, refl, sym, ap, ◌∙◌}
use Prim.Native.Nat.{ℕ, ◌+◌, ◌*◌, ◌≤◌, ◌<◌}
use native.Mathlib.Nat.{mul-le-mul}
use native.Mathlib.Decide.{dec_lt}
use native.Mathlib.Omega.{arith}
use borrow.Author.Tests.{lt-ltb, ltb-true, eqb-true, eq-eqb}
use lib.Dec.{eqb, ltb}
use lib.ListN.{length}
use Rattle.grid.specs.Range.{in_range}
use Rattle.map.specs.Map.{is_filled}
use Rattle.map.specs.Inner.{with_filled}
use Rattle.map.proofs.Filled.{filled-with, length-with}
use Rattle.columns.specs.declared.Strides.{Strides}
use Rattle.columns.specs.Draw.{number_of, u_of, v_of, w_of, cells_of, Numbers, drawn, Draws, one_column, in_run, range}
use Rattle.integers.proofs.Truth.{same_truth}
use Rattle.runs.proofs.Narrow.{in-range, range-in}

-- ---- truths
and-or : (t a b p : Bool) → ((t && (a && p)) || (t && (b && p))) ≡ (t && ((a || b) && p))
and-or t a b p = rw (and-or_distrib_right a b p, and-or_distrib_left t (a && p) (b && p))

-- ---- maps that are drawn into
module _ (g : Strides) where
  -- nothing is wanted
  pub draws-none : (cols : ℕ → ℕ → Bool) (test : ℕ → ℕ → ℕ → Bool) (map : List ℕ) → ((n : ℕ) → drawn g cols test n ≡ false) → Draws g cols test map map
  draws-none cols test map none = record { len = refl; cells = λ n. sym (or-false (is_filled map n)) ∙ ap (λ (b : Bool). is_filled map n || b) (sym (none n)) }

  -- cells that are drawn after others
  pub draws-then : {cols₁ cols₂ cols : ℕ → ℕ → Bool} {test₁ test₂ test : ℕ → ℕ → ℕ → Bool} {a b c : List ℕ}
      → Draws g cols₁ test₁ a b → Draws g cols₂ test₂ b c → ((n : ℕ) → (drawn g cols₁ test₁ n || drawn g cols₂ test₂ n) ≡ drawn g cols test n) → Draws g cols test a c
  draws-then {cols₁} {cols₂} {cols} {test₁} {test₂} {test} {a} {b} {c} f h e = record {
    len = h.len ∙ f.len;
    cells = λ n.
        h.cells n ∙ ap (λ (x : Bool). x || drawn g cols₂ test₂ n) (f.cells n) ∙ or_assoc (is_filled a n) (drawn g cols₁ test₁ n) (drawn g cols₂ test₂ n)
        ∙ ap (λ (x : Bool). is_filled a n || x) (e n);
  }

  -- the same cells
  pub draws-same : {cols cols' : ℕ → ℕ → Bool} {test test' : ℕ → ℕ → ℕ → Bool} {a b : List ℕ}
      → ((n : ℕ) → drawn g cols test n ≡ drawn g cols' test' n) → Draws g cols test a b → Draws g cols' test' a b
  draws-same {a = a} e f = record { len = f.len; cells = λ n. f.cells n ∙ ap (λ (x : Bool). is_filled a n || x) (e n) }

  -- two sets of columns, with one test
  pub drawn-or : (p q r : ℕ → ℕ → Bool) (test : ℕ → ℕ → ℕ → Bool) → ((a b : ℕ) → (p a b || q a b) ≡ r a b) → (n : ℕ)
      → (drawn g p test n || drawn g q test n) ≡ drawn g r test n
  unfolding drawn
  drawn-or p q r test e n =
      let a = u_of g n in
      let b = v_of g n in
      let t = test a b (w_of g n) in
      and-or (ltb n (cells_of g)) (p a b) (q a b) t ∙ ap (λ (x : Bool). ltb n (cells_of g) && (x && t)) (e a b)

  -- what a drawn cell is, and the reverse
  pub is-drawn : (cols : ℕ → ℕ → Bool) (test : ℕ → ℕ → ℕ → Bool) (n : ℕ) → drawn g cols test n ≡ true
      → (n < cells_of g) × (cols (u_of g n) (v_of g n) ≡ true) × (test (u_of g n) (v_of g n) (w_of g n) ≡ true)
  unfolding drawn
  is-drawn cols test n e =
      let (l, r) = (and-eq-true_iff (ltb n (cells_of g)) (cols (u_of g n) (v_of g n) && test (u_of g n) (v_of g n) (w_of g n))).0 e in
      let (c, t) = (and-eq-true_iff (cols (u_of g n) (v_of g n)) (test (u_of g n) (v_of g n) (w_of g n))).0 r in
      (ltb-true n (cells_of g) l, c, t)

  pub drawn-is : (cols : ℕ → ℕ → Bool) (test : ℕ → ℕ → ℕ → Bool) (n : ℕ) → n < cells_of g → cols (u_of g n) (v_of g n) ≡ true → test (u_of g n) (v_of g n) (w_of g n) ≡ true
      → drawn g cols test n ≡ true
  unfolding drawn
  drawn-is cols test n l c t =
      (and-eq-true_iff (ltb n (cells_of g)) (cols (u_of g n) (v_of g n) && test (u_of g n) (v_of g n) (w_of g n))).1
      (lt-ltb n (cells_of g) l, (and-eq-true_iff (cols (u_of g n) (v_of g n)) (test (u_of g n) (v_of g n) (w_of g n))).1 (c, t))

  -- one cell more of a run
  module _ (h : Numbers g) (i j first k : ℕ) (hi : i < g.nu) (hj : j < g.nv) (hk : k < g.nw) (from : first ≤ k) where
    one_cell : (n : ℕ) → (drawn g (one_column i j) (in_run (range first k)) n || eqb n (number_of g i j k)) ≡ drawn g (one_column i j) (in_run (range first (k + 1))) n
    one_cell n = same_truth (D k || eqb n (number_of g i j k)) (D (k + 1)) to back
      where
        D : ℕ → Bool
        D e = drawn g (one_column i j) (in_run (range first e)) n

        wider : D k ≡ true → D (k + 1) ≡ true
        wider e =
            let (l, c, t) = is-drawn (one_column i j) (in_run (range first k)) n e in
            let (a, b) = in-range (range first k) (w_of g n) t in
            drawn-is (one_column i j) (in_run (range first (k + 1))) n l c (range-in (range first (k + 1)) (w_of g n) a (omega arith))

        here : n ≡ number_of g i j k → D (k + 1) ≡ true
        here e =
            let l : n < cells_of g = rw e (h.within i j k hi hj hk) in
            let u = ap (u_of g) e ∙ h.u i j k hi hj hk in
            let v = ap (v_of g) e ∙ h.v i j k hi hj hk in
            let w = ap (w_of g) e ∙ h.w i j k hi hj hk in
            drawn-is (one_column i j) (in_run (range first (k + 1))) n l
            ((and-eq-true_iff (eqb (u_of g n) i) (eqb (v_of g n) j)).1 (eq-eqb (u_of g n) i u, eq-eqb (v_of g n) j v))
            (range-in (range first (k + 1)) (w_of g n) (omega (arith, w)) (omega (arith, w)))

        to : (D k || eqb n (number_of g i j k)) ≡ true → D (k + 1) ≡ true
        to = go (D k) refl
          where
            go : (d : Bool) → D k ≡ d → (d || eqb n (number_of g i j k)) ≡ true → D (k + 1) ≡ true
            go true e x = wider e
            go false e x = here (eqb-true n (number_of g i j k) x)

        back : D (k + 1) ≡ true → (D k || eqb n (number_of g i j k)) ≡ true
        back e = go (dec_lt (w_of g n) k)
          where
            parts : (n < cells_of g) × (one_column i j (u_of g n) (v_of g n) ≡ true) × (in_range (range first (k + 1)) (w_of g n) ≡ true)
            parts = is-drawn (one_column i j) (in_run (range first (k + 1))) n e

            go : Dec (w_of g n < k) → (D k || eqb n (number_of g i j k)) ≡ true
            go (yes d) =
                let (a, b) = in-range (range first (k + 1)) (w_of g n) parts.2 in
                ap (λ (x : Bool). x || eqb n (number_of g i j k))
                (drawn-is (one_column i j) (in_run (range first k)) n parts.0 parts.1 (range-in (range first k) (w_of g n) a d))
            go (no d) =
                let (a, b) = in-range (range first (k + 1)) (w_of g n) parts.2 in
                let (p, q) = (and-eq-true_iff (eqb (u_of g n) i) (eqb (v_of g n) j)).0 parts.1 in
                let u = eqb-true (u_of g n) i p in
                let v = eqb-true (v_of g n) j q in
                let w : w_of g n ≡ k = omega arith in
                ap (λ (x : Bool). D k || x) (eq-eqb n (number_of g i j k) (sym (h.back n parts.0) ∙ (λ d. number_of g (u d) (v d) (w d)))) ∙ or-true (D k)

    pub draws-cell : (a b : List ℕ) → number_of g i j k < 8 * length b → Draws g (one_column i j) (in_run (range first k)) a b
        → Draws g (one_column i j) (in_run (range first (k + 1))) a (with_filled b (number_of g i j k))
    draws-cell a b room f = record {
      len = length-with b (number_of g i j k) ∙ f.len;
      cells = λ n.
          filled-with b (number_of g i j k) room n ∙ or_comm (eqb n (number_of g i j k)) (is_filled b n) ∙ ap (λ (x : Bool). x || eqb n (number_of g i j k)) (f.cells n)
          ∙ or_assoc (is_filled a n) _ (eqb n (number_of g i j k)) ∙ ap (λ (x : Bool). is_filled a n || x) (one_cell n);
    }

-- ---- a run
abbrev pub strides : (su nu sv nv sw nw : ℕ) → Strides
strides su nu sv nv sw nw = record { su = su; nu = nu; sv = sv; nv = nv; sw = sw; nw = nw }

-- an empty run has no cell
pub empty-run : (g : Strides) (i j k : ℕ) (map : List ℕ) → Draws g (one_column i j) (in_run (range k k)) map map
empty-run g i j k map = draws-none g (one_column i j) (in_run (range k k)) map (λ n. not-true (drawn g (one_column i j) (in_run (range k k)) n) (never n))
  where
    not-true : (b : Bool) → (b ≡ true → ⊥) → b ≡ false
    not-true true f = absurd (f refl)
    not-true false f = refl

    never : (n : ℕ) → drawn g (one_column i j) (in_run (range k k)) n ≡ true → ⊥
    never n e =
        let (l, c, t) = is-drawn g (one_column i j) (in_run (range k k)) n e in
        let (a, b) = in-range (range k k) (w_of g n) t in
        omega arith

pub small : {a b : ℕ} → a ≤ 4096 → b ≤ 64 → a * b ≤ 262144
small h k = mul-le-mul h k

-- ---- tests that agree on the columns
module _ (g : Strides) (cols : ℕ → ℕ → Bool) (test test' : ℕ → ℕ → ℕ → Bool) (agree : (a b k : ℕ) → cols a b ≡ true → test a b k ≡ test' a b k) where
  pub drawn-on : (n : ℕ) → drawn g cols test n ≡ drawn g cols test' n
  unfolding drawn
  drawn-on n = go (cols (u_of g n) (v_of g n)) refl
    where
      go : (c : Bool) → cols (u_of g n) (v_of g n) ≡ c
          → (ltb n (cells_of g) && (c && test (u_of g n) (v_of g n) (w_of g n))) ≡ (ltb n (cells_of g) && (c && test' (u_of g n) (v_of g n) (w_of g n)))
      go true e = ap (λ (b : Bool). ltb n (cells_of g) && b) (agree (u_of g n) (v_of g n) (w_of g n) e)
      go false e = refl

-- no cell passes
pub nothing : (g : Strides) (cols : ℕ → ℕ → Bool) (test : ℕ → ℕ → ℕ → Bool) → ((a b k : ℕ) → cols a b ≡ true → test a b k ≡ false) → (n : ℕ)
    → drawn g cols test n ≡ false
unfolding drawn
nothing g cols test none n = drawn-on g cols test (λ a b k. false) none n ∙ never
  where
    never : drawn g cols (λ a b k. false) n ≡ false
    never = ap (λ (b : Bool). ltb n (cells_of g) && b) (and-false (cols (u_of g n) (v_of g n))) ∙ and-false (ltb n (cells_of g))

pub draws-nothing : (g : Strides) (cols : ℕ → ℕ → Bool) (test : ℕ → ℕ → ℕ → Bool) (map : List ℕ) → ((a b k : ℕ) → cols a b ≡ true → test a b k ≡ false)
    → Draws g cols test map map
draws-nothing g cols test map none = draws-none g cols test map (nothing g cols test none)

-- the numbers of a column
pub of-column : (i j a b : ℕ) → one_column i j a b ≡ true → (a ≡ i) × (b ≡ j)
of-column i j a b e = let (p, q) = (and-eq-true_iff (eqb a i) (eqb b j)).0 e in (eqb-true a i p, eqb-true b j q)
