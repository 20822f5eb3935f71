-- The header, no count above a limit.
--     roomy_header   the header, where each count is limited as it is read
--     roomy-is       it is the header, where no count is above the limit
-- Assumes nothing.
use Rattle.std.specs.Prelude.{Option, Some, None}
use mathlib.Core.Bool.{Bool, true, false, cond}
use mathlib.Core.List.{List}
use mathlib.Core.Path.{◌≡◌, refl}
use Prim.Native.Nat.{ℕ}
use lib.Dec.{leb}
use Rattle.ply_header.specs.declared.Form.{Form}
use Rattle.ply_header.specs.Text.{bytes, and_then, and_read, behind, line, counted}
use Rattle.ply_header.specs.Header.{axis, header}
use Rattle.ply_header.specs.Inner.{roomy, limited}

module _ (n : ℕ) where
  unfoldable pub roomy_header : (s : List ℕ) → Option Form
  roomy_header s =
      and_then (behind s 0 (bytes "ply\n")) λ a.
      and_then (line s a (bytes "format binary_little_endian 1.0\n")) λ b.
      and_read (limited n (counted s b (bytes "element vertex "))) λ vertices c.
      and_read (axis s c (bytes "x\n")) λ x d.
      and_read (axis s d (bytes "y\n")) λ y e.
      and_read (axis s e (bytes "z\n")) λ z f.
      and_read (limited n (counted s f (bytes "element face "))) λ faces g.
      and_then (line s g (bytes "property list uchar int vertex_indices\n")) λ h.
      and_then (line s h (bytes "end_header\n")) λ body.
      Some (record { x = x; y = y; z = z; vertices = vertices; faces = faces; body = body })

  place_same : (f : Option ℕ) (next next' : ℕ → Option Form) → ((i : ℕ) → roomy n (next i) ≡ next' i) → roomy n (and_then f next) ≡ and_then f next'
  unfolding and_then and_read roomy
  place_same (Some i) next next' p = p i
  place_same None next next' p = refl

  read_same : {A : Type 0} (f : Option (A × ℕ)) (next next' : A → ℕ → Option Form) → ((a : A) (i : ℕ) → roomy n (next a i) ≡ next' a i) → roomy n (and_read f next) ≡ and_read f next'
  unfolding and_then and_read roomy
  read_same (Some r) next next' p = p r.0 r.1
  read_same None next next' p = refl

  -- a count that is read: where it is above n the header is of another form, whatever comes
  count-step : (r : ℕ × ℕ) (next next' : ℕ → ℕ → Option Form) (b : Bool) → leb r.0 n ≡ b
      → (leb r.0 n ≡ true → roomy n (next r.0 r.1) ≡ next' r.0 r.1) → (leb r.0 n ≡ false → roomy n (next r.0 r.1) ≡ None)
      → roomy n (next r.0 r.1) ≡ and_read (cond b (Some r) None) next'
  unfolding and_read
  count-step r next next' true e p q = p e
  count-step r next next' false e p q = q e

  count_same : (c : Option (ℕ × ℕ)) (next next' : ℕ → ℕ → Option Form)
      → ((v i : ℕ) → leb v n ≡ true → roomy n (next v i) ≡ next' v i) → ((v i : ℕ) → leb v n ≡ false → roomy n (next v i) ≡ None)
      → roomy n (and_read c next) ≡ and_read (limited n c) next'
  unfolding and_read limited roomy
  count_same (Some r) next next' p q = count-step r next next' (leb r.0 n) refl (p r.0 r.1) (q r.0 r.1)
  count_same None next next' p q = refl

  place-none : (f : Option ℕ) (next : ℕ → Option Form) → ((i : ℕ) → roomy n (next i) ≡ None) → roomy n (and_then f next) ≡ None
  unfolding and_then and_read roomy
  place-none (Some i) next p = p i
  place-none None next p = refl

  read-none : {A : Type 0} (f : Option (A × ℕ)) (next : A → ℕ → Option Form) → ((a : A) (i : ℕ) → roomy n (next a i) ≡ None) → roomy n (and_read f next) ≡ None
  unfolding and_then and_read roomy
  read-none (Some r) next p = p r.0 r.1
  read-none None next p = refl

  pub roomy-is : (s : List ℕ) → roomy n (header s) ≡ roomy_header s
  unfolding header roomy roomy_header
  roomy-is s =
      place_same _ _ _ λ a.
      place_same _ _ _ λ b.
      count_same _ _ _
      (λ vertices c v.
      read_same _ _ _ λ x d.
      read_same _ _ _ λ y e.
      read_same _ _ _ λ z f.
      count_same _ _ _
      (λ faces g w. place_same _ _ _ λ h. place_same _ _ _ λ body. rw (v, w))
      (λ faces g w. place-none _ _ λ h. place-none _ _ λ body. rw (v, w)))
      (λ vertices c v.
      read-none _ _ λ x d.
      read-none _ _ λ y e.
      read-none _ _ λ z f.
      read-none _ _ λ faces g.
      place-none _ _ λ h.
      place-none _ _ λ body.
      rw v)
