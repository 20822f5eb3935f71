-- A header that was written is read as it was meant, whatever stands behind it.
--     Stand, onward   what a file holds from a place on, and behind a text
--     text_at         a text that stands there is read
--     line_at         and so is one at the start of a line
--     counted-at      a number is counted back from its digits
--     axis-at         a property of a vertex
--     header-back     the header
-- Assumes nothing.
use Rattle.std.specs.Prelude.{Option, Some, None}
use mathlib.Core.Bool.{true, false}
use mathlib.Core.List.{List, [], ◌∷◌, ◌++◌, append_assoc}
use mathlib.Core.Path.{◌≡◌, refl, sym, ap, ◌∙◌}
use Prim.Native.Nat.{ℕ, ◌+◌, ◌*◌, ◌<◌}
use native.Mathlib.Omega.{arith}
use borrow.Author.Tests.{le-leb, lt-ltb, eq-eqb}
use lib.Dec.{eqb}
use lib.ListN.{length, get_or, drop, length-append}
use lib.Seq.{drop-drop, drop-append_seam, get_or-drop}
use Rattle.ply_header.specs.declared.Scalar.{Scalar}
use Rattle.ply_header.specs.declared.Scalar.TheVariants.{Float, Double, Int}
use Rattle.ply_header.specs.Text.{bytes, and_then, and_read, behind, comment, past, past_comments, line, digit, count_from, count, counted}
use Rattle.ply_header.specs.Header.{scalar, axis, header}
use Rattle.ply_header.specs.Format.{name_of, Spells, one, more, header_text}

-- ---- what a file holds from a place on
record Stand (s : List ℕ) (at : ℕ) (rest : List ℕ) : Type 0 where
  is : drop at s ≡ rest
  long : at + length rest ≡ length s

at-start : {s rest : List ℕ} → s ≡ rest → Stand s 0 rest
at-start e = record { is = e; long = omega (arith, ap length e) }

onward : {s : List ℕ} {at : ℕ} (text rest : List ℕ) → Stand s at (text ++ rest) → Stand s (at + length text) rest
onward {s} {at} text rest h = record {
  is = sym (drop-drop (length text) at s) ∙ ap (drop (length text)) h.is ∙ drop-append_seam text rest;
  long = omega (arith, h.long, length-append text rest);
}

here : {s rest : List ℕ} {at c : ℕ} → Stand s at (c ∷ rest) → get_or s at 0 ≡ c
here {s} {at = at} {c} h =
    let e : get_or (drop at s) 0 0 ≡ c = ap (λ (l : List ℕ). get_or l 0 0) h.is in
    ap (λ (i : ℕ). get_or s i 0) (omega arith) ∙ sym (get_or-drop at s 0 0) ∙ e

within : {s rest : List ℕ} {at c : ℕ} → Stand s at (c ∷ rest) → at < length s
within h = omega (arith, h.long)

-- ---- texts
stands : {s : List ℕ} {at : ℕ} (text rest : List ℕ) → Stand s at (text ++ rest) → behind s at text ≡ Some (at + length text)
unfolding behind
stands [] rest h = ap Some (omega arith)
stands {s} {at} (c ∷ text) rest h =
    rw (lt-ltb at (length s) (within h), eq-eqb (get_or s at 0) c (here h)) (stands {at = at + 1} text rest (onward (c ∷ []) (text ++ rest) h) ∙ ap Some (omega arith))

absent : {s rest : List ℕ} {at c : ℕ} (d : ℕ) (text : List ℕ) → Stand s at (c ∷ rest) → eqb c d ≡ false → behind s at (d ∷ text) ≡ None
unfolding behind
absent {s} {at = at} d text h e = rw (lt-ltb at (length s) (within h), here h, e)

-- a line begins there that is no comment: 99 is `c`
no-comment : {s rest : List ℕ} {at c : ℕ} → Stand s at (c ∷ rest) → eqb c 99 ≡ false → past_comments s at ≡ at
unfolding comment past past_comments
no-comment h e = rw (h.is, absent 99 (bytes "omment\n") h e, absent 99 (bytes "omment ") h e)

-- ---- what is found, and what the file holds behind it
record Past (s rest : List ℕ) (found : Option ℕ) : Type 0 where
  to : ℕ
  is : found ≡ Some to
  next : Stand s to rest

record PastCount (s rest : List ℕ) (n : ℕ) (found : Option (ℕ × ℕ)) : Type 0 where
  to : ℕ
  is : found ≡ Some (n, to)
  next : Stand s to rest

record PastType (s rest : List ℕ) (t : Scalar) (found : Option (Scalar × ℕ)) : Type 0 where
  to : ℕ
  is : found ≡ Some (t, to)
  next : Stand s to rest

module _ {s : List ℕ} where
  text_at : {at : ℕ} (text rest : List ℕ) → Stand s at (text ++ rest) → Past s rest (behind s at text)
  text_at text rest h = record { to = _; is = stands text rest h; next = onward text rest h }

  line_at : {at : ℕ} (c : ℕ) (text rest : List ℕ) → eqb c 99 ≡ false → Stand s at ((c ∷ text) ++ rest) → Past s rest (line s at (c ∷ text))
  unfolding line
  line_at {at} c text rest e h =
      record { to = _; is = ap (λ (p : ℕ). behind s p (c ∷ text)) (no-comment h e) ∙ stands (c ∷ text) rest h; next = onward (c ∷ text) rest h }

-- ---- counts
-- one digit more
digit-more : (v d at : ℕ) (rest : List ℕ) → d < 10 → count_from v at ((48 + d) ∷ rest) ≡ count_from (v * 10 + d) (at + 1) rest
unfolding count_from digit
digit-more v d at rest h =
    rw (le-leb 48 (48 + d) (omega arith), le-leb (48 + d) 57 (omega arith)) (ap (λ (x : ℕ). count_from (v * 10 + x) (at + 1) rest) (omega arith))

-- the digits of n
spelt_back : {ds : List ℕ} {n : ℕ} → Spells ds n → (at : ℕ) (rest : List ℕ) → count_from 0 at (ds ++ rest) ≡ count_from n (at + length ds) rest
spelt_back (one d l) at rest = digit-more 0 d at rest l ∙ ap (λ (v : ℕ). count_from v (at + 1) rest) (omega arith)
spelt_back (more {ds} {n} d l h) at rest =
    ap (count_from 0 at) (append_assoc ds ((48 + d) ∷ []) rest)
    ∙ spelt_back h at ((48 + d) ∷ rest)
    ∙ digit-more n d (at + length ds) rest l
    ∙ ap (λ (i : ℕ). count_from (n * 10 + d) i rest) (omega (arith, length-append ds ((48 + d) ∷ [])))

-- the first of them
first-digit : {ds : List ℕ} {n : ℕ} → Spells ds n → (rest : List ℕ) → digit (get_or (ds ++ rest) 0 0) ≡ true
unfolding digit
first-digit (one d l) rest = rw (le-leb 48 (48 + d) (omega arith), le-leb (48 + d) 57 (omega arith))
first-digit (more {ds} d l h) rest = ap (λ (t : List ℕ). digit (get_or t 0 0)) (append_assoc ds ((48 + d) ∷ []) rest) ∙ first-digit h ((48 + d) ∷ rest)

module _ {s : List ℕ} where
  count_at : {at : ℕ} {ds : List ℕ} {n : ℕ} (said : Spells ds n) (rest : List ℕ) → Stand s at (ds ++ 10 ∷ rest) → count s at ≡ Some (n, at + length ds + 1)
  unfolding count count_from digit
  count_at {at} {ds} said rest h =
      let first : get_or s at 0 ≡ get_or (ds ++ 10 ∷ rest) 0 0 = ap (λ (i : ℕ). get_or s i 0) (omega arith) ∙ sym (get_or-drop at s 0 0) ∙ ap (λ (l : List ℕ). get_or l 0 0) h.is in
      rw (ap digit first ∙ first-digit said (10 ∷ rest), h.is) (spelt_back said at (10 ∷ rest))

  counted-at : {at : ℕ} (c : ℕ) (text : List ℕ) {ds : List ℕ} {n : ℕ} (said : Spells ds n) (rest : List ℕ) → eqb c 99 ≡ false
      → Stand s at ((c ∷ text) ++ (ds ++ 10 ∷ rest)) → PastCount s rest n (counted s at (c ∷ text))
  unfolding and_then counted
  counted-at c text {ds} said rest e h =
      let l = line_at c text (ds ++ 10 ∷ rest) e h in
      record {
        to = l.to + length ds + 1;
        is = rw l.is (count_at said rest l.next);
        next = onward (10 ∷ []) rest (onward ds (10 ∷ rest) l.next);
      }

  -- ---- a property
  scalar-at : {at : ℕ} (t : Scalar) (rest : List ℕ) → Stand s at (name_of t ++ 32 ∷ rest) → PastType s rest t (scalar s at)
  unfolding scalar
  scalar-at Float rest h = let l = text_at (bytes "float ") rest h in record { to = l.to; is = rw l.is; next = l.next }
  scalar-at Double rest h =
      let l = text_at (bytes "double ") rest h in
      record { to = l.to; is = rw (absent 102 (bytes "loat ") h refl, l.is); next = l.next }
  scalar-at Int rest h =
      let l = text_at (bytes "int ") rest h in
      record { to = l.to; is = rw (absent 102 (bytes "loat ") h refl, absent 100 (bytes "ouble ") h refl, l.is); next = l.next }

  axis-at : {at : ℕ} (t : Scalar) (name rest : List ℕ) → Stand s at (bytes "property " ++ (name_of t ++ 32 ∷ (name ++ rest))) → PastType s rest t (axis s at name)
  unfolding and_then and_read axis
  axis-at t name rest h =
      let a = line_at 112 (bytes "roperty ") (name_of t ++ 32 ∷ (name ++ rest)) refl h in
      let b = scalar-at t (name ++ rest) a.next in
      let c = text_at name rest b.next in
      record { to = c.to; is = rw (a.is, b.is, c.is); next = c.next }

-- ---- the header
-- line by line
whole : (s : List ℕ) {a b c d e f g h body n k : ℕ} {x y z : Scalar}
    → behind s 0 (bytes "ply\n") ≡ Some a
    → line s a (bytes "format binary_little_endian 1.0\n") ≡ Some b
    → counted s b (bytes "element vertex ") ≡ Some (n, c)
    → axis s c (bytes "x\n") ≡ Some (x, d)
    → axis s d (bytes "y\n") ≡ Some (y, e)
    → axis s e (bytes "z\n") ≡ Some (z, f)
    → counted s f (bytes "element face ") ≡ Some (k, g)
    → line s g (bytes "property list uchar int vertex_indices\n") ≡ Some h
    → line s h (bytes "end_header\n") ≡ Some body
    → header s ≡ Some (record { x = x; y = y; z = z; vertices = n; faces = k; body = body })
unfolding and_then and_read header
whole s p q r t u v w j l = rw (p, q, r, t, u, v, w, j, l)

-- its parts, bracketed as they are read
regroup : (a b c n l p x u y v z w f k q e rest : List ℕ)
    → (a ++ b ++ c ++ n ++ l ++ p ++ x ++ u ++ p ++ y ++ v ++ p ++ z ++ w ++ f ++ k ++ l ++ q ++ e) ++ rest
    ≡ a ++ (b ++ (c ++ (n ++ (l ++ (p ++ (x ++ (u ++ (p ++ (y ++ (v ++ (p ++ (z ++ (w ++ (f ++ (k ++ (l ++ (q ++ (e ++ rest))))))))))))))))))
regroup a b c n l p x u y v z w f k q e rest = simp append_assoc

-- the place behind the header, and the file there
record Read (x y z : Scalar) (n k : ℕ) (rest s : List ℕ) : Type 0 where
  to : ℕ
  is : header s ≡ Some (record { x = x; y = y; z = z; vertices = n; faces = k; body = to })
  next : Stand s to rest

module _ (x y z : Scalar) {vs fs : List ℕ} {n k : ℕ} (v : Spells vs n) (f : Spells fs k) (rest : List ℕ) where
  lines : (s : List ℕ)
      → s ≡ bytes "ply\n" ++ (bytes "format binary_little_endian 1.0\n" ++ (bytes "element vertex " ++ (vs ++ (bytes "\n"
      ++ (bytes "property " ++ (name_of x ++ (bytes " x\n" ++ (bytes "property " ++ (name_of y ++ (bytes " y\n" ++ (bytes "property " ++ (name_of z ++ (bytes " z\n"
      ++ (bytes "element face " ++ (fs ++ (bytes "\n" ++ (bytes "property list uchar int vertex_indices\n" ++ (bytes "end_header\n" ++ rest))))))))))))))))))
      → Read x y z n k rest s
  lines s start =
      let r8 = bytes "end_header\n" ++ rest in
      let r7 = bytes "property list uchar int vertex_indices\n" ++ r8 in
      let r6 = bytes "element face " ++ (fs ++ (bytes "\n" ++ r7)) in
      let r5 = bytes "property " ++ (name_of z ++ (bytes " z\n" ++ r6)) in
      let r4 = bytes "property " ++ (name_of y ++ (bytes " y\n" ++ r5)) in
      let r3 = bytes "property " ++ (name_of x ++ (bytes " x\n" ++ r4)) in
      let r2 = bytes "element vertex " ++ (vs ++ (bytes "\n" ++ r3)) in
      let r1 = bytes "format binary_little_endian 1.0\n" ++ r2 in
      let a = text_at {s = s} (bytes "ply\n") r1 (at-start start) in
      let b = line_at {at = a.to} 102 (bytes "ormat binary_little_endian 1.0\n") r2 refl a.next in
      let c = counted-at {at = b.to} 101 (bytes "lement vertex ") v r3 refl b.next in
      let d = axis-at {at = c.to} x (bytes "x\n") r4 c.next in
      let e = axis-at {at = d.to} y (bytes "y\n") r5 d.next in
      let g = axis-at {at = e.to} z (bytes "z\n") r6 e.next in
      let h = counted-at {at = g.to} 101 (bytes "lement face ") f r7 refl g.next in
      let i = line_at {at = h.to} 112 (bytes "roperty list uchar int vertex_indices\n") r8 refl h.next in
      let j = line_at {at = i.to} 101 (bytes "nd_header\n") rest refl i.next in
      record {
        to = j.to;
        is =
            whole s {a = a.to} {b = b.to} {c = c.to} {d = d.to} {e = e.to} {f = g.to} {g = h.to} {h = i.to} {body = j.to}
            a.is b.is c.is d.is e.is g.is h.is i.is j.is;
        next = j.next;
      }

  pub header-back : header (header_text x y z vs fs ++ rest)
      ≡ Some (record { x = x; y = y; z = z; vertices = n; faces = k; body = length (header_text x y z vs fs) })
  unfolding header_text
  header-back =
      let text = header_text x y z vs fs in
      let start =
      regroup (bytes "ply\n") (bytes "format binary_little_endian 1.0\n") (bytes "element vertex ") vs (bytes "\n")
      (bytes "property ") (name_of x) (bytes " x\n") (name_of y) (bytes " y\n") (name_of z) (bytes " z\n")
      (bytes "element face ") fs (bytes "property list uchar int vertex_indices\n") (bytes "end_header\n") rest
      in
      let l = lines (text ++ rest) start in
      let body : l.to ≡ length text = omega (arith, l.next.long, length-append text rest) in
      l.is ∙ ap (λ (b : ℕ). Some (record { x = x; y = y; z = z; vertices = n; faces = k; body = b })) body
