-- Pieces of one length, one behind the other.
--     length-pieces      how long n of them are
--     piece-room         where there is room for all, there is for each
--     Filling, fill_none, fill-room, fill_more, fill-all, fill-long   they are put behind a head, one after the other
--     Piece, piece-at    each of them, where it is
--     pieces-same        the same pieces
--     behind-head, length-head   what goes behind a head that was put in first
--     length_part        a part that is cut out
--     length-record, length-header   the bytes of a record and of a header
-- Assumes nothing.
use mathlib.Core.List.{List, [], ◌++◌, append_assoc, append-nil}
use mathlib.Core.Path.{◌≡◌, refl, sym, ap, ap₂, ◌∙◌}
use Prim.Native.Nat.{ℕ, zero, suc, ◌+◌, ◌-◌, ◌*◌, ◌<◌, ◌≤◌}
use native.Mathlib.Nat.{mul-suc, mul-le-mul_left}
use native.Mathlib.Decide.{dec_lt}
use native.Mathlib.Numerals.{add-one}
use native.Mathlib.Omega.{arith}
use lib.IntN.{ℤ}
use lib.ListN.{length, take, drop, length-append, length-drop, take-append-drop}
use lib.Seq.{take_at, drop_at, drop-drop, drop-append-le, length-take-le}
use Rattle.bits.proofs.Pens.{length-bytes}
use Rattle.layout.specs.declared.Layout.{Layout}
use Rattle.layout.specs.Layout.{header_fields, record_fields}
use Rattle.layout_write.specs.Writing.{join, header_bytes, record_bytes}
use Rattle.frame_write.specs.Write.{concat_below}

module _ {A : Type 0} (f : ℕ → List A) (k : ℕ) (sized : (i : ℕ) → length (f i) ≡ k) where
  pub length-pieces : (n : ℕ) → length (concat_below f n) ≡ k * n
  unfolding concat_below
  length-pieces zero = omega arith
  length-pieces (suc n) = length-append (concat_below f n) (f n) ∙ omega (arith, length-pieces n, sized n, mul-suc k n)

  -- Piece i goes behind a head of h items and i pieces.
  piece-more : (h i : ℕ) (old out : List A) → h + k * i ≤ length old → out ≡ take h old ++ (concat_below f i ++ drop (h + k * i) old)
      → take (h + k * i) out ++ (f i ++ drop k (drop (h + k * i) out)) ≡ take h old ++ (concat_below f (i + 1) ++ drop (h + k * (i + 1)) old)
  unfolding concat_below
  piece-more h i old out room e =
      let a = h + k * i in
      let head = take h old ++ concat_below f i in
      let long : length head ≡ a = length-append (take h old) (concat_below f i) ∙ omega (arith, length-take-le h old (omega arith), length-pieces i) in
      let whole : out ≡ head ++ drop a old = e ∙ sym (append_assoc (take h old) (concat_below f i) (drop a old)) in
      let front : take a out ≡ head = ap (take a) whole ∙ take_at head (drop a old) a long in
      let behind : drop a out ≡ drop a old = ap (drop a) whole ∙ drop_at head (drop a old) a long in
      let next : h + k * suc i ≡ a + k = omega (arith, mul-suc k i) in
      rw (front, behind, drop-drop k a old, add-one i, next) (simp append_assoc)

-- There is room for piece i where there is room for n of them.
pub piece-room : (h k i n : ℕ) {len : ℕ} → i < n → h + k * n ≤ len → h + k * i + k ≤ len
piece-room h k i n l r = omega (arith, mul-suc k i, mul-le-mul_left {m = suc i} {n = n} k l)

-- ---- n pieces of one length are put behind a head, one after the other
pub record Filling {A : Type 0} (f : ℕ → List A) (k h n : ℕ) (old out : List A) (i : ℕ) : Type 0 where
  pub low : i ≤ n
  pub is : out ≡ take h old ++ (concat_below f i ++ drop (h + k * i) old)

module _ {A : Type 0} {f : ℕ → List A} {k h n : ℕ} {old : List A} where
  pub fill_none : Filling f k h n old old 0
  unfolding concat_below
  fill_none = let first : h + k * 0 ≡ h = omega arith in record { low = omega arith; is = rw first (sym (take-append-drop h old)) }

  pub fill-all : {out : List A} {i : ℕ} → Filling f k h n old out i → n ≤ i → out ≡ take h old ++ (concat_below f n ++ drop (h + k * n) old)
  fill-all {i = i} w l = let all : i ≡ n = omega (arith, w.low) in w.is ∙ ap (λ (m : ℕ). take h old ++ (concat_below f m ++ drop (h + k * m) old)) all

module _ {A : Type 0} {f : ℕ → List A} {k h n : ℕ} {old : List A} (sized : (i : ℕ) → length (f i) ≡ k) (room : h + k * n ≤ length old) {out : List A} {i : ℕ} (w : Filling f k h n old out i) where
  enough : h + k * i ≤ length old
  enough = omega (arith, room, mul-le-mul_left {m = i} {n = n} k w.low)

  pub fill-long : length out ≡ length old
  fill-long =
      ap length w.is
      ∙ length-append (take h old) _
      ∙ rw (length-append (concat_below f i) (drop (h + k * i) old), length-pieces f k sized i, length-drop (h + k * i) old, length-take-le h old (omega (arith, enough))) (omega (arith, enough))

  pub fill-room : i < n → h + k * i + k ≤ length out
  fill-room l = rw fill-long (piece-room h k i n l room)

  pub fill_more : {new : List A} → i < n → new ≡ take (h + k * i) out ++ (f i ++ drop k (drop (h + k * i) out)) → Filling f k h n old new (i + 1)
  fill_more l e = record { low = omega arith; is = e ∙ piece-more f k sized h i old out enough w.is }

-- ---- each piece, where it is
pub record Piece {A : Type 0} (here whole : List A) : Type 0 where
  pub rest : List A
  pub is : whole ≡ here ++ rest

module _ {A : Type 0} (f : ℕ → List A) (k : ℕ) (sized : (i : ℕ) → length (f i) ≡ k) where
  pub piece-at : (n i : ℕ) → i < n → Piece (f i) (drop (k * i) (concat_below f n))
  unfolding concat_below
  piece-at zero i h = absurd (omega arith)
  piece-at (suc n) i h = go (dec_lt i n) (piece-at n i)
    where
      go : Dec (i < n) → (i < n → Piece (f i) (drop (k * i) (concat_below f n))) → Piece (f i) (drop (k * i) (concat_below f n ++ f n))
      go (yes l) ih =
          let p = ih l in
          let room : k * i ≤ length (concat_below f n) = omega (arith, length-pieces f k sized n, mul-le-mul_left {m = i} {n = n} k (omega arith)) in
          record { rest = p.rest ++ f n; is = drop-append-le (k * i) (concat_below f n) (f n) room ∙ ap (λ (t : List A). t ++ f n) p.is ∙ append_assoc (f i) p.rest (f n) }
      go (no l) ih =
          let same : n ≡ i = omega arith in
          record {
            rest = [];
            is = ap (λ (j : ℕ). drop (k * i) (concat_below f j ++ f j)) same ∙ drop_at (concat_below f i) (f i) (k * i) (length-pieces f k sized i) ∙ sym (append-nil (f i));
          }

pub pieces-same : {A : Type 0} (f g : ℕ → List A) (n : ℕ) → ((i : ℕ) → i < n → f i ≡ g i) → concat_below f n ≡ concat_below g n
unfolding concat_below
pieces-same f g zero h = refl
pieces-same f g (suc n) h = ap₂ ◌++◌ (pieces-same f g n (λ i l. h i (omega arith))) (h n (omega arith))

-- What goes behind a head that was put in first.
pub behind-head : {A : Type 0} (front rest old : List A) (h m : ℕ) → length front ≡ h
    → take h (front ++ drop h old) ++ (rest ++ drop (h + m) (front ++ drop h old)) ≡ (front ++ rest) ++ drop (h + m) old
behind-head front rest old h m e =
    rw (take_at front (drop h old) h e, ← drop-drop m h (front ++ drop h old), drop_at front (drop h old) h e, drop-drop m h old)
    (sym (append_assoc front rest (drop (h + m) old)))

pub length-head : {A : Type 0} (front old : List A) (h : ℕ) → length front ≡ h → h ≤ length old → length (front ++ drop h old) ≡ length old
length-head front old h e k = length-append front (drop h old) ∙ rw (e, length-drop h old) (omega arith)

-- The part of a list from a place on, as long as it says.
pub length_part : {A : Type 0} (a k : ℕ) (s : List A) → a + k ≤ length s → length (take (a + k - a) (drop a s)) ≡ k
length_part a k s h =
    let same : a + k - a ≡ k = omega arith in
    rw same (length-take-le k (drop a s) (rw (length-drop a s) (omega arith)))

pub length-record : (l : Layout) (ns : List ℤ) → length (record_bytes l ns) ≡ l.stride
unfolding record_bytes
length-record l ns = length-bytes l.stride (join 0 (record_fields l) ns)

pub length-header : (l : Layout) (ns : List ℤ) → length (header_bytes l ns) ≡ l.header
unfolding header_bytes
length-header l ns = length-bytes l.header (join 0 (header_fields l) ns)
