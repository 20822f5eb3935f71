-- Laws of texts put into bytes.
--     length-spliced    the bytes stay as many
--     spliced-none      no text
--     spliced-byte      one byte
--     spliced-part      a part that is written over
--     spliced-more      one text behind another
--     puts-more        the same, of what the code puts
-- Assumes nothing.
use mathlib.Core.List.{List, [], ◌∷◌, ◌++◌, append_assoc, append-nil}
use mathlib.Core.Path.{◌≡◌, sym, ap, ◌∙◌}
use Prim.Native.Nat.{ℕ, suc, ◌+◌, ◌<◌, ◌≤◌}
use native.Mathlib.Nat.{add-zero}
use native.Mathlib.Omega.{arith}
use lib.ListN.{length, take, drop, set, length-append, length-drop, take-append-drop}
use lib.Seq.{length-take-le, append_snoc, set_split, take_at, drop-append-add, drop-drop}
use borrow.Rule.Slice.PartMut.{put_mid}
use Rattle.text.specs.Text.{spliced}
use Rattle.text.specs.Inner.{Puts}

module _ (s : List ℕ) (at : ℕ) where
  -- The bytes before the place, with the text behind them.
  head-length : (t : List ℕ) → at ≤ length s → length (take at s ++ t) ≡ at + length t
  head-length t h = length-append (take at s) t ∙ ap (λ (n : ℕ). n + length t) (length-take-le at s h)

  pub length-spliced : (t : List ℕ) → at + length t ≤ length s → length (spliced s at t) ≡ length s
  unfolding spliced
  length-spliced t h =
      length-append (take at s ++ t) (drop (at + length t) s) ∙ omega (arith, head-length t (omega arith), length-drop (at + length t) s)

  pub spliced-none : spliced s at [] ≡ s
  unfolding spliced
  spliced-none = ap (λ (k : ℕ). take at s ++ [] ++ drop k s) (add-zero at) ∙ ap (λ (r : List ℕ). r ++ drop at s) (append-nil (take at s)) ∙ take-append-drop at s

  pub spliced-byte : (b : ℕ) → at < length s → set s at b ≡ spliced s at (b ∷ [])
  unfolding spliced
  spliced-byte b h =
      let behind : suc at ≡ at + 1 = omega arith in
      set_split s at b h ∙ sym (append_snoc (take at s) b (drop (suc at) s)) ∙ ap (λ (k : ℕ). take at s ++ (b ∷ []) ++ drop k s) behind

  pub spliced-part : (t : List ℕ) (k : ℕ) → k ≡ length t → put_mid at k s t ≡ spliced s at t
  unfolding spliced
  spliced-part t k e = rw e (ap (λ (r : List ℕ). take at s ++ (t ++ r)) (drop-drop (length t) at s) ∙ sym (append_assoc (take at s) t (drop (at + length t) s)))

  pub spliced-more : (t u : List ℕ) → at ≤ length s → spliced (spliced s at t) (at + length t) u ≡ spliced s at (t ++ u)
  unfolding spliced
  spliced-more t u h =
      let head = take at s ++ t in
      let e = head-length t h in
      let behind : at + length t + length u ≡ at + length (t ++ u) = omega (arith, length-append t u) in
      ap (λ (r : List ℕ). r ++ u ++ drop (at + length t + length u) (head ++ drop (at + length t) s)) (take_at head (drop (at + length t) s) (at + length t) e)
      ∙ ap (λ (k : ℕ). head ++ u ++ drop (k + length u) (head ++ drop (at + length t) s)) (sym e)
      ∙ ap (λ (r : List ℕ). head ++ u ++ r) (drop-append-add head (drop (at + length t) s) (length u) ∙ drop-drop (length u) (at + length t) s)
      ∙ ap (λ (r : List ℕ). r ++ drop (at + length t + length u) s) (append_assoc (take at s) t u)
      ∙ ap (λ (k : ℕ). take at s ++ (t ++ u) ++ drop k s) behind

pub puts-more : {s : List ℕ} {at : ℕ} {t u m e : List ℕ} {mid end : ℕ} → at ≤ length s → Puts s at t m mid → Puts m mid u e end → Puts s at (t ++ u) e end
puts-more {s} {at} {t} {u} {m} {e} {mid} {end} h p q = record {
  bytes = q.bytes ∙ ap (λ (l : List ℕ). spliced l mid u) p.bytes ∙ ap (λ (k : ℕ). spliced (spliced s at t) k u) p.next ∙ spliced-more s at t u h;
  next = omega (arith, q.next, p.next, length-append t u);
}
