-- `map::next_filled`: a byte with no filled cell from `first` on is passed over.
use Rattle.std.proofs.Common.{◌≡◌, ℕ, ◌+◌, ◌*◌, ◌/◌, ◌%◌, ◌≤◌, ◌<◌, List, min, false, arith}
use native.Mathlib.Decide.{dec_lt}
use Rattle.map.specs.Map.{is_filled}
use Rattle.map.proofs.Filled.{last_bits, first_of, masked, none-at-all, first-left, none-left}
use Rattle.map.proofs.next_filled.Goals as goal
use Rattle.map.proofs.next_filled.Goals.{then-map-byte-ne0+else-cells-ne0, else-map-byte-ne0}

-- no cell is filled from `first` to n, nor from n to r; so none is to r
further : (s : List ℕ) (first n r : ℕ) → ((m : ℕ) → m < n → first ≤ m → is_filled s m ≡ false) → ((m : ℕ) → n ≤ m → first ≤ m → m < r → is_filled s m ≡ false)
    → (m : ℕ) → m < r → first ≤ m → is_filled s m ≡ false
further s first n r before after m u v = go (dec_lt m n)
  where
    go : Dec (m < n) → is_filled s m ≡ false
    go (yes l) = before m l v
    go (no l) = after m (omega arith) v u

pub returns-then-cells-ne0 : goal.returns-then-cells-ne0
returns-then-cells-ne0 c =
    let s = c.args.map.now in
    let n = c.loop-n.n in
    let q = n / 8 in
    let skip = n % 8 in
    let e = masked s q skip (omega arith) in
    let f = first-left s q skip (omega arith) (omega (arith, rw e at c.if-cells-ne0.true)) in
    let k = first_of s q skip in
    let r : c.min.result ≡ min c.args.end k = rw e at c.min.ensures in
    record {
      from = omega (arith, f.low, c.loop-n.invariant.0);
      to = omega arith;
      skipped = λ m u v. further s c.args.first n k c.loop-n.invariant.1 (λ m h v u. f.before m (omega (arith, h)) u) m (omega arith) v;
      stopped = λ h. let same : c.min.result ≡ k = omega arith in rw same f.here;
    }

pub loop-n-preserved : goal.loop-n-preserved
loop-n-preserved c =
    let s = c.args.map.now in
    let n = c.loop-n.n in
    let q = n / 8 in
    let skip = n % 8 in
    let none : last_bits s q skip ≡ 0 =
    elim c.if-map-byte-ne0.branch [
      | then-map-byte-ne0+else-cells-ne0 w ↦ rw (masked s q skip (omega arith)) at w.if-cells-ne0.false
      | else-map-byte-ne0 w ↦ none-at-all s q skip w.if-map-byte-ne0.false
    ] in (
      omega (arith, c.loop-n.invariant.0),
      λ m u v. further s c.args.first n (q * 8 + 8) c.loop-n.invariant.1 (λ m h v u. none-left s q skip none m (omega (arith, h)) (omega (arith, u))) m u v,
    )
