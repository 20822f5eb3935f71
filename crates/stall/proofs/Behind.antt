-- A list written at the start of another, and a second one written behind it through a part. Assumes nothing.
use mathlib.Core.List.{List, ◌++◌, append_assoc, append-nil}
use mathlib.Core.Path.{◌≡◌}
use Prim.Native.Nat.{ℕ, ◌+◌, ◌-◌, ◌≤◌}
use native.Mathlib.Omega.{arith}
use borrow.Rule.Slice.PartMut.{mid_of, put_mid}
use lib.IntN.{ℤ}
use lib.ListN.{length, drop, length-append, drop_of_length-le}
use lib.Seq.{take_at, drop_at, take_all, drop-drop}

pub put-behind : (h r o : List ℤ) (n : ℕ) → length h ≡ n → let l = h ++ drop n o in let k = length l - n in
    put_mid n k l (r ++ drop (length r) (mid_of n k l)) ≡ (h ++ r) ++ drop (n + length r) o
put-behind h r o n e =
    let l = h ++ drop n o in
    let rest : length (drop n o) ≤ length l - n = omega (arith, length-append h (drop n o)) in
    rw (take_at h (drop n o) n e, drop_at h (drop n o) n e, take_all _ (drop n o) rest, drop_of_length-le (drop n o) rest, append-nil, drop-drop, append_assoc)
