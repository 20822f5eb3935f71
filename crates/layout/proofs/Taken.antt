-- What fields taken one behind the other make.
--     record-taken    a kind and three points are a record's values
--     kind-any        the kind stands at the same place in every layout
-- Assumes nothing.
use mathlib.Core.List.{List}
use mathlib.Core.Path.{◌≡◌, refl, ap, ◌∙◌}
use Prim.Native.Nat.{ℕ, ◌+◌, ◌*◌}
use native.Mathlib.Omega.{arith}
use Rattle.geometry.specs.declared.Point.{Point}
use Rattle.layout.specs.declared.Layout.{Layout}
use Rattle.layout.specs.declared.Record.{Record}
use Rattle.layout.specs.Layout.{version1}
use Rattle.layout.specs.Values.{record_in, kind_in}
use Rattle.layout.specs.Taken.{point_in}

pub record-taken : (l : Layout) (s : List ℕ) {k : ℕ} {p q r : Point} → k ≡ kind_in version1 s → let w = l.coordinate in
    p ≡ point_in s 2 w → q ≡ point_in s (2 + 3 * w) w → r ≡ point_in s (2 + 6 * w) w
    → ◌≡◌ {A = Record} (record { triangle = record { v0 = p; v1 = q; v2 = r }; kind = k }) (record_in l s)
unfolding record_in kind_in
record-taken l s k p q r =
    let w = l.coordinate in
    let at : ℕ → Point = λ n. point_in s n w in
    λ i. record {
      triangle = record {
        v0 = p i;
        v1 = (q ∙ ap at {y = 2 + w + w + w} (omega arith)) i;
        v2 = (r ∙ ap at {y = 2 + w + w + w + w + w + w} (omega arith)) i;
      };
      kind = k i;
    }

pub kind-any : (l m : Layout) (s : List ℕ) → kind_in l s ≡ kind_in m s
unfolding kind_in
kind-any l m s = refl
