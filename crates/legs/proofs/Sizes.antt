-- The size of a leg's slab: it stays within the bounds that runs of cells take.
-- Assumes nothing.
use Prim.Native.Nat.{zero-le}
use lib.Dec.{lit≤}
use lib.IntN.{ℤ, pos, neg_ℤ, nat_abs}
use lib.Signed.{◌≤ℤ◌, ◌<ℤ◌}
use Rattle.integers.specs.Within.{Within}
use Rattle.integers.proofs.Omega.{zarith, neg! }
use Rattle.integers.proofs.Laws.{nn-mul, neg-*-r}
use Rattle.integers.proofs.Bounds.{within-sub, within-mul, within-neg, within-weaken}
use Rattle.integers.proofs.MinMax.{within-max}
use Rattle.geometry.specs.Bounds.{offset_max, step_max, extent_max}
use Rattle.legs.specs.Form.{BoundedForm}
use Rattle.legs.specs.Slab.{rising_slab}

module _ {va vb step extent : ℤ} (positive : pos 0 <ℤ step) (hs : Within step_max step) (hx : Within extent_max extent) (hva : Within offset_max va) (hvb : Within offset_max vb) where
  pub rising-bounded : {fa fb : ℤ} → Within offset_max fa → Within offset_max fb → fb ≤ℤ pos 0 → BoundedForm (rising_slab fa fb va vb step extent)
  rising-bounded {fa} {fb} ha hb down = record {
    rises = rw (← neg-*-r step fb) (nn-mul {a = step} {b = neg_ℤ fb} (omega zarith) (omega (zarith, neg! fb)));
    a = within-weaken (lit≤ tt) (within-neg (within-mul hs hb));
    b = within-weaken (lit≤ tt) (within-mul hs ha);
    c =
        within-weaken (lit≤ tt)
        (within-sub (within-mul hx (within-sub (within-max (pos 0) fa (record { within = zero-le }) ha) hb)) (within-sub (within-mul ha hvb) (within-mul hb hva)));
    reach = within-weaken (lit≤ tt) (within-mul hx (within-sub {a = pos (nat_abs fa)} (record { within = ha.within }) hb));
  }
