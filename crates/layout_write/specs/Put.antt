-- What the functions of the writer ask and answer. Definitions only; no public promise cites them.
use Rattle.std.specs.Prelude.{true, List, [], ◌∷◌, ◌≡◌, ℕ, ◌+◌, ◌<◌, ◌≤◌, ℤ, pos, length, get_or}
use Rattle.bits.specs.declared.Pen.{Pen}
use Rattle.bits.specs.Inner.{Room, Put}
use Rattle.layout.specs.Layout.{FieldForm}
use Rattle.layout_write.specs.Writing.{can_hold, encoded}

-- How many bits fields have together.
abbrev pub total : List FieldForm → ℕ
total [] = 0
total (f ∷ fs) = f.bits + total fs

-- Number i of a list can be put behind a pen, as the field f.
pub record Puttable (s : List ℕ) (p : Pen) (f : FieldForm) (ns : List ℤ) (i : ℕ) : Type 0 where
  pub room : Room s p f.bits
  pub some : 1 ≤ f.bits
  pub there : i < length ns
  pub held : can_hold f (get_or ns i (pos 0)) ≡ true

-- It has been put there.
abbrev pub PutNumber : (old : List ℕ) → Pen → FieldForm → List ℤ → ℕ → (new : List ℕ) → Pen → Type 0
PutNumber old p f ns i new r = Put old p f.bits (encoded f.coding f.bits (get_or ns i (pos 0))) new r
