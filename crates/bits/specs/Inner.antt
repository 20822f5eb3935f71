-- What a pen asks and answers. Definitions only; no public promise cites them.
use Rattle.std.specs.Prelude.{List, ◌≡◌, ℕ, ◌+◌, ◌*◌, ◌^◌, ◌≤◌, length, drop}
use Rattle.bits.specs.declared.Pen.{Pen}
use Rattle.bits.specs.Field.{field_at}

-- ---- a pen
-- How many bits a pen has written, and these bits as one number: those of the whole bytes, then those that it holds back.
abbrev pub pen_bits : Pen → ℕ
pen_bits p = p.at * 8 + p.bits

abbrev pub pen_number : List ℕ → Pen → ℕ
pen_number s p = field_at s 0 (p.at * 8) * 2 ^ p.bits + p.held

-- The bytes have room for w bits more behind a pen.
pub record Room (s : List ℕ) (p : Pen) (w : ℕ) : Type 0 where
  pub narrow : w ≤ 25
  pub room : pen_bits p + w ≤ length s * 8

-- w bits, as the number v, have been put behind a pen: the bytes behind them are as they were.
pub record Put (old : List ℕ) (p : Pen) (w v : ℕ) (new : List ℕ) (r : Pen) : Type 0 where
  pub grown : pen_bits r ≡ pen_bits p + w
  pub holds : pen_number new r ≡ pen_number old p * 2 ^ w + v
  pub behind : drop r.at new ≡ drop r.at old
  pub same : length new ≡ length old
