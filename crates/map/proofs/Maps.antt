-- Maps by their cells.
--     same_map       two lists of bytes with the same length and the same cells are equal
--     filled-map     the cells of the map of a property, with bytes behind it
--     map_is         bytes whose cells are those of a property are its map
-- Assumes nothing.
use mathlib.Core.Bool.{Bool, true, false, ◌&&◌}
use mathlib.Core.List.{List, [], ◌∷◌, ◌++◌}
use mathlib.Core.Path.{◌≡◌, refl, sym, ap, ◌∙◌}
use Prim.Native.Nat.{ℕ, zero, suc, ◌+◌, ◌-◌, ◌*◌, ◌/◌, ◌%◌, ◌^◌, ◌<◌, ◌≤◌}
use native.Mathlib.Nat.{mod-lt, add-zero, add-suc, div-one, pow-suc, zero-div}
use native.Mathlib.Decide.{dec_lt}
use native.Mathlib.Omega.{arith}
use lib.Dec.{eqb, ltb}
use lib.ListN.{length, get_or, drop, replicate, length-append, length-drop, length-replicate, get_or-append}
use lib.Pow.{shr-shr}
use lib.Seq.{ext_get_or, get_or-drop, get_or-append-add}
use Rattle.bits.specs.Field.{bit_at, field_at}
use Rattle.bits.proofs.Fields.{byte-field}
use Rattle.map.specs.Map.{map_length, is_filled, bit, first_bits, map_byte, tabulate, map_of}

-- Bytes.
abbrev pub Bytes : List ℕ → Type 0
Bytes s = (i : ℕ) → get_or s i 0 < 256

-- ---- equal cells, equal bytes
-- A cell's bit, as a field of one bit.
same_bit : (a b : List ℕ) (n : ℕ) → is_filled a n ≡ is_filled b n → bit_at a n ≡ bit_at b n
unfolding is_filled bit_at
same_bit a b n = go (get_or a (n / 8) 0 / 2 ^ (7 - n % 8) % 2) (get_or b (n / 8) 0 / 2 ^ (7 - n % 8) % 2) (mod-lt _ (omega arith)) (mod-lt _ (omega arith))
  where
    go : (x y : ℕ) → x < 2 → y < 2 → eqb x 1 ≡ eqb y 1 → x ≡ y
    go zero zero h k e = refl
    go zero (suc zero) h k e = let z : ◌≡◌ {A = ℕ} 0 1 = cc in absurd (omega arith)
    go (suc zero) zero h k e = let z : ◌≡◌ {A = ℕ} 0 1 = cc in absurd (omega arith)
    go (suc zero) (suc zero) h k e = refl
    go zero (suc (suc y)) h k e = absurd (omega arith)
    go (suc zero) (suc (suc y)) h k e = absurd (omega arith)
    go (suc (suc x)) y h k e = absurd (omega arith)

same-field : (a b : List ℕ) → ((n : ℕ) → is_filled a n ≡ is_filled b n) → (p w : ℕ) → field_at a p w ≡ field_at b p w
unfolding field_at
same-field a b h p zero = refl
same-field a b h p (suc w) = rw (same-field a b h p w, same_bit a b (p + w) (h (p + w)))

pub same_map : (a b : List ℕ) → Bytes a → Bytes b → length a ≡ length b → ((n : ℕ) → is_filled a n ≡ is_filled b n) → a ≡ b
same_map a b ba bb l h =
    ext_get_or 0 a b l (λ i _. sym (byte-field a i (ba i)) ∙ same-field a b h (i * 8) 8 ∙ byte-field b i (bb i))

-- ---- tables
module _ {A : Type 0} (f : ℕ → A) where
  pub length-tabulate : (n : ℕ) → length (tabulate f n) ≡ n
  unfolding tabulate
  length-tabulate zero = refl
  length-tabulate (suc n) = rw length-append (omega (arith, length-tabulate n))

  pub get_d_tabulate : (n i : ℕ) (d : A) → i < n → get_or (tabulate f n) i d ≡ f i
  unfolding tabulate
  get_d_tabulate zero i d h = absurd (omega arith)
  get_d_tabulate (suc n) i d h = go (dec_lt i n) (get_d_tabulate n i d)
    where
      go : Dec (i < n) → (i < n → get_or (tabulate f n) i d ≡ f i) → get_or (tabulate f n ++ (f n ∷ [])) i d ≡ f i
      go (yes l) ih = get_or-append (tabulate f n) (f n ∷ []) d i (rw (length-tabulate n) l) ∙ ih l
      go (no l) ih =
          let same : i ≡ length (tabulate f n) + 0 = omega (arith, length-tabulate n) in
          let last : n ≡ length (tabulate f n) + 0 = omega (arith, length-tabulate n) in
          rw (same, get_or-append-add (tabulate f n) (f n ∷ []) 0 d) (ap f last)

-- ---- the byte of a property
bit-back : (b : Bool) → eqb (bit b) 1 ≡ b
bit-back true = refl
bit-back false = refl

-- A cell is known by its byte.
pub cell-of-byte : (a b : List ℕ) (n : ℕ) → get_or a (n / 8) 0 ≡ get_or b (n / 8) 0 → is_filled a n ≡ is_filled b n
unfolding is_filled
cell-of-byte a b n e = ap (λ (x : ℕ). eqb (x / 2 ^ (7 - n % 8) % 2) 1) e

bit-lt : (b : Bool) → bit b < 2
bit-lt true = omega arith
bit-lt false = omega arith

module _ (p : ℕ → Bool) (q : ℕ) where
  bits-lt : (w : ℕ) → first_bits p q w < 2 ^ w
  unfolding first_bits
  bits-lt zero = omega arith
  bits-lt (suc w) = omega (arith, bits-lt w, bit-lt (p (q * 8 + w)), pow-suc 2 w)

  -- Bit j, with r bits behind it.
  bit-of : (j r : ℕ) → first_bits p q (suc j + r) / 2 ^ r % 2 ≡ bit (p (q * 8 + j))
  unfolding first_bits
  bit-of j zero = rw (add-zero (suc j), div-one (first_bits p q (suc j))) (omega (arith, bit-lt (p (q * 8 + j))))
  bit-of j (suc r) =
      let half : (first_bits p q (suc j + r) * 2 + bit (p (q * 8 + (suc j + r)))) / 2 ≡ first_bits p q (suc j + r) = omega (arith, bit-lt (p (q * 8 + (suc j + r)))) in
      let more : suc r ≡ 1 + r = omega arith in
      rw (add-suc (suc j) r, more, ← shr-shr (first_bits p q (suc (suc j + r))) 1 r, half) (bit-of j r)

  -- The bits of the byte are the property's.
  byte-bit : (n : ℕ) → n / 8 ≡ q → eqb (map_byte p q / 2 ^ (7 - n % 8) % 2) 1 ≡ p n
  byte-bit n e =
      let whole : 8 ≡ suc (n % 8) + (7 - n % 8) = omega arith in
      let here : q * 8 + n % 8 ≡ n = omega arith in
      let read : first_bits p q 8 / 2 ^ (7 - n % 8) % 2 ≡ bit (p n) =
      ap (λ (w : ℕ). first_bits p q w / 2 ^ (7 - n % 8) % 2) whole ∙ bit-of (n % 8) (7 - n % 8) ∙ ap (λ (m : ℕ). bit (p m)) here in
      ap (λ (x : ℕ). eqb x 1) read ∙ bit-back (p n)

-- ---- the map of a property, with bytes behind it
module _ (p : ℕ → Bool) (cells : ℕ) where
  pub length-map : length (map_of p cells) ≡ map_length cells
  unfolding map_of
  length-map = length-tabulate (map_byte (λ n. ltb n cells && p n)) (map_length cells)

  map_at : (i : ℕ) → i < map_length cells → get_or (map_of p cells) i 0 ≡ map_byte (λ n. ltb n cells && p n) i
  unfolding map_of
  map_at i h = get_d_tabulate (map_byte (λ n. ltb n cells && p n)) (map_length cells) i 0 h

  module _ (b : List ℕ) where
    front : (i : ℕ) → i < map_length cells → get_or (map_of p cells ++ b) i 0 ≡ map_byte (λ n. ltb n cells && p n) i
    front i h = get_or-append (map_of p cells) b 0 i (rw length-map h) ∙ map_at i h

    back : (i : ℕ) → map_length cells ≤ i → get_or (map_of p cells ++ b) i 0 ≡ get_or b (i - map_length cells) 0
    back i h =
        let e : i ≡ length (map_of p cells) + (i - map_length cells) = omega (arith, length-map) in
        ap (λ (k : ℕ). get_or (map_of p cells ++ b) k 0) e ∙ get_or-append-add (map_of p cells) b (i - map_length cells) 0

    -- A cell of the map is filled exactly where it is a cell of the grid and has the property.
    pub filled-map : (n : ℕ) → n < 8 * map_length cells → is_filled (map_of p cells ++ b) n ≡ (ltb n cells && p n)
    unfolding is_filled
    filled-map n h = rw (front (n / 8) (omega arith)) (byte-bit (λ m. ltb m cells && p m) (n / 8) n refl)

    pub bytes-map : Bytes b → Bytes (map_of p cells ++ b)
    bytes-map h i = go (dec_lt i (map_length cells))
      where
        go : Dec (i < map_length cells) → get_or (map_of p cells ++ b) i 0 < 256
        go (yes l) = rw (front i l) (bits-lt (λ n. ltb n cells && p n) i 8)
        go (no l) = rw (back i (omega arith)) (h (i - map_length cells))

  -- Bytes that are as long as the old ones, hold the property in the map's cells, and are the old ones behind the map.
  pub map_is : (old new : List ℕ) → Bytes old → Bytes new → length new ≡ length old → map_length cells ≤ length old
      → ((n : ℕ) → n < 8 * map_length cells → is_filled new n ≡ (ltb n cells && p n))
      → ((n : ℕ) → 8 * map_length cells ≤ n → is_filled new n ≡ is_filled old n)
      → new ≡ map_of p cells ++ drop (map_length cells) old
  map_is old new bo bn same room inside behind =
      same_map new (map_of p cells ++ rest) bn (bytes-map rest (λ i. rw (get_or-drop (map_length cells) old i 0) (bo (map_length cells + i))))
      (same ∙ sym (length-append (map_of p cells) rest ∙ omega (arith, length-map, length-drop (map_length cells) old)))
      (λ n. go n (dec_lt n (8 * map_length cells)))
    where
      rest : List ℕ
      rest = drop (map_length cells) old

      same_byte : (i : ℕ) → map_length cells ≤ i → get_or (map_of p cells ++ rest) i 0 ≡ get_or old i 0
      same_byte i h =
          let e : map_length cells + (i - map_length cells) ≡ i = omega arith in
          back rest i h ∙ get_or-drop (map_length cells) old (i - map_length cells) 0 ∙ ap (λ (k : ℕ). get_or old k 0) e

      same-cell : (n : ℕ) → 8 * map_length cells ≤ n → is_filled old n ≡ is_filled (map_of p cells ++ rest) n
      same-cell n h = cell-of-byte old (map_of p cells ++ rest) n (sym (same_byte (n / 8) (omega arith)))

      go : (n : ℕ) → Dec (n < 8 * map_length cells) → is_filled new n ≡ is_filled (map_of p cells ++ rest) n
      go n (yes l) = inside n l ∙ sym (filled-map rest n l)
      go n (no l) = behind n (omega arith) ∙ same-cell n (omega arith)

-- ---- a map whose first bytes are emptied
abbrev zeros : ℕ → List ℕ
zeros len = replicate len 0

length-zeros : (len : ℕ) → length (zeros len) ≡ len
length-zeros len = length-replicate {A = ℕ} len 0

zeros-at : (len i : ℕ) → get_or (zeros len) i 0 ≡ 0
zeros-at zero i = refl
zeros-at (suc len) zero = refl
zeros-at (suc len) (suc i) = zeros-at len i

module _ (len : ℕ) (s : List ℕ) (room : len ≤ length s) where
  abbrev cleared : List ℕ
  cleared = zeros len ++ drop len s

  pub length-cleared : length cleared ≡ length s
  length-cleared = length-append (zeros len) (drop len s) ∙ omega (arith, length-zeros len, length-drop len s)

  pub cleared-in : (n : ℕ) → n < 8 * len → is_filled cleared n ≡ false
  unfolding is_filled
  cleared-in n h =
      rw (get_or-append (zeros len) (drop len s) 0 (n / 8) (rw (length-zeros len) (omega arith)), zeros-at len (n / 8), zero-div (2 ^ (7 - n % 8)))

  pub cleared-behind : (n : ℕ) → 8 * len ≤ n → is_filled cleared n ≡ is_filled s n
  cleared-behind n h =
      let k = n / 8 - len in
      let at : n / 8 ≡ length (zeros len) + k = omega (arith, length-zeros len) in
      let back : len + k ≡ n / 8 = omega arith in
      cell-of-byte cleared s n
      (ap (λ (i : ℕ). get_or cleared i 0) at ∙ get_or-append-add (zeros len) (drop len s) k 0 ∙ get_or-drop len s k 0 ∙ ap (λ (i : ℕ). get_or s i 0) back)

  pub bytes-cleared : Bytes s → Bytes cleared
  bytes-cleared b i = go (dec_lt i len)
    where
      go : Dec (i < len) → get_or cleared i 0 < 256
      go (yes l) = rw (get_or-append (zeros len) (drop len s) 0 i (rw (length-zeros len) l), zeros-at len i) (omega arith)
      go (no l) =
          let at : i ≡ length (zeros len) + (i - len) = omega (arith, length-zeros len) in
          rw (ap (λ (j : ℕ). get_or cleared j 0) at ∙ get_or-append-add (zeros len) (drop len s) (i - len) 0 ∙ get_or-drop len s (i - len) 0) (b (len + (i - len)))
