-- What holds of an accepted file.
--     file-questions, checked-by   questions 1 to 7, and the check's answer, by the two parts of the check
--     questions-refused, -passed   what the check's answer says of questions 1 to 7
--     reading-refused, -accepted   a plain reading's answer, by the check's
--     header-passed                questions 1 to 6, of which 2, 3 and 6 as facts
--     accepted                     what an accepted file is
--     usable, map-most             its grid is usable, and its map has at most 32,768 bytes
--     held, follows, sides         what the readers of a record ask, and what the number of the grid's cells asks
--     check-err                    the limit of a file, handed on by a `?`
-- Assumes nothing.
use mathlib.Core.List.{List}
use mathlib.Core.Path.{◌≡◌, refl, sym, ap, ◌∙◌}
use Prim.Native.Nat.{ℕ, ◌+◌, ◌/◌, ◌^◌, ◌<◌, ◌≤◌}
use native.Mathlib.Nat.{mul-le-mul}
use native.Mathlib.Omega.{arith}
use borrow.Author.Tests.{eqb-true}
use lib.Dec.{lit≤}
use lib.IntN.{pos}
use lib.ListN.{length}
use lib.Signed.{◌<ℤ◌}
use Rattle.integers.proofs.Omega.{lt-true}
use Rattle.std.specs.Prelude.{Result, Ok, Err, IsErrAnd}
use Rattle.refusal.specs.declared.Limit.{Limit}
use Rattle.refusal.specs.Limit.{gives, refused, said_limit}
use Rattle.refusal.specs.Questions.{of_each}
use Rattle.refusal.specs.Inner.{passed, asked}
use Rattle.refusal.proofs.Asking.{passed-head, and_then, both-passed, first-append, asked-first, refuses, passes, asked-refused, asked-given}
use Rattle.grid.specs.Grid.{cell_count}
use Rattle.grid.specs.Usable.{UsableGrid, BoundedGrid}
use Rattle.grid.proofs.Usable.{usable-weaken}
use Rattle.layout.specs.declared.Layout.{Layout}
use Rattle.layout.specs.declared.Header.{Header}
use Rattle.layout.specs.Layout.{version1, record_start}
use Rattle.layout.proofs.Bounds.{grid-within, count-lt}
use Rattle.frame.specs.declared.Frame.{Frame}
use Rattle.frame.specs.Frame.{said_check}
use Rattle.frame.specs.File.{header_of}
use Rattle.frame.specs.Inner.{HasRecord, Followed}
use Rattle.frame.specs.Questions.{header_questions, file_questions, kind_question, checked, contents, reading}

-- Questions 1 to 7, by the two parts of the check.
pub file-questions : (s : List ℕ) → let h = header_of s in
    asked (file_questions s) ≡ and_then (asked (header_questions version1 h s)) (asked (of_each (kind_question version1 s) h.count))
file-questions s =
    let h = header_of s in
    first-append tt (header_questions version1 h s) (of_each (kind_question version1 s) h.count)

pub checked-by : (s : List ℕ) → let h = header_of s in
    checked s ≡ and_then (and_then (asked (header_questions version1 h s)) (asked (of_each (kind_question version1 s) h.count))) (gives h)
unfolding checked
checked-by s = asked-first (header_of s) (file_questions s) ∙ rw (file-questions s)

-- ---- what the check's answer says of questions 1 to 7, and of a plain reading
module _ (s : List ℕ) where
  pub questions-refused : {n p : ℕ} → checked s ≡ refused n p → asked (file_questions s) ≡ refused n p
  unfolding checked
  questions-refused = asked-refused (header_of s) (file_questions s)

  pub questions-passed : (h : Header) → checked s ≡ gives h → asked (file_questions s) ≡ passed
  unfolding checked
  questions-passed h e = (asked-given (header_of s) (file_questions s) e).0

  pub header_is : (h : Header) → checked s ≡ gives h → header_of s ≡ h
  unfolding checked
  header_is h e = (asked-given (header_of s) (file_questions s) e).1

  module _ (i : ℕ) where
    pub reading-refused : {n p : ℕ} → checked s ≡ refused n p → reading s i ≡ refused n p
    unfolding reading
    reading-refused e = refuses _ _ (questions-refused e)

    pub reading-accepted : (h : Header) → checked s ≡ gives h → reading s i ≡ gives (contents s h i)
    unfolding reading
    reading-accepted h e = passes _ _ (questions-passed h e) ∙ ap (λ (x : Header). gives (contents s x i)) (header_is h e)

-- ---- questions 1 to 6: what 2, 3 and 6 say
pub record HeaderPassed (l : Layout) (h : Header) (s : List ℕ) : Type 0 where
  pub version : h.version ≡ 1
  pub edge : pos 0 <ℤ h.grid.edge
  pub whole : length s ≡ record_start l h.count

pub header-passed : (l : Layout) (h : Header) (s : List ℕ) → asked (header_questions l h s) ≡ passed → HeaderPassed l h s
header-passed l h s p =
    let q2 = passed-head tt _ _ (passed-head tt _ _ p).1 in
    let q3 = passed-head tt _ _ q2.1 in
    let q6 = passed-head tt _ _ (passed-head tt _ _ (passed-head tt _ _ q3.1).1).1 in
    record { version = eqb-true _ _ q2.0; edge = lt-true _ _ q3.0; whole = eqb-true _ _ q6.0 }

-- ---- what an accepted file is: the bounds of its grid, which come from the widths of its fields; an edge above 0; and its records are there
pub record AcceptedFile (s : List ℕ) (h : Header) : Type 0 where
  pub header : header_of s ≡ h
  pub version : h.version ≡ 1
  pub grid : UsableGrid (2 ^ 13) (2 ^ 8) h.grid
  pub count : h.count < 4096
  pub records : (i : ℕ) → i < h.count → record_start version1 i ≤ length s
  pub followed : (i : ℕ) → i + 1 < h.count → record_start version1 i + 32 ≤ length s

pub accepted : (s : List ℕ) (h : Header) → checked s ≡ gives h → AcceptedFile s h
accepted s h e =
    let p = header-passed version1 (header_of s) s (both-passed _ _ (sym (file-questions s) ∙ questions-passed s h e)).0 in
    let n = count-lt version1 s in
    rw (← header_is s h e)
    (record {
      header = refl;
      version = p.version;
      grid = record { within = grid-within version1 s; positive = p.edge };
      count = n;
      records = λ i l. omega (arith, p.whole);
      followed = λ i l. omega (arith, p.whole);
    })

module _ {s : List ℕ} {h : Header} (a : AcceptedFile s h) where
  pub usable : BoundedGrid h.grid
  usable = usable-weaken (lit≤ tt) (lit≤ tt) a.grid

  pub map-most : (cell_count h.grid + 7) / 8 ≤ 32768
  map-most = let g = a.grid.within in omega (arith, mul-le-mul (mul-le-mul g.x.most g.y.most) g.z.most)

-- ---- what the reader of a record asks
module _ (s : List ℕ) {h : Header} (e : checked s ≡ gives h) where
  pub held : {i : ℕ} → i < h.count → HasRecord s i
  held l = let a = accepted s h e in record { number = omega (arith, a.count); start = a.records _ l }

  pub follows : {i : ℕ} → i + 1 < h.count → Followed s i
  follows l = let a = accepted s h e in record { number = omega (arith, a.count); room = a.followed _ l }

  -- what the number of the grid's cells asks
  pub sides : (h.grid.nx ≤ 64) × (h.grid.ny ≤ 64) × (h.grid.nz ≤ 64)
  sides = let g = (accepted s h e).grid.within in (g.x.most, g.y.most, g.z.most)

-- ---- the limit of a file, handed on by a `?`
pub check-err : (r : Result Frame Limit) (l : Limit) → IsErrAnd r (λ e. e ≡ l) → said_check r ≡ said_limit l
check-err (Ok f) l h = absurd h
check-err (Err e) l h = ap said_limit h
