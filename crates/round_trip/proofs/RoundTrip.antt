-- The two claims about writing and reading, of the calls.
--     write-then-read, read-then-write
-- Assumes nothing.
use mathlib.Core.List.{List, ◌++◌}
use mathlib.Core.Path.{◌≡◌, sym, ap, ◌∙◌, subst}
use Prim.Native.Nat.{ℕ, ◌<◌, ◌≤◌}
use lib.IntN.{ℤ}
use lib.ListN.{length, get_or, take, drop}
use lib.Seq.{take_at}
use Rattle.refusal.specs.Limit.{gives}
use Rattle.refusal.specs.Inner.{passed, asked}
use Rattle.refusal.proofs.Asking.{asked-given}
use Rattle.layout.specs.declared.Header.{Header}
use Rattle.layout.specs.Layout.{version1, record_start}
use Rattle.frame.specs.File.{header_of}
use Rattle.frame.specs.Questions.{file_questions, checked}
use Rattle.frame.proofs.Accepted.{questions-passed, header_is}
use Rattle.layout_write.proofs.Rows.{version1-writable}
use Rattle.frame_write.specs.declared.GridValues.{GridValues}
use Rattle.frame_write.specs.Write.{triangle_count, file_bytes, write_questions, writing, written_bytes}
use Rattle.frame_write.proofs.Asked.{admitted, write-given}
use Rattle.round_trip.specs.RoundTrip.{grid_values_of, records_numbers, Reads, WriteThenRead, ReadThenWrite}
use Rattle.round_trip.proofs.Written.{file-length, written-reads}
use Rattle.round_trip.proofs.Again.{file-again, asked-again}

-- What a check says of bytes that read as values.
checks : (g : GridValues) (zs : List ℤ) (s : List ℕ) → Reads version1 g zs s → checked s ≡ gives (header_of s)
unfolding checked
checks g zs s r = r.accepted

pub write-then-read : WriteThenRead
unfolding writing
write-then-read g zs out n e =
    let given = asked-given (record_start version1 (triangle_count zs)) (write_questions version1 g zs (length out)) e in
    let a = admitted version1 g zs (length out) given.0 in
    let file = file_bytes version1 g zs in
    let long : length file ≡ n = file-length version1-writable g zs (length out) a ∙ given.1 in
    let left = sym (write-given g zs out given.0).1 in
    let same : take n (written_bytes g zs out) ≡ file = ap (take n) left ∙ take_at file (drop (record_start version1 (triangle_count zs)) out) n long in
    let r = written-reads version1-writable g zs (length out) a in
    subst (λ (s : List ℕ). (length s ≡ n) × (checked s ≡ gives (header_of s)) × Reads version1 g zs s) (sym same) (long, checks g zs file r, r)

module _ (s : List ℕ) (bytes : (i : ℕ) → get_or s i 0 < 256) (ok : asked (file_questions s) ≡ passed) (out : List ℕ) (room : length s ≤ length out) where
  abbrev g : GridValues
  g = grid_values_of (header_of s)

  abbrev zs : List ℤ
  zs = records_numbers version1 s (header_of s).count

  rewritten : (writing g zs (length out) ≡ gives (length s)) × (written_bytes g zs out ≡ s ++ drop (length s) out)
  rewritten =
      let questions = asked-again version1-writable s bytes ok (length out) room in
      let again = file-again version1-writable s bytes ok in
      let given = write-given g zs out questions in
      let size : record_start version1 (triangle_count zs) ≡ length s =
      sym (file-length version1-writable g zs (length out) (admitted version1 g zs (length out) questions)) ∙ ap length again in
      (sym given.0 ∙ ap gives size, sym given.1 ∙ λ i. again i ++ drop (size i) out)

pub read-then-write : ReadThenWrite
read-then-write s h bytes e out room =
    subst
    (λ (k : Header). let zs = records_numbers version1 s k.count in (writing (grid_values_of k) zs (length out) ≡ gives (length s)) × (written_bytes (grid_values_of k) zs out ≡ s ++ drop (length s) out))
    (header_is s h e)
    (rewritten s bytes (questions-passed s h e) out room)
