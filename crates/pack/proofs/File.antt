-- The numbers of a refused file fit the bits that they are packed into.
--     file-fits      questions 1 to 7
-- Assumes nothing.
use mathlib.Core.List.{List}
use Prim.Native.Nat.{ℕ, ◌^◌, ◌<◌, ◌≤◌}
use native.Mathlib.Omega.{arith}
use lib.Dec.{lit<}
use Rattle.refusal.specs.Questions.{of_each}
use Rattle.layout.specs.Layout.{version1}
use Rattle.layout.proofs.Bounds.{header-bounded}
use Rattle.frame.specs.File.{header_of}
use Rattle.frame.specs.Questions.{header_questions, kind_question, file_questions}
use Rattle.pack.proofs.Fitting.{FitAll, fit_append, fit-each}

-- a question with a number up to 7 and the place 0
few : {n : ℕ} → n ≤ 7 → (n < 2 ^ 8) × (0 < 2 ^ 32)
few l = (omega arith, lit< tt)

pub file-fits : (s : List ℕ) → FitAll (file_questions s)
file-fits s =
    let h = header_of s in
    fit_append (header_questions version1 h s) (of_each (kind_question version1 s) h.count)
    (few (omega arith), (few (omega arith), (few (omega arith), (few (omega arith), (few (omega arith), (few (omega arith), tt))))))
    (fit-each (kind_question version1 s) h.count (λ i l. (lit< tt, omega (arith, (header-bounded version1 s).count))))
