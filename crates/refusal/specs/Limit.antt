-- The limits that an input may break, by the numbers of documents 01 and 02, and what a call says. Definitions only.
use Rattle.std.specs.Prelude.{List, ℕ, Result, Ok, Err}
use Rattle.refusal.specs.declared.Limit.{Limit}
use Rattle.refusal.specs.declared.Limit.TheVariants.{ShortHeader, Version, ZeroEdge, ReservedBits, Extent, FileLength, UnusedKind, ShortMap, PointCount, PointOutside, ShortOutput, Unwritable, PlyForm, PlyVertex, PlyFace, CellOutside}
use Rattle.refusal.specs.declared.Refusal.{Refusal}

-- What a call says: it gives what was asked for; or it is refused, with a number and a place only.
pub data Answer (A : Type 0) : Type 0 where
  gives : A → Answer A
  refused : (number place : ℕ) → Answer A

abbrev pub numbered : ℕ → ℕ → Refusal
numbered n p = record { number = n; place = p }

-- The number of the question that a broken limit answers with "no", and the place. The place is 0 unless stated.
abbrev pub refusal_of : Limit → Refusal
refusal_of ShortHeader = numbered 1 0
refusal_of Version = numbered 2 0
refusal_of ZeroEdge = numbered 3 0
refusal_of ReservedBits = numbered 4 0
refusal_of Extent = numbered 5 0
refusal_of FileLength = numbered 6 0
refusal_of (UnusedKind i) = numbered 7 i
refusal_of ShortMap = numbered 8 0
refusal_of PointCount = numbered 9 0
refusal_of (PointOutside m) = numbered 10 m
refusal_of ShortOutput = numbered 11 0
refusal_of Unwritable = numbered 12 0
refusal_of PlyForm = numbered 13 0
refusal_of (PlyVertex k) = numbered 14 k
refusal_of (PlyFace f) = numbered 15 f
refusal_of CellOutside = numbered 16 0

-- What a call says that is refused for a limit.
abbrev pub said_limit : {A : Type 0} → Limit → Answer A
said_limit l = refused (refusal_of l).number (refusal_of l).place

-- What the code's answer says: its value; or, where it is an error, the number and the place of the limit.
abbrev pub said : {A : Type 0} → Result A Limit → Answer A
said (Ok a) = gives a
said (Err l) = said_limit l

-- Bytes that a call replaces. After a refusal they are what they were.
abbrev pub unless_refused : {A : Type 0} → Answer A → (new old : List ℕ) → List ℕ
unless_refused (gives a) new old = new
unless_refused (refused n p) new old = old
