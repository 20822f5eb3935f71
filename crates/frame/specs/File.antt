-- A frame file's header and its records, of the file's bytes. Definitions only. Other crates speak of a file in these words, and of no layout.
use Rattle.std.specs.Prelude.{List, ℕ}
use Rattle.layout.specs.declared.Header.{Header}
use Rattle.layout.specs.declared.Record.{Record}
use Rattle.layout.specs.Layout.{version1}
use Rattle.layout.specs.Values.{header_in, record_in, from_record}

-- The header's values.
abbrev pub header_of : List ℕ → Header
header_of s = header_in version1 s

-- The values of record i.
abbrev pub record_of : List ℕ → ℕ → Record
record_of s i = record_in version1 (from_record version1 s i)
