-- A frame as text: numbers with spaces behind them, and comments, which begin with `#`. Definitions only.
use Rattle.std.specs.Prelude.{cond, List, ◌∷◌, ◌++◌, ℕ, eqb, drop}
use Rattle.layout.specs.declared.Header.{Header}
use Rattle.layout.specs.declared.Record.{Record}
use Rattle.text.specs.Text.{spaced, line_feed}
use Rattle.numbers.specs.Numbers.{header_numbers, record_numbers}

-- The grid's values and the count of triangles: the header's numbers but the first, the version.
abbrev pub grid_line : Header → List ℕ
grid_line h = spaced (drop 1 (header_numbers h)) ++ line_feed

-- A kind in words: "# frame", "# entry gate", "# exit gate"; any other "# unused".
abbrev pub kind_text : ℕ → List ℕ
kind_text k =
    cond (eqb k 0) (35 ∷ 32 ∷ 102 ∷ 114 ∷ 97 ∷ 109 ∷ 101 ∷ line_feed)
    (cond (eqb k 1) (35 ∷ 32 ∷ 101 ∷ 110 ∷ 116 ∷ 114 ∷ 121 ∷ 32 ∷ 103 ∷ 97 ∷ 116 ∷ 101 ∷ line_feed)
    (cond (eqb k 2) (35 ∷ 32 ∷ 101 ∷ 120 ∷ 105 ∷ 116 ∷ 32 ∷ 103 ∷ 97 ∷ 116 ∷ 101 ∷ line_feed)
    (35 ∷ 32 ∷ 117 ∷ 110 ∷ 117 ∷ 115 ∷ 101 ∷ 100 ∷ line_feed)))

-- A record: its ten numbers, and its kind in words.
abbrev pub record_line : Record → List ℕ
record_line r = spaced (record_numbers r) ++ kind_text r.kind
