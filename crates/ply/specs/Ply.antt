-- What the reading of a scanner's file says. Definitions only; no public promise of the finished product cites them.
use Rattle.std.specs.Prelude.{Option, Some, None}
use Rattle.ply_header.specs.declared.Form.{Form}
use Rattle.ply.specs.declared.Ply.{Ply}

-- A reading gives what the header says.
abbrev pub said_form : Option Ply → Option Form
said_form (Some p) = Some p.form
said_form None = None
