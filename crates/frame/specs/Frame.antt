-- What a check of a frame file says. Definitions only.
use Rattle.std.specs.Prelude.{Result, Ok, Err}
use Rattle.refusal.specs.declared.Limit.{Limit}
use Rattle.refusal.specs.Limit.{Answer, gives, said_limit}
use Rattle.layout.specs.declared.Header.{Header}
use Rattle.frame.specs.declared.Frame.{Frame}

-- A check gives the header's values.
abbrev pub said_check : Result Frame Limit → Answer Header
said_check (Ok f) = gives f.header
said_check (Err l) = said_limit l
