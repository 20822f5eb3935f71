-- What an answer that a `?` hands on says.
--     said-err    the limit of an error
-- Assumes nothing.
use mathlib.Core.Path.{◌≡◌, ap}
use Rattle.std.specs.Prelude.{Result, Ok, Err, IsErrAnd}
use Rattle.refusal.specs.declared.Limit.{Limit}
use Rattle.refusal.specs.Limit.{Answer, said, said_limit}

pub said-err : {A : Type 0} (r : Result A Limit) (l : Limit) → IsErrAnd r (λ e. e ≡ l) → said r ≡ said_limit l
said-err (Ok a) l h = absurd h
said-err (Err e) l h = ap said_limit h
