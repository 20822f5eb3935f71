-- `desk::desk_bar`: the search's answer, packed, and the weights that it shows.
use Rattle.std.proofs.Common.{refl}
use Rattle.std.specs.Prelude.{Some, None}
use Rattle.refusal.specs.Limit.{gives, said_limit}
use Rattle.desk.proofs.Bars.{told, bar-left}
use Rattle.desk.proofs.desk_bar.Goals as goal

pub returns-in-Ok-None : goal.returns-in-Ok-None
returns-in-Ok-None c =
    let a = c.args in
    let e = rw c.in-Ok-None.field-0-is at c.in-Ok-None.ensures in
    told a.file.now a.cell a.weights.now (gives None) a.weights.now e.0 c.pack.ensures (e.1, refl)

pub returns-in-Ok-Some : goal.returns-in-Ok-Some
returns-in-Ok-Some c =
    let a = c.args in
    let e = rw c.in-Ok-Some.field-0-is at c.in-Ok-Some.ensures in
    let new = c.write_bar.new.weights in
    told a.file.now a.cell a.weights.now (gives (Some c.in-Ok-Some.bar.index)) new e.0 c.write_bar.ensures.0 (bar-left a.file.now a.cell a.weights.now new c.in-Ok-Some.bar e.1 c.write_bar.ensures.1)

pub returns-in-Err : goal.returns-in-Err
returns-in-Err c =
    let a = c.args in
    told a.file.now a.cell a.weights.now (said_limit c.in-Err.limit) a.weights.now c.in-Err.ensures.0 c.pack_limit.ensures refl
