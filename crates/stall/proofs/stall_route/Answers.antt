-- `stall::stall_route`: the test's answer, packed.
use Rattle.std.proofs.Common.{ap, ◌∙◌}
use Rattle.stall.specs.Calls.{packed_route}
use Rattle.stall.proofs.Answers.{tested}
use Rattle.stall.proofs.stall_route.Goals as goal

pub returns-in-Ok-Free : goal.returns-in-Ok-Free
returns-in-Ok-Free c =
    let a = c.args in
    let said = rw c.in-Ok-Free.field-0-is at c.in-Ok-Free.ensures.0 in
    tested a.file.now a.map.now a.numbers.now (c.pack.ensures ∙ ap packed_route said)

pub returns-in-Ok-Blocked : goal.returns-in-Ok-Blocked
returns-in-Ok-Blocked c =
    let a = c.args in
    let said = rw c.in-Ok-Blocked.field-0-is at c.in-Ok-Blocked.ensures.0 in
    tested a.file.now a.map.now a.numbers.now (c.pack-in-Ok-Blocked.ensures ∙ ap packed_route said)

pub returns-in-Err : goal.returns-in-Err
returns-in-Err c = let a = c.args in tested a.file.now a.map.now a.numbers.now (c.pack_limit.ensures ∙ ap packed_route c.in-Err.ensures.0)
