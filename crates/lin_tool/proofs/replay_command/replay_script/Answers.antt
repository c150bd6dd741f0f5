use Rattle.lin_tool.proofs.Shows.{begins, log-of, shows, stopped}
use Rattle.lin_tool.proofs.replay_command.replay_script.Goals as goal

pub returns-in-Ok : goal.returns-in-Ok
returns-in-Ok g c =
    let room = c.within_limits-capacity.ensures.value in
    let (said, read, made) = c.in_ok-core.ensures.log in
    let script = rw c.as_slice.ensures.value at read in
    let log = log-of _ _ _ _ _ _ c.in_ok-bytes.ensures.0 said script (rw room at made) in
    let whole = rw c.as_ref.ensures.value at (rw room at (rw c.in_ok-core.ensures.core.0 at c.in-Ok.ensures.text)) in
    (c.in_ok-core.core.log, log, shows _ _ _ _ whole)

pub returns : goal.returns
returns g c =
    let room = c.within_limits-capacity.ensures.value in
    let (said, read, made) = c.in_ok-core.ensures.log in
    let script = rw c.as_slice.ensures.value at read in
    let log = log-of _ _ _ _ _ _ c.in_ok-bytes.ensures.0 said script (rw room at made) in
    let part = rw c.as_ref.ensures.value at (rw room at (rw c.in_ok-core.ensures.core.0 at c.in-Err.ensures.text)) in
    rw c.from.ensures (stopped _ _ _ _ _ _ _ _ c.in-Err.fault c.in-Err.ensures.memory
    (c.in_ok-core.core.log, log, begins _ _ _ _ part))
