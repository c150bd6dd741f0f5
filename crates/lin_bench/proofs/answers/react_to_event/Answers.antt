use Rattle.std.proofs.Common.{◌≡◌, ◌==◌, ◌&&◌, not, true}
use Rattle.lin_core.specs.History.{is_in}
use Rattle.lin_bench.proofs.answers.react_to_event.Goals as goal

pub returns-in-Message : goal.returns-in-Message
returns-in-Message c =
    let may : true ≡ c.in-Message.from == 0 && not (is_in c.args.rules.now.offs c.in-Message.to)
    = rw c.as_slice.ensures at c.if-may_react.ensures in
    rw (c.in-Message.is, ← may) (rw c.as_slice-in-Message.ensures at c.react.ensures)
