use Rattle.std.proofs.Common.{◌∙◌, ◌++◌, sym, take}
use Rattle.std.specs.Prelude.{flat_map}
use Rattle.lin_core.specs.History.{events}
use Rattle.lin_bench.specs.Searches.{taken_by}
use Rattle.lin_bench.proofs.SoughtEvents.{lost-left, same-host}
use Rattle.lin_bench.proofs.left_events.is_loss_left.Goals as goal

pub returns-then-is_host : goal.returns-then-is_host
returns-then-is_host c = λ es rest known are.
    let e = c.args.event.now in
    let before = flat_map events (take c.args.entry es) ++ c.args.before.now in
    c.is_left.ensures es e rest known are (rw c.in-Lost.is (same-host c.in-Lost.host))
    ∙ lost-left c.args.which (taken_by es c.args.taken.now) before e c.in-Lost.host c.in-Lost.number c.in-Lost.cause c.in-Lost.is (sym c.is_host.ensures ∙ c.if-is_host.true)
