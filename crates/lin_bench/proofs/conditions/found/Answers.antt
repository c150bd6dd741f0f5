use Rattle.std.proofs.Common.{◌∙◌, ap}
use Rattle.lin_bench.specs.Verdicts.{found, messages_finding}
use Rattle.lin_bench.proofs.conditions.found.Goals as goal

pub returns-in-Messages : goal.returns-in-Messages
unfolding found
returns-in-Messages c =
    let count = rw c.log.ensures.entries at c.count_left-count.ensures in
    record {
      found = rw c.in-Messages.is (c.messages.ensures ∙ ap (messages_finding c.in-Messages.low c.in-Messages.high) count.count);
      watch = record { count = count.kept; cycle = c.requires.watch.cycle };
    }
