use Rattle.lin_export.proofs.Puttings.{writes-nothing}
use Rattle.lin_tool.proofs.check_lists.write_wanted_slots.Goals as goal

pub returns-then-is_wanted : goal.returns-then-is_wanted
returns-then-is_wanted g c = rw c.if-is_wanted.true c.write_slots.ensures

pub returns-else-is_wanted : goal.returns-else-is_wanted
returns-else-is_wanted g c =
    rw c.if-is_wanted.false (writes-nothing (g.W.Write.contents c.args.writer.now))
