use Rattle.std.proofs.lemmas.Bool.{le-leb, lt-leb}
use Rattle.lin_text.proofs.Growing.{grows-more}
use Rattle.lin_export.proofs.cluster_lists.slot_times.put_slack.Goals as goal

pub returns-then-needed-delay : goal.returns-then-needed-delay
returns-then-needed-delay g c = rw (le-leb c.args.needed c.args.delay c.if-needed-delay.true) c.put_number.ensures

pub returns-else-needed-delay : goal.returns-else-needed-delay
returns-else-needed-delay g c =
    rw (lt-leb c.args.needed c.args.delay c.if-needed-delay.false) (grows-more c.put_byte.ensures c.put_number-else-needed-delay.ensures)
