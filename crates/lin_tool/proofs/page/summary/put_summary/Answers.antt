use Rattle.lin_text.proofs.Growing.{grows-more}
use Rattle.lin_tool.proofs.page.summary.put_summary.Goals as goal

pub returns : goal.returns
returns g c =
    let log = c.log-log.ensures.entries in
    let slots = rw (c.slots_finished.ensures, log) at c.put_count.ensures in
    let looks = rw log at c.put_looks.ensures in
    let refused = rw (c.steps_refused.ensures, log) at c.put_count-2.ensures in
    let lost = rw (c.messages_lost.ensures, log) at c.put_count-3.ensures in
    let time = rw c.time.ensures at c.put_count-4.ensures in
    grows-more (grows-more (grows-more (grows-more (grows-more (grows-more c.put_text.ensures slots) looks) refused) lost) time) c.put_text-2.ensures
