use Rattle.std.proofs.Common.{sym, ◌∙◌, rules}
use Rattle.lin_text.proofs.Growing.{grows-more, text-written}
use Rattle.lin_tool.proofs.tally.write_tally.Goals as goal

pub returns : goal.returns
returns g c =
    let log = c.log-log.ensures.entries in
    let put =
    grows-more c.put_text.ensures
    (grows-more c.put_counted.ensures
    (grows-more (rw c.unmet_in.ensures at c.put_counted-2.ensures)
    (grows-more (rw (c.slots_finished.ensures, log) at c.put_counted-3.ensures)
    (grows-more (rw (c.from.ensures, c.time.ensures) at c.put_counted-4.ensures)
    (grows-more (rw (c.steps_refused.ensures, log) at c.put_counted-5.ensures)
    (grows-more (rw (c.messages_lost.ensures, log) at c.put_counted-6.ensures)
    (rw c.waiting_in.ensures at c.put_counted-7.ensures))))))) in
    let same = sym (put.same ∙ c.new-out.ensures.same) in
    let written = text-written c.new-out.ensures put c.finish.ensures in
    search rules
