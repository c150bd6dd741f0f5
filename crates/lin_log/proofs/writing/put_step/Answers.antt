use Rattle.lin_text.proofs.Growing.{grows-more}
use Rattle.lin_core.specs.Tables.{direction_word}
use Rattle.lin_log.proofs.CallerTexts.{quiet-same}
use Rattle.lin_log.proofs.Ends.{grows-last}
use Rattle.lin_log.proofs.Quiet.{quiet-direction}
use Rattle.lin_log.proofs.writing.put_step.Goals as goal

pub returns-in-Send : goal.returns-in-Send
returns-in-Send g c = rw c.in-Send.is
    (grows-more c.put_text.ensures (grows-more c.put_node.ensures (grows-more c.put_node-in-Send.ensures (grows-last (rw c.as_slice.ensures at c.put_bytes.ensures)))))

pub returns-in-Write : goal.returns-in-Write
returns-in-Write g c = rw c.in-Write.is
    (grows-more c.put_text-in-Write.ensures (grows-more c.put_node-in-Write.ensures (grows-more c.put_signal.ensures (grows-last c.put_value.ensures))))

pub returns-in-Answer : goal.returns-in-Answer
returns-in-Answer g c = rw c.in-Answer.is (grows-last c.put_lone_node.ensures)

pub returns-in-Leave : goal.returns-in-Leave
returns-in-Leave g c = rw c.in-Leave.is (grows-last c.put_lone_node-in-Leave.ensures)

pub returns-in-Hurt : goal.returns-in-Hurt
returns-in-Hurt g c = rw c.in-Hurt.is (grows-more c.put_text-in-Hurt.ensures (grows-last (rw c.as_slice-in-Hurt.ensures at c.put_bytes-in-Hurt.ensures)))

pub returns-in-Timeout : goal.returns-in-Timeout
returns-in-Timeout g c = rw (c.in-Timeout.is, quiet-same (direction_word c.in-Timeout.dir) (quiet-direction c.in-Timeout.dir))
    (grows-more c.put_text-in-Timeout.ensures (grows-more c.put_node-in-Timeout.ensures (grows-last (rw c.word.ensures at c.put_word.ensures))))

pub returns-in-Switch : goal.returns-in-Switch
returns-in-Switch g c = rw c.in-Switch.is (grows-more c.put_text-in-Switch.ensures (grows-last c.put_table.ensures))

pub returns-in-Close : goal.returns-in-Close
returns-in-Close g c = rw c.in-Close.is (grows-last c.put_lone_node-in-Close.ensures)
