use Rattle.std.proofs.Common.{append_assoc}
use Rattle.lin_core.specs.Tables.{cause_word}
use Rattle.lin_text.proofs.Growing.{grows-more}
use Rattle.lin_log.proofs.CallerTexts.{quiet-same}
use Rattle.lin_log.proofs.Ends.{grows-last}
use Rattle.lin_log.proofs.Quiet.{quiet-cause}
use Rattle.lin_log.proofs.writing.put_event.Goals as goal

pub returns-in-Accepted : goal.returns-in-Accepted
returns-in-Accepted g c = rw c.in-Accepted.is (rw (append_assoc, append_assoc) at (grows-last c.put_fate.ensures))

pub returns-in-Slot : goal.returns-in-Slot
returns-in-Slot g c = rw c.in-Slot.is
    (grows-more c.put_text.ensures (grows-more c.put_table.ensures (grows-more (rw c.from.ensures at c.put_called.ensures) (grows-last c.put_header.ensures))))

pub returns-in-Due : goal.returns-in-Due
returns-in-Due g c = rw c.in-Due.is (grows-last c.put_lone_node.ensures)

pub returns-in-Put : goal.returns-in-Put
returns-in-Put g c = rw c.in-Put.is
    (rw append_assoc at (grows-more c.put_lone_node-in-Put.ensures (grows-last (rw c.as_slice.ensures.items at c.put_bytes.ensures))))

pub returns-in-Seen : goal.returns-in-Seen
returns-in-Seen g c = rw c.in-Seen.is (c.put_seen_words.ensures (g.N.Naming.language c.args.names.now))

pub returns-in-Message : goal.returns-in-Message
returns-in-Message g c = rw c.in-Message.is
    (rw append_assoc at (grows-more c.put_lone_node-in-Message.ensures (grows-more c.put_node.ensures (grows-last (rw c.as_slice-in-Message.ensures at c.put_bytes-in-Message.ensures)))))

pub returns-in-Sent : goal.returns-in-Sent
returns-in-Sent g c = rw c.in-Sent.is (rw (append_assoc, append_assoc) at (grows-last c.put_fate-in-Sent.ensures))

pub returns-in-Lost : goal.returns-in-Lost
returns-in-Lost g c = rw (c.in-Lost.is, quiet-same (cause_word c.in-Lost.cause) (quiet-cause c.in-Lost.cause)) (rw (append_assoc, append_assoc) at (grows-more c.put_fate-in-Lost.ensures (grows-last (rw c.word.ensures at c.put_word.ensures))))
