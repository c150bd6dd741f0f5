use Rattle.std.proofs.Common.{append-nil}
use Rattle.lin_parts.specs.Cluster.{entry_name, line_of}
use Rattle.lin_log.specs.CallerTexts.{seen_text}
use Rattle.lin_log.specs.Words.{spaced_word}
use Rattle.lin_text.proofs.Growing.{grows-more, same-growth}
use Rattle.lin_export.proofs.named.put_slot_names.Goals as goal

pub returns-in-Slot : goal.returns-in-Slot
returns-in-Slot g c =
    let name = seen_text (entry_name c.args.cluster.now (line_of c.args.cluster.now c.in-Slot.table c.in-Slot.number).entry) in
    let first = rw (c.entry_name.ensures, c.line_at-entry.ensures.line) at c.put_words.ensures in
    let last = rw (c.sporadic_frame.ensures, c.line_at-entry.ensures.line) at c.put_member.ensures in
    rw c.in-Slot.is (grows-more (same-growth (append-nil (spaced_word name)) first) last)
