use Rattle.std.proofs.Common.{append-nil, sym}
use Rattle.std.specs.Fmt.{decimal}
use Rattle.lin_export.specs.LastSlot.{kept_slot}
use Rattle.lin_log.specs.Words.{spaced_word}
use Rattle.lin_text.proofs.Growing.{same-growth}
use Rattle.lin_live.specs.Values.{slot_in_box}
use Rattle.lin_live.proofs.SaidWords.{ended-spaced}
use Rattle.lin_live.proofs.answer_texts.put_answer.Goals as goal

pub returns-in-Number : goal.returns-in-Number
returns-in-Number g c =
    rw c.in-Number.is (same-growth (sym (append-nil (spaced_word (decimal c.in-Number.number)))) c.put_number.ensures)

pub returns-in-Pending : goal.returns-in-Pending
returns-in-Pending g c = rw c.in-Pending.is (rw c.as_slice.ensures at c.put_idle.ensures)

pub returns-in-LastSlot : goal.returns-in-LastSlot
returns-in-LastSlot g c =
    rw c.in-LastSlot.is (same-growth (ended-spaced c.args.cluster.now (kept_slot (slot_in_box c.in-LastSlot.last))) (rw c.unboxed.ensures at c.put_last_slot.ensures))

pub returns-in-Rules : goal.returns-in-Rules
returns-in-Rules g c = rw c.in-Rules.is (rw c.as_slice-in-Rules.ensures at c.put_rules.ensures)
